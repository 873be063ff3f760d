pub mod Keep
pub mod Listed
pub mod Own
pub mod TagList
pub mod Walk
pub mod Writer

pub mod TagList
pub mod Content
pub mod Stream
pub mod UN
pub mod Listed
pub mod Own
pub mod Walk
-- for inner contracts; a reader need not believe it
pub mod Inner

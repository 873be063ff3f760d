-- For inner contracts; no part of what a reader has to believe.
pub mod Keep
pub mod Writer
pub mod Listed
pub mod Own
pub mod Walk

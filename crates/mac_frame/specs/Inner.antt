-- For inner contracts; no part of what a reader has to believe.
pub mod Puts

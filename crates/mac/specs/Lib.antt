pub mod Modes
pub mod Result
pub mod ListMode
pub mod SignatureMode
-- for inner contracts; a reader need not believe it
pub mod Inner

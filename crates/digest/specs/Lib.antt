pub mod Words
pub mod Padding
pub mod Message
pub mod Sha256
pub mod Constants
pub mod Running
pub mod Theorems
-- for inner contracts; a reader need not believe it
pub mod Inner

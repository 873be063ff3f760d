pub mod Constants
pub mod Rounds

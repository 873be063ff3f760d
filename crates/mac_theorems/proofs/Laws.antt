pub mod Answers
pub mod Demand3
pub mod Length
pub mod Signature

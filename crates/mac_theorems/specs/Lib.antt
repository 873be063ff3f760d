pub mod Calls
pub mod Demand3
pub mod Removed17
pub mod Theorems
pub mod Examples
pub mod SignatureExamples

pub mod Laws
pub mod Removed17
pub mod Demand3
pub mod Theorems
pub mod Examples
pub mod SignatureExamples

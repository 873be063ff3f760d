pub mod Bools
pub mod Comparing
pub mod Parts
pub mod SameBytes
pub mod Tables
pub mod Writing

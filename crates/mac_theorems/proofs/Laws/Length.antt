pub mod FoundLies
pub mod ListInsertion
pub mod ListStreamLength
pub mod SignatureStreamLength

pub mod Checks
pub mod Ends
pub mod FilledHeaders
pub mod HeaderFacts

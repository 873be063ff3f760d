pub mod Acceptance
pub mod CheckAnswers
pub mod EveryAnswer
pub mod ListedElements
pub mod Outputs
pub mod SignatureAcceptance
pub mod Verdicts

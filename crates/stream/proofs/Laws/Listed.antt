pub mod Finding
pub mod ListedAnswers
pub mod Merge
pub mod WalkListLoop

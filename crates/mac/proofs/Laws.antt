pub mod AnswersFrom9
pub mod EitherCall
pub mod ListMode
pub mod SignatureMode
pub mod Verdict

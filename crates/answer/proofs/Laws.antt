pub mod OrElse
pub mod Refusals
pub mod Steps

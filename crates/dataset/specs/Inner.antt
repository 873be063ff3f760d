pub mod Header
pub mod Outcomes
pub mod Place

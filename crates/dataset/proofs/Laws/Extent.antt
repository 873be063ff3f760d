pub mod ItemsFrom
pub mod OneItem
pub mod Outside

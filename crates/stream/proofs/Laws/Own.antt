pub mod OwnElements
pub mod OwnLoop

pub mod Following
pub mod Measuring
pub mod StreamWalk
pub mod WriteMeasured

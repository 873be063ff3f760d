pub mod PlaceValues
pub mod Items
pub mod Parameters
pub mod Select

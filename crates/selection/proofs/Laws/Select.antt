pub mod SelectPlaces
pub mod SelectionNumbers

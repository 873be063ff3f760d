pub mod Extent
pub mod Header
pub mod Lookup
pub mod Reading
pub mod Seek

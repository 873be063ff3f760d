pub mod Bytes
pub mod Tags
pub mod Vr
pub mod Header
pub mod Tree
pub mod Reading
pub mod Lookup
pub mod Extent
pub mod Place
pub mod Order
pub mod Theorems
-- for inner contracts; a reader need not believe it
pub mod Inner

pub mod ByteSlices
pub mod Encoding
pub mod Fitting
pub mod Injective
pub mod ListedContent

pub mod Bytes
pub mod Padding
pub mod Running
pub mod Sha256

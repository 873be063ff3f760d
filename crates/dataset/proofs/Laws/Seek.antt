pub mod Places
pub mod SeekLoop

pub mod FrameLayout
pub mod FrameTests

pub mod FindItemLoop

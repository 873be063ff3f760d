pub mod FindLoop

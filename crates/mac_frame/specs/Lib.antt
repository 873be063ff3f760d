pub mod Text
pub mod Frame
pub mod Theorems
-- for inner contracts; a reader need not believe it
pub mod Inner

pub mod Selection
pub mod Selected
-- for inner contracts; a reader need not believe it
pub mod Inner

pub mod ListMode

pub mod BarredLoop
pub mod ElementsLoop
pub mod FragmentsLoop
pub mod ItemsLoop
pub mod WriteElement
pub mod OneWalks
pub mod StreamLength
pub mod Walks

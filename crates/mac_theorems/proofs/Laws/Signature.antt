pub mod SelectedItem
pub mod SignatureStream

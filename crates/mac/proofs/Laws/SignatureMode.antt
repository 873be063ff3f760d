pub mod SignatureMode

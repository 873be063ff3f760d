pub mod Fits
pub mod HexLines
pub mod TextPieces

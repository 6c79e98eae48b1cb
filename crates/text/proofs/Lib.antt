pub mod Digits
pub mod Pieces
pub mod Laws

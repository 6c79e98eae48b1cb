-- RULES 11.1, 11.2 and 11.17: words, digits and bytes as text, and text put into lent bytes.
pub mod Text
pub mod Pieces
pub mod Promises
pub mod Laws

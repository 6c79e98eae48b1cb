-- RULES 2 and 3, answers, identifiers and frames.
pub mod Bytes
pub mod Identifier
pub mod Frame
pub mod Standard
pub mod Promises
pub mod Laws

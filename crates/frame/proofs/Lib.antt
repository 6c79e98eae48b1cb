pub mod Bytes
pub mod Library
pub mod Frame
pub mod Laws
pub mod Sent

-- RULES 12, fast packets.
pub mod FastPacket
pub mod Names
pub mod OnePair
pub mod Receiver
pub mod Splitter
pub mod Example
pub mod Promises
pub mod Private
pub mod Calls
pub mod Sending
pub mod Laws
pub mod Pauses

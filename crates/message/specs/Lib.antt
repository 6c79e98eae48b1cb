-- RULES 4 and 5, long messages.
pub mod LongMessage
pub mod OneSender
pub mod Receiver
pub mod Splitter
pub mod Promises
pub mod Private
pub mod Calls
pub mod Laws
pub mod PacketCount
pub mod Pauses

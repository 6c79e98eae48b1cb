pub mod Bytes
pub mod Steps
pub mod Pauses
pub mod Frames
pub mod Packets
pub mod Laws
pub mod PacketCount

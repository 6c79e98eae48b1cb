-- RULES 13.3 to 13.5, places for every packet format.
pub mod Format
pub mod OneKey
pub mod Places
pub mod Statements
pub mod Telling
pub mod Layout
pub mod Packets
pub mod Seats
pub mod Calls
pub mod Tiny
pub mod TinyReceiver

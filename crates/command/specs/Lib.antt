-- RULES 10, commands, requests and acknowledgments.
pub mod Hosted
pub mod Positions
pub mod Handed
pub mod Commands
pub mod Acknowledgment
pub mod Requests
pub mod Promises
pub mod Private
pub mod Laws
pub mod Editions

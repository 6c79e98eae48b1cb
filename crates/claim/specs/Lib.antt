-- RULES 8, claiming an address.
pub mod Candidates
pub mod Claim
pub mod History
pub mod Promises
pub mod Private
pub mod Calls
pub mod Laws
pub mod Pauses
pub mod Moves

pub mod Candidates
pub mod Sound
pub mod Outcomes
pub mod Calls
pub mod Machine
pub mod Laws
pub mod Pauses
pub mod Moves

-- RULES 9, the node table.
pub mod Table
pub mod Call
pub mod Promises
pub mod Private
pub mod Laws
pub mod Runs
pub mod Pauses

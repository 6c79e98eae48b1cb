-- RULES 11.1 to 11.7, the lines of a capture.
pub mod Digits
pub mod Line
pub mod Stream
pub mod Cutter
pub mod Promises
pub mod Private
pub mod Feeding
pub mod Runs
pub mod Laws

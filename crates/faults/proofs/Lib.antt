-- The laws of this crate, proved.
pub mod Steps
pub mod Table
pub mod Parts
pub mod FieldLaws
pub mod Counting
pub mod Passing
pub mod Chosen
pub mod Moves
pub mod Fair
pub mod Waiting
pub mod Longest
pub mod Played
pub mod Laws
pub mod RequestLaws

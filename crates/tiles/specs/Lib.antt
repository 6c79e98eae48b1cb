-- RULES 18, a wall panel of 32 tiles.
pub mod Exact
pub mod Tile
pub mod Panel
pub mod Promises
pub mod Private
pub mod Runs
pub mod Laws

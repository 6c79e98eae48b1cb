pub mod Exact
pub mod OneFrame
pub mod Running
pub mod Steps
pub mod Laws

-- RULES 16, a network of nodes.
pub mod Network
pub mod Laws
pub mod Listener
pub mod AnyOrder
pub mod Needed

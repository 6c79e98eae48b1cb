-- RULES 17, captures mended: what becomes of a line, and what is said of it.
pub mod Mending
pub mod Report
pub mod Places
pub mod Reader
pub mod Laws

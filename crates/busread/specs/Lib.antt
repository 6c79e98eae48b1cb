-- RULES 11.8 to 11.20, the report of a capture.
pub mod Report
pub mod Step
pub mod Reader
pub mod Laws

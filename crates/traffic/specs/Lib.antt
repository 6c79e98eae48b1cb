-- RULES 15, the traffic of a capture: figures for each pair of sender and DGN.
pub mod Figures
pub mod Report
pub mod Counters
pub mod Reader
pub mod Laws

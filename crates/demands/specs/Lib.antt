-- RULES 13, the three demands.
pub mod BusyBus
pub mod SplitAndJoin
pub mod FastBus
pub mod FastSplitAndJoin
pub mod ClaimsHeard
pub mod Pauses
pub mod EveryCall
pub mod Numbers
pub mod EveryLaw
pub mod Demands

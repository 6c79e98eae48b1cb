-- RULES 14, faults broadcast as DM_RV.
pub mod Rows
pub mod ServicePoint
pub mod Fault
pub mod Sender
pub mod Requests
pub mod Promises
pub mod Private
pub mod FieldLaws
pub mod Runs
pub mod Laws

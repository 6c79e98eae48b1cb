-- RULES 13, the demands and the examples named once more.
pub mod Ledger

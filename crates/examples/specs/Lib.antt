-- RULES 13.11, the worked examples.
pub mod Examples

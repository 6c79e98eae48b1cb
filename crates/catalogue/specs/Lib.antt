-- RULES 6 and 7, the catalogue and its fields.
pub mod Rows
pub mod Instances
pub mod Field
pub mod Table
pub mod Packed
pub mod Classes
pub mod Scale
pub mod Codes
pub mod Catalogue
pub mod Promises
pub mod Private
pub mod Laws

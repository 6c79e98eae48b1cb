pub mod Fields
pub mod Printing
pub mod Reading
pub mod Laws

pub mod Figures
pub mod Looking
pub mod Holding
pub mod Printing
pub mod Reading
pub mod Laws

pub mod Words
pub mod Tests
pub mod Lists
pub mod Pauses
pub mod WrongPauses

-- The words of all definitions: tests, answers (RULES 2), tests on lists, and pauses that add up.
pub mod Words
pub mod Lists
pub mod Pauses
pub mod WrongPauses

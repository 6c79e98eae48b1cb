pub mod Picks
pub mod Handing
pub mod Answers
pub mod PositionLaws
pub mod Laws
pub mod ReplyLaws
pub mod Unheld
pub mod Editions

pub mod Answers
pub mod Cases
pub mod Claims
pub mod Request
pub mod Rest
pub mod Shape

pub mod Answers
pub mod Cases
pub mod Claims
pub mod Server
pub mod Steps

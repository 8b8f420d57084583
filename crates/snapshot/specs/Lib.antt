pub mod Answers
pub mod Cases
pub mod Claims
pub mod Snapshot

pub mod Cases
pub mod Claims
pub mod Findings
pub mod ReplyTable
pub mod Serial
pub mod Words

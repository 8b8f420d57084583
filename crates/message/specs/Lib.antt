pub mod Answers
pub mod Cases
pub mod Grammar
pub mod Message
pub mod Name
pub mod Record
pub mod Scan

pub mod Answers
pub mod Cases
pub mod Grammar
pub mod Options

pub mod Answers
pub mod BelowLaws
pub mod Cases
pub mod SetLaws
pub mod StageLaws

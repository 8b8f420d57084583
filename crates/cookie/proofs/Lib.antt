pub mod BodyLaws
pub mod Cases
pub mod Fresh
pub mod Good
pub mod MessageLaws
pub mod OptionLaws
pub mod PCases
pub mod ServerLaws

pub mod Cases
pub mod GrammarLaws
pub mod LengthLaws
pub mod OptionLaws
pub mod Within

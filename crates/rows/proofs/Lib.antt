pub mod Cases
pub mod DigitLaws
pub mod NumberLaws
pub mod RowLaws
pub mod StoreLaws

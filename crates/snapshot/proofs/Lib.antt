pub mod Cases
pub mod Claims
pub mod ReadLaws
pub mod WriteLaws

pub mod Cases
pub mod EachLaws
pub mod NumberLaws
pub mod PartLaws
pub mod ReadLaws
pub mod RefusalLaws
pub mod RunLaws

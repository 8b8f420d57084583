pub mod Cases
pub mod GrammarLaws
pub mod MessageLaws
pub mod NameLaws
pub mod RecordLaws
pub mod ScanLaws
pub mod Within

pub mod Cases
pub mod ReplyLaws
pub mod SerialLaws
pub mod TableLaws
pub mod TimeLaws

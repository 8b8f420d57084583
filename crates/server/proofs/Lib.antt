pub mod Cases
pub mod Claims
pub mod OneAnswer
pub mod ReplyLaws
pub mod RespondLaws

pub mod BodyLaws
pub mod Cases
pub mod Claims
pub mod RestLaws
pub mod Shape

pub mod Cases
pub mod Claims
pub mod CookieOption
pub mod Hashed
pub mod Match
pub mod PCases
pub mod ServerCookie

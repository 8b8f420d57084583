pub mod FixedLaws
pub mod RotateLaws
pub mod WordLaws
pub mod Vectors

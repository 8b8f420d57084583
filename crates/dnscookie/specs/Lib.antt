pub mod AllCalls
pub mod Arguments
pub mod Calls
pub mod Cases
pub mod Claims
pub mod Words

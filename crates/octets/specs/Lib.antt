pub mod Cases
pub mod Numbers
pub mod Refusals
pub mod Runs

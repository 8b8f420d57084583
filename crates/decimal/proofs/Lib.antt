pub mod Cases
mod DecimalLaws

-- Closed cases
pub mod Cases

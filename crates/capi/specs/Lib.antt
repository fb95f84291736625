-- Definitions
pub mod Codes
-- Closed cases
pub mod Cases

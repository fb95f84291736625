-- Definitions
pub mod Calls
-- Closed cases
pub mod Cases
-- Laws
pub mod Laws

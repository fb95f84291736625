-- Definitions
pub mod Calls
pub mod Parts
-- Laws
pub mod Laws

-- Definitions
pub mod Outputs
pub mod Projected
-- What a call that is not refused knows
pub mod Known
-- Laws
pub mod Laws

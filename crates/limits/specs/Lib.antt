-- Definitions
pub mod Bounds
-- What a call that is not refused knows
pub mod Known
-- Laws
pub mod Laws

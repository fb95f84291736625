-- Definitions
pub mod Spread
pub mod Checks
-- What a call that is not refused knows
pub mod Known
-- Laws
pub mod Laws

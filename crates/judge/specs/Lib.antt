-- Definitions
pub mod Judging
pub mod Stages
pub mod Room
-- What a call that is not refused knows
pub mod Known
-- Theorems
pub mod Theorems
-- Closed cases
pub mod Cases
-- Laws
pub mod Laws

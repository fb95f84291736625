-- Definitions
pub mod WriteAnswer
pub mod Writing
-- What a call that is not refused knows
pub mod Known

-- Theorems
-- Laws
-- Closed cases

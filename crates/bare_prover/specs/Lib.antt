-- Definitions
pub mod Summands
-- What the work functions know
pub mod Known

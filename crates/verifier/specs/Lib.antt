-- Definitions
pub mod Judgement
-- Laws
pub mod Laws

-- Definitions
pub mod Places
pub mod Norms
pub mod Mixed
pub mod ConstantTerms
pub mod Relation
-- What a call that is not refused knows
pub mod Known
-- Laws
pub mod Laws

-- Definitions
pub mod Reads
-- Laws
pub mod Laws

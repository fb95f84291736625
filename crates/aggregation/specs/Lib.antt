-- Definitions
pub mod Rows
pub mod Values
pub mod Garbage
-- Laws
pub mod Laws

-- Definitions
pub mod Folded
pub mod Tables
pub mod Blocks
pub mod Entries
-- Laws
pub mod Laws

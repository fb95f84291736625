-- Definitions
pub mod Input
pub mod Messages
pub mod Witness
pub mod Runs
-- Laws
pub mod Laws

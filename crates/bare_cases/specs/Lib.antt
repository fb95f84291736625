-- Definitions
pub mod Input
pub mod Answers
-- Laws
pub mod Laws

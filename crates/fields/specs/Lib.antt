-- Definitions
pub mod Field
pub mod Fields
pub mod Sections
pub mod Place
-- Laws
pub mod Laws

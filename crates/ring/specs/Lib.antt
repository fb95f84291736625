-- Ring and digits (SPECIFICATION 2)
pub mod Element
pub mod Joined
-- What the code forms
pub mod Product
pub mod Short
-- Closed cases
pub mod Cases
-- Laws
pub mod Laws

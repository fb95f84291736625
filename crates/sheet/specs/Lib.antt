-- Definitions
pub mod Lists
pub mod SheetAnswer
pub mod Reading
pub mod Layout
-- What a call that is not refused knows
pub mod Known
-- Theorems
pub mod Theorems
-- Closed cases
pub mod Cases
-- Laws
pub mod Laws

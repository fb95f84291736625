-- Definitions
pub mod Numbers
pub mod Text
pub mod Lists
pub mod Input
pub mod Sums
-- Laws
pub mod Laws

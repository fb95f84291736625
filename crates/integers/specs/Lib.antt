-- Definitions: remainders, sums, lists by index
pub mod Remainder
pub mod Sums
pub mod Lists
pub mod Flat
pub mod Over
pub mod Literals
-- What is proved of them
pub mod Laws

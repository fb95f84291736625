pub mod Laws
pub mod Theorems
pub mod Cases

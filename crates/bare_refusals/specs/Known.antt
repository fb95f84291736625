pub mod Sized
pub mod Constraints

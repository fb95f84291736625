-- The tests of sizes, for the sizes of a struct
pub mod Bounds
-- What a call that is not refused by its sizes, or by its lengths, knows
pub mod Known
-- Laws
pub mod Laws

-- The checks in parts, and the summands of their sums
pub mod Judgement
pub mod Summands
-- What the work functions know
pub mod Known
-- Laws
pub mod Laws

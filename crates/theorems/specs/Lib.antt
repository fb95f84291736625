-- What a call's result is
pub mod Results
-- Demand 1
pub mod Refusals
pub mod NarrowDigits
-- Demand 2
pub mod NextInstance
-- Demand 3
pub mod HonestRuns
pub mod TwoOpenings
-- z in one digit
pub mod OneDigit
-- The bare level
pub mod BareLevel
pub mod MixedProducts
-- What accepted carries
pub mod Margin
-- The sheet and its verdict
pub mod Sheet

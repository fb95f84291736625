-- Ring and digits (SPECIFICATION 2)
pub mod Modulus
pub mod Digits
pub mod Length
pub mod Range
pub mod StraightLine
-- What the code forms
pub mod DigitBlocks

-- Definitions: rings and sums
pub mod CommRing
pub mod Integers
pub mod Sum
pub mod Triangle
-- the integers modulo m
pub mod Residue
pub mod IntegersModulo
-- K[X]/(X^d+1)
pub mod Vec
pub mod Polynomial
pub mod Negacyclic
pub mod Indeterminate
pub mod Conjugation
-- Dot-product functions
pub mod DotProduct
-- What is proved of them
pub mod Laws
pub mod Cases

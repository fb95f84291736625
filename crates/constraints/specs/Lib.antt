-- Definitions
pub mod RowGroups
pub mod Accumulator
pub mod ProjectedRows
pub mod Aggregated
-- What a call that is not refused knows
pub mod Known
-- Laws
pub mod Laws

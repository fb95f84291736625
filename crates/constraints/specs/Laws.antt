pub mod SizeLaws
pub mod Rows
pub mod Terms
pub mod RowGroupLaws
pub mod AccumulatorLaws
pub mod ProjectedRowLaws
pub mod AggregatedLaws

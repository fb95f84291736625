pub mod ProjectedLaws
pub mod OutputLaws

pub mod BlockLaws
pub mod Powers
pub mod Squares
pub mod FoldedLaws
pub mod TableLaws

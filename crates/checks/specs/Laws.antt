pub mod SizeLaws
pub mod PlaceLaws
pub mod Rows
pub mod NormLaws
pub mod MixedLaws
pub mod ConstantTermLaws
pub mod RelationLaws

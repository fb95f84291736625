pub mod RowLaws
pub mod SizeLaws
pub mod StageLaws
pub mod CountLaws

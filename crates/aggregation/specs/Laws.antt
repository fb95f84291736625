pub mod RowLaws
pub mod ValueLaws
pub mod GarbageLaws

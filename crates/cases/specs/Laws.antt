pub mod NumberLaws
pub mod TextLaws
pub mod ListLaws
pub mod InputLaws
pub mod SumLaws

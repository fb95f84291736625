pub mod CutLaws
pub mod SpreadLaws
pub mod Forming
pub mod CheckLaws

pub mod CheckLaws
pub mod JudgementLaws

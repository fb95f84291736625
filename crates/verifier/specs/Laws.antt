pub mod JudgementLaws

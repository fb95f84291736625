pub mod JudgeTheorem
pub mod MarginTheorem

pub mod LengthLaws
pub mod LineLaws
pub mod RefusalLaws
pub mod AnswerLaws
pub mod ReadLaws

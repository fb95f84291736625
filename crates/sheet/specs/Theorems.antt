pub mod SheetTheorems
pub mod HeaderTheorem

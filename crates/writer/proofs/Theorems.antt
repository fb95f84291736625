pub mod WriterTheorems
pub mod SameRefusal

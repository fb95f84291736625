pub mod ConstraintSized

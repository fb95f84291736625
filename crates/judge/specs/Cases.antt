pub mod WholeCase

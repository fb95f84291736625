pub mod ProductCases

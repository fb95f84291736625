pub mod SolverExamples

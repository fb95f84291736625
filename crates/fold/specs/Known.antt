pub mod Facts
pub mod WorkFacts
pub mod CallFacts
pub mod CallLimits
pub mod CutSizes
pub mod NextFacts

pub mod LowDigit
pub mod Length
pub mod ChallengeRules
pub mod Challenge

pub mod MessageLaws
pub mod WitnessLaws
pub mod RunLaws

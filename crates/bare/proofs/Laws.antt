pub mod InTurnLaws
pub mod UnmixedLaws
pub mod BareOpeningLaws
pub mod BareRanges
pub mod BareHonestChecks
pub mod BareHonestVerdict
pub mod BareAccepted
pub mod BareDifferences

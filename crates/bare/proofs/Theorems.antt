pub mod BareFormed
pub mod BareTaken
pub mod BareHonestRuns
pub mod BareTwoOpenings
pub mod BareMargin
pub mod BareRising
pub mod ChainEnds
pub mod BareCalls

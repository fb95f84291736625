pub mod StageLimits

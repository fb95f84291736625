-- 14.2: the statement
pub mod Statement
-- 14.4 to 14.6: the messages and the bare opening
pub mod Messages
pub mod Opening
pub mod Honest
-- 14.7 and 14.8: the verdict
pub mod Checks
pub mod Verdict
-- 7: refusals
pub mod Refusals
pub mod Arguments
pub mod Calls
-- What a call that is not refused knows
pub mod Known

-- Laws and theorems

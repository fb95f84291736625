-- Limits, sizes, statement, opening
pub mod Limits
pub mod Sizes
pub mod Statement
pub mod Opening
-- Messages (SPECIFICATION 4)
pub mod Messages
pub mod PairElements
pub mod Entries
-- Verdict (SPECIFICATION 6)
pub mod Verdict
pub mod Verification
-- Honest messages, and two openings (SPECIFICATION 9)
pub mod Honest
pub mod Differences
-- The next instance (SPECIFICATION 8)
pub mod Chunks
pub mod Constraint
pub mod NextInstance
pub mod NextCall
-- SPECIFICATION 7: the answers and the refusals
pub mod Rows
pub mod Answers
pub mod Codes
pub mod Refusals
-- The arguments of the calls
pub mod Arguments
-- What a call that is not refused knows
pub mod Known
-- Laws
pub mod Laws

-- Definitions that only clauses of private functions use.

-- that an input is a capture
pub mod Opened

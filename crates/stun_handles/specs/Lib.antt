-- What the contracts of this crate say, in reading order.

-- the addresses that callers pass and receive
pub mod Addresses
-- the numbers that calls return
pub mod Numbers
-- the stored keys of a user
pub mod Keys
-- what calls share: an address that may be invalid, and texts
pub mod Answers
-- definitions that no clause of a public call cites: what representations alone use
pub mod code

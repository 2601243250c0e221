-- What the contracts of this crate say.

-- which message a datagram answers
pub mod Hearing
-- requests that are not signed
pub mod Unsigned
-- what is sent is not bid down
pub mod Strength
-- how often a request may be refused
pub mod Refusing
-- how many datagrams a wrong password costs
pub mod Costs

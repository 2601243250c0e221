-- What the contracts of this crate say, in reading order.

-- what a client supports
pub mod Preferences
-- the list of a challenge: which of its entries are known
pub mod Offers
-- a challenge, and what a request for it has
pub mod Challenge
-- the rule: the algorithm with which a challenge is answered, and whether with a hashed name (RFC
-- 8489, section 9.2.5)
pub mod Rule
-- what is read in a challenge
pub mod Challenging
-- a challenge of one message, by the rule
pub mod Challenges
-- no server accepts less than the strongest algorithm that both sides support
pub mod Downgrade
-- which challenge new requests are signed for
pub mod Standing
-- the judgement of a response to an outstanding request
pub mod Judging
-- what a client adds to a request to sign it
pub mod Signing
-- how a response that is believed ends its request
pub mod Outcomes
-- which message answers a request
pub mod Answers
-- the transaction IDs of a client
pub mod Ids
-- definitions that no clause of a public call cites: views of the code's own structs
pub mod code

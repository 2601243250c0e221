-- What the contracts of this crate say, in reading order.

-- the responses that end a request
pub mod Responses
-- requests under a nonce that lasts, and after that
pub mod Sessions

-- What the contracts of this crate say, in reading order.

-- what holds for every client
pub mod Kept
-- which request an earlier message belongs to
pub mod Noted
-- the requests of a client, for every sequence of calls
pub mod Laws
-- which bytes are sent
pub mod Sent
-- the round trips of responses
pub mod RoundTrips

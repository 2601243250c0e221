-- What the contracts of this crate say, in reading order.

-- a client and a server that meet
pub mod Meeting
-- a new client and a server that meet
pub mod Beginning

-- What the contracts of this crate say, in reading order.

-- the first sentence, about datagrams: read this first
pub mod Sentence
-- the events at a server, and the outcome of each datagram
pub mod Events
-- a request that a registered user signs
pub mod Example
-- datagrams at a server without credentials, and at one with short-term credentials
pub mod Others

-- What the contracts of this crate say, in reading order.

-- a client and a server that have an algorithm in common
pub mod Agreement
-- the same realm with another password of one user
pub mod OtherSecrets
-- which challenges refuse a request
pub mod Refusals
-- what each side reads in the messages of the other
pub mod Exchange
-- a server, a user and a client that meet the premises
pub mod Instance

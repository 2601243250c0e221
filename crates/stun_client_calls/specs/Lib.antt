-- What the contracts of this crate say, in reading order.

-- how a single request is sent, and who answers it
pub mod Options
-- the messages of a request, and which of them becomes the current one
pub mod Messages
-- what follows from a response to one of them
pub mod Deciding
-- the transaction ID of the next message
pub mod Ids
-- the bytes of the next message
pub mod Writing
-- how a request ends
pub mod Endpoints
-- a client, and how each call changes it
pub mod Clients
-- a new client with long-term credentials
pub mod NewClients
-- what follows from a response at a client
pub mod Laws
-- what follows from a datagram at such a client
pub mod Receiving
-- what follows from the options of a request
pub mod OptionLaws
-- calls of a client, one after the other
pub mod Runs
-- when the requests of a client end
pub mod Bounds
pub mod code

-- What the contracts of this crate say, in reading order.

-- when a request is retransmitted, and when it ends (RFC 8489, sections 6.2.1 and 6.2.2)
pub mod Timing
-- outstanding requests (section 6.2)
pub mod Transactions
-- an agent, and how each call changes it (sections 6.2 and 6.3)
pub mod Agent
-- a table of requests with data of their owner (sections 6.2 and 6.3)
pub mod Tables
-- the addresses that an agent has validated
pub mod Peers
-- what an agent counts
pub mod Statistics
-- what is sent: bytes, transport and addresses
pub mod Datagrams
-- the work of a poll
pub mod Deadlines
-- requests that are borrowed with their agent
pub mod Requests
-- what an agent is after the borrows of a call have ended
pub mod AgentLends
-- calls of an agent, one by one
pub mod Calls
-- what the calls of a list count
pub mod Transcript
-- laws of an agent for every sequence of calls
pub mod Laws
-- definitions that no clause of a public call cites: codings of models, views of structs, steps of
-- the code
pub mod code

-- What the contracts of this crate say, in reading order.

-- the two roles, and how a conflict ends (RFC 8445, sections 7.2.5.1 and 7.3.1.1)
pub mod Roles
-- an agent, and the checks that it sends (sections 5.3 and 7.2)
pub mod Agent
-- the codes of error responses
pub mod Refusals
-- the parts of a check (section 7.1)
pub mod Parts
-- which checks of the peer an agent accepts, and how it refuses others (section 7.3)
pub mod Checks
-- its answers, byte by byte
pub mod Answers
-- the outcome of the answer to a check (section 7.2.5)
pub mod Responses
-- the outcome of a datagram
pub mod Received
-- the outcome that the result of `receive_into` describes, with the bytes in the buffer
pub mod Buffered
-- when the caller learns that a check is accepted, or that a pair is valid
pub mod Told
-- two agents, over a network that loses, repeats and reorders
pub mod Conflicts
-- definitions that no clause of a public call cites
pub mod code

-- What the contracts of this crate say, in reading order.

-- which server, which users, which ICE agent or which client a handle has
pub mod Kept
-- the settings that a caller passes, and the server that is built from them
pub mod Given
-- the table of users after a call
pub mod Users
-- the outcome of a datagram, as a caller receives it
pub mod Told
-- whose key signs the response to a request
pub mod Replies
-- the outcome of a datagram before its user is looked up
pub mod Lookups
-- the outcome of a datagram with a user who was found
pub mod Found
-- why a datagram is refused, as a caller receives it
pub mod Causes
-- the ICE agent that a caller creates
pub mod Agents
-- the checks that an agent writes, as a caller receives them and passes them again
pub mod Checks
-- the checks to which the caller adds attributes
pub mod Extended
-- the outcome of a datagram at an ICE agent, as a caller receives it
pub mod Judged
-- the client that a caller creates
pub mod ClientsGiven
-- the next thing to do for a client, as a caller receives it
pub mod Events
-- the body of a request that a caller passes
pub mod Attributes
-- how a caller has a single request sent
pub mod RequestsGiven
-- the results of the calls on a client, what they write, and the client after them
pub mod Clients
-- the statements of the laws over handles
pub mod HandleLaws
-- the statements of the laws over ICE agents
pub mod IceLaws
-- the statements of the laws over settings
pub mod SettingLaws
-- the statements of the laws over calls on a server
pub mod ServerLaws
-- the statements of the laws over calls on a client
pub mod ClientLaws
-- the statements of the laws over tables of users
pub mod UserLaws
-- definitions that no clause of a public call cites: what representations and private functions
-- alone use
pub mod code

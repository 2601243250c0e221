-- What the contracts of this crate say, in reading order.

-- the record that a server has of an address (section 9.2.4)
pub mod Seen
-- the part of a server that concerns one address (section 9.2.4)
pub mod Server
-- a whole server, its answer to a message, and its state after it (section 9.2.4)
pub mod Validation
-- the verdict of a server under a nonce that the caller passes (section 9.2.4)
pub mod Judged
-- which client a server accepts under the nonces of two epochs
pub mod Epochs
-- a list of datagrams, each judged alone
pub mod Datagrams
-- a user who is passed with a message
pub mod Handed
-- the records of all addresses
pub mod Places
-- when the record of an address is forgotten
pub mod Forgetting
-- forgetting in steps
pub mod ForgettingSteps
-- why a server refuses a message
pub mod Reasons
-- a client: its settings and what it stores (section 9.2)
pub mod Client
-- how a client answers a message, and its state after it (section 9.2.5)
pub mod ClientStep
-- the algorithms that a client supports, in their order
pub mod Supported
-- what a client adds (section 9.2.5)
pub mod ClientSigning
-- what a server adds (section 9.2.4)
pub mod ServerSigning
-- short-term authentication (section 9.1)
pub mod ShortTerm
-- what a client and a server add when they sign, by attribute
pub mod Signed
-- definitions that no clause of a public call cites: codings of models, views of structs, steps of
-- the code
pub mod code

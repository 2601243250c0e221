-- What the contracts of this crate say, in reading order.

-- the settings of a server, none of which depends on an address
pub mod Settings
-- its realm, and the table of its users
pub mod Realm
-- why no server can be built from some settings
pub mod Built
-- the nonce of an address in an epoch, a function of the secret (RFC 8489, section 9.2)
pub mod Nonces
-- which client is accepted: under the nonce of an epoch or of the epoch before (section 9.2.4)
pub mod Judged
-- what a server offers, and with which contents it accepts a request (section 9.2.4)
pub mod Offers
-- the responses, byte by byte
pub mod Answers
-- why a response cannot be ended
pub mod Ended
-- the codes of error responses and their reason phrases (section 14.8)
pub mod Refusals
-- how a server of every kind responds (section 6.3)
pub mod Responding
-- the outcome of a datagram (sections 6.3 and 9.2.4)
pub mod Received
-- the outcome that the result of `receive` describes, at each kind of server
pub mod Outcomes
-- requests whose user is looked up elsewhere (section 9.2.4)
pub mod Lookups
-- the outcome that the result of `identify` describes
pub mod Identified
-- why a request is refused, cause by cause (sections 9.2.4 and 6.3.1)
pub mod Causes
-- the outcome of a datagram at a server without credentials (section 6.3)
pub mod Open
-- the outcome of a datagram at a server with short-term credentials (section 9.1.3)
pub mod ShortTerm
-- the outcomes that the results of `receive_into` describe, with the bytes in the buffer
pub mod Buffered
-- the outcomes of the datagrams of a batch
pub mod Batches
-- definitions that no clause of a public call cites
pub mod code

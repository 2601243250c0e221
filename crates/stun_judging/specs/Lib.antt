-- What the contracts of this crate say, in reading order.

-- what an authenticator reads in a message (RFC 8489, sections 9.2.4 and 9.2.5)
pub mod Reading
-- integrity algorithms, sets and lists of them (sections 9.2.1 and 14.11)
pub mod Algorithms
-- whether user names are sent as their hash (section 9.2)
pub mod Feature
-- nonces and the security bits that they carry (section 9.2)
pub mod Nonces
-- the users of a realm and their keys (sections 9.2.2 and 14.4)
pub mod Registered
-- a realm: its users, and whether they may be named by a hash
pub mod Realm
-- which client is accepted under a nonce, and why others are refused (section 9.2.4)
pub mod Verdict
-- a verdict with the key of the user who is accepted
pub mod Judged
-- the user whom a message names, and a realm with one user
pub mod Named
-- a user who was found elsewhere, and the one key that a message needs
pub mod Found
-- a change of one user, and the messages that mean another
pub mod OtherUsers
-- what is added to a message (section 9)
pub mod Additions
-- the outcome of adding one attribute after another
pub mod Outcome
-- the attributes that signing adds, by type and value
pub mod AddedAttribute
-- how a client names its user (section 9.2.5)
pub mod Naming
-- the parts of an answer to a challenge, as the code has them
pub mod Parts
-- what a server adds so that a client can sign its next request (section 9.2.4)
pub mod Challenge
-- laws: what a reader finds in a message after additions
pub mod Joined
-- laws: what a reader finds in a message that was signed
pub mod Signed
-- definitions that no clause of a public call cites: codings of models, views of structs, steps of
-- the code
pub mod code

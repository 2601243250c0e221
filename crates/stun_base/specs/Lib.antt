-- What the contracts of this crate say, in reading order.

-- the header of a message, and the reasons why bytes do not begin with one (RFC 8489, section 5)
pub mod Header
-- class and method in the type field (section 5)
pub mod MessageType
-- the IDs of transactions (section 5)
pub mod TransactionId
-- the random numbers of an ID or a nonce
pub mod Words
-- the types of attributes (section 18.3)
pub mod Attributes
-- the texts of these types
pub mod AttributeText
-- two texts whose bytes are read in pairs
pub mod Pairs
-- the keyed hash (RFC 2104)
pub mod Hmac
-- the digests of message integrity (RFC 8489, sections 14.5 and 14.6)
pub mod Algorithm
-- the keys and hashes of credentials (sections 9.1.1, 9.2.2 and 14.4)
pub mod Keys
-- credentials as records of texts (section 9)
pub mod Credentials
-- times and spans, in nanoseconds
pub mod Moments
-- the texts of transports
pub mod Transport
-- the order of socket addresses
pub mod Address
-- bytes that are borrowed or owned
pub mod Data
-- definitions that no clause of a public call cites: codings of models, views of structs, steps of
-- the code
pub mod code

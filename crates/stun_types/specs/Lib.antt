-- What the contracts of this crate say, in reading order.

-- the limits of a message and its texts
pub mod Limits
-- which bytes are a message, and why others are not (RFC 8489, section 5)
pub mod Message
-- the attributes of a message, each with its offset (section 14)
pub mod Walk
-- which of them are visible: what an integrity attribute covers (sections 14.5 to 14.7)
pub mod Visible
-- the attributes of a message as spelled bytes (section 14)
pub mod Grammar
-- the algorithm whose digest verifies (sections 14.5, 14.6 and 9.2.4)
pub mod Integrity
-- what follows the attribute that decides (sections 14.5 to 14.7)
pub mod Tail
-- an attribute of a message: type, length, value, padding (section 14)
pub mod Attribute
-- the results of reading attributes
pub mod Reading
-- USERNAME, REALM and NONCE (sections 14.3, 14.9 and 14.10)
pub mod Text
-- USERHASH (section 14.4)
pub mod Userhash
-- ERROR-CODE (section 14.8)
pub mod ErrorCode
-- XOR-MAPPED-ADDRESS (section 14.2)
pub mod XorMappedAddress
-- PASSWORD-ALGORITHM and PASSWORD-ALGORITHMS (sections 14.11, 14.12 and 18.5)
pub mod PasswordAlgorithms
-- MESSAGE-INTEGRITY and MESSAGE-INTEGRITY-SHA256 (sections 14.5 and 14.6)
pub mod IntegrityAttributes
-- a message with one more attribute or digest, and why it is refused
pub mod Writing
-- what the calls of a writer do, if several share their clauses
pub mod WriterCalls
-- a writer that grows
pub mod WriteVec
-- a writer to a slice
pub mod WriteMutSlice
-- laws: what is written is read again
pub mod AttributeLaws
-- laws: an error that is written is read again
pub mod ErrorCodeLaws
-- laws: an address that is written is read again
pub mod XorMappedAddressLaws
-- laws: which attributes are equal
pub mod Equality
-- definitions that no clause of a public call cites: codings of models, views of structs, steps of
-- the code
pub mod code

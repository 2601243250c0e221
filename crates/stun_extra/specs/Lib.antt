-- What the contracts of this crate say, in reading order.

-- CRC-32, as a division of polynomials
pub mod Crc32
-- FINGERPRINT: how it is written at the end of a message, and what reading finds (RFC 8489, section
-- 14.7)
pub mod Fingerprint
-- types that must be understood and are not known, and UNKNOWN-ATTRIBUTES (sections 6.3.1 and
-- 14.13)
pub mod Unknown
-- ERROR-CODE, as an attribute to write (section 14.8)
pub mod Errors
-- Binding, the method of STUN itself (section 18.2)
pub mod Binding
-- PASSWORD-ALGORITHMS with every algorithm and its parameters (section 14.11)
pub mod AlgorithmList
-- law: a list that is written is read again
pub mod AlgorithmListLaws
-- messages in a stream of bytes, and in packets among those of other protocols (sections 6.2.2 and
-- 7)
pub mod Framing
-- the types of the attributes that calls read or write
pub mod AttributeTypes
-- how values of one form are read
pub mod Values
-- socket addresses, where the two spellings of an IPv4 address count as the same (RFC 4291, section
-- 2.5.5.2)
pub mod CanonicalAddress
-- the values of TURN's attributes (RFC 8656, section 18)
pub mod Turn
-- the methods of TURN (RFC 8656, section 17)
pub mod TurnMethods
-- definitions that no clause of a public call cites: views of structs, and the entries of tables
pub mod code

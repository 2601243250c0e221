-- What the contracts of this crate say, in reading order.

-- the types of attributes of STUN, ICE, TURN and NAT behavior discovery
pub mod AttributeTypes
-- how values of one form are read
pub mod Values
-- addresses that are not XORed (RFC 8489, section 14.1)
pub mod Address
-- the values of TURN's attributes (RFC 8656, section 18)
pub mod Turn
-- the values of ADDRESS-ERROR-CODE and ICMP (RFC 8656, sections 18.12 and 18.13)
pub mod TurnErrors
-- the value of TRANSACTION_TRANSMIT_COUNTER (RFC 7982, section 3.2)
pub mod TransmitCounter
-- the values of the attributes of NAT behavior discovery (RFC 5780, section 7)
pub mod Discovery

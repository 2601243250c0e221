-- What the contracts of this crate say, in reading order.

-- the errors of a verdict, and the texts for the numbers of errors
pub mod Codes
-- what the building calls make of their arguments, or the first error
pub mod Requests
-- how the calls that write a message change the caller's buffer
pub mod Writing
-- the result of each call, and the caller's buffer after it
pub mod Answers
-- the results of the calls that read a message
pub mod Reading
-- the results of the walk over the attributes, and its position
pub mod Walking
-- the results of the calls over `stun_extra`: FINGERPRINT, types that are not known, and streams
pub mod Extra
-- the results of the calls for TURN, and what they write
pub mod Turn
-- the statements of the laws of this crate
pub mod Laws
-- definitions that no clause of a public call cites: what private functions alone use
pub mod code

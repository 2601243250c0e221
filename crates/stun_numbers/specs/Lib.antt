-- What the contracts of this crate say, in reading order.

-- the errors, their numbers, and those for the library's errors
pub mod Refusals
-- the numbers of algorithms
pub mod Algorithms
-- the caller's buffer after a call
pub mod Buffers
-- why nothing can be added to the message in a buffer
pub mod Messages

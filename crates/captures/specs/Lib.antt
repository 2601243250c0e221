-- The definitions that the contracts of this crate use, in reading order.

-- numbers in either byte order
pub mod Numbers
-- where the records of a capture are
pub mod Records

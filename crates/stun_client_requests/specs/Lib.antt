-- What the contracts of this crate say, in reading order.

-- the requests by their numbers
pub mod Numbers
-- the requests, and how each call changes them
pub mod Requests
-- what always holds for the table and for the numbers
pub mod OneTable
-- laws for every sequence of calls
pub mod Laws
-- when requests are sent for the last time, and when they end
pub mod Timely
-- definitions that no clause of a public call cites: what always holds for the code's own structs
pub mod code

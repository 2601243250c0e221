-- What the contracts of this crate say, in reading order.

-- the body of a request
pub mod Bodies
-- why no client can be created from some settings, and how long a plan is
pub mod Settings
-- the bytes of a request
pub mod Written
-- how requests end, and what is dropped for them
pub mod Ends
-- the refusals of a request that count
pub mod Refusals
-- definitions that no clause of a public call cites: views of the code's own structs
pub mod code

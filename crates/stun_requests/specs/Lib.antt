-- What the contracts of this crate say, in reading order.

-- a reader finds in a request what it was made of
pub mod ReadBack
-- how a server judges a request
pub mod Served
-- each request can be written
pub mod Fitting

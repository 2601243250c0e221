-- What the contracts of this crate say.

-- calls at any times, and the plan of a request
pub mod Plan
-- how a request ended, and what is returned for its end
pub mod Ends

-- Lemmas of the crate.

-- what any call leaves of a client
pub mod SideLemmas
-- a request that is signed, and answered by the server
pub mod OptionLemmas
-- what is stored of a request that is sent again, or ends
pub mod TurnedLemmas
-- what a client makes of a response
pub mod ActingLemmas
-- both in the words of a meeting
pub mod MeetingLemmas
-- what a client writes fits
pub mod FittingLemmas
-- the first request of a new client
pub mod BeginningLemmas

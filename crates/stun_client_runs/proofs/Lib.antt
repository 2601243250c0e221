-- Lemmas of the crate.

-- entries under ascending numbers, and numbers in order
pub mod EntryLemmas
-- changes of a client
pub mod ChangeLemmas
-- another message becomes the current one
pub mod TurnLemmas
-- IDs that are noted
pub mod NotedLemmas
-- each request was there before
pub mod EachLemmas
-- what holds of each stored request and its transaction ID
pub mod EachAtLemmas
-- one poll
pub mod PollLemmas
-- what a poll of the table says of its requests
pub mod PollAtLemmas
-- one datagram
pub mod ReceivingLemmas
-- every sequence of calls
pub mod KeptLemmas
-- ends, for every sequence of calls
pub mod EffectLemmas
-- bytes, for every sequence of calls
pub mod SentLemmas
-- round trips, for every sequence of calls
pub mod RoundTripLemmas

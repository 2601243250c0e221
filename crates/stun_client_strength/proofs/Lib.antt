-- Lemmas of the crate.

-- which message becomes the current one
pub mod TurnLemmas
-- requests that are not to be signed
pub mod UnsignedLemmas
-- what holds for every sequence of calls
pub mod HeldLemmas
-- challenges by the client's own rule
pub mod RuleLemmas
-- no weaker challenges
pub mod StrengthLemmas
-- refusals answer signed messages
pub mod RefusedLemmas
-- what a refusal comes to
pub mod RefusingLemmas
-- how often the bytes of a request are handed out that is refused
pub mod CostLemmas
-- and how often by its options
pub mod CheapLemmas
-- what a change of one request leaves of the others
pub mod OtherLemmas
-- what a request that is not to be signed leaves of the challenges
pub mod ApartLemmas

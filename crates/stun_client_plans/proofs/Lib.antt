-- Lemmas of the crate.

-- numbers in a list
pub mod TimesLemmas
-- one request over changes of others
pub mod HoldLemmas
-- the times of a plan, and searches
pub mod MomentLemmas
-- one poll of the requests
pub mod PolledLemmas
-- a poll of the requests, case by case
pub mod WalkLemmas
-- what calls make of the requests
pub mod CallLemmas
-- one poll
pub mod StepLemmas
-- calls that are no polls
pub mod OtherLemmas
-- requests that are not outstanding
pub mod SpareLemmas
-- calls, one after the other
pub mod PlanLemmas
-- ends, until they are said
pub mod EndLemmas
-- who refuses a request
pub mod RefusedLemmas

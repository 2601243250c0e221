-- Each call keeps the timers of the requests punctual, and a wait is within a plan of the last message.
use Rattle.stun_client_calls.proofs.BoundLemmas.{begins_punctual, client_waits, stays_punctual}
use Rattle.stun_client_calls.proofs.EndLemmas.{begins_stored, ends_within}
use Rattle.stun_client_calls.proofs.KeepingLemmas.{keeps_plan, starts_plan}
use Rattle.stun_client_calls.proofs.StoredLemmas.{stays_stored}
use Rattle.stun_client_calls.proofs.laws.a_request_ends_within_two_plans.Goals as goal

pub returns-clause-begins : goal.returns-clause-begins
returns-clause-begins c = begins_punctual

pub returns-clause-stays : goal.returns-clause-stays
returns-clause-stays c = stays_punctual

pub returns-clause-keeps : goal.returns-clause-keeps
returns-clause-keeps c = keeps_plan

pub returns-clause-starts : goal.returns-clause-starts
returns-clause-starts c = starts_plan

pub returns-clause-waits : goal.returns-clause-waits
returns-clause-waits c = client_waits

pub returns-clause-first : goal.returns-clause-first
returns-clause-first c = begins_stored

pub returns-clause-stored : goal.returns-clause-stored
returns-clause-stored c = stays_stored

pub returns-clause-ends : goal.returns-clause-ends
returns-clause-ends c = ends_within

-- No timer is due or over then, and each waits for a part of its plan.
use Rattle.stun_client_requests.proofs.TimelyLemmas.{polls_keep_time, waits_in_time}
use Rattle.stun_client_requests.proofs.laws.a_wait_is_within_a_plan.Goals as goal

pub returns-clause-sends : goal.returns-clause-sends
returns-clause-sends g c = polls_keep_time

pub returns-clause-waits : goal.returns-clause-waits
returns-clause-waits g c = waits_in_time

-- Each call keeps what is stored under a number, or takes it away and returns its end.
use Rattle.stun_client_requests.proofs.LawLemmas.{ends_once, starts_so, stays_over}
use Rattle.stun_client_requests.proofs.laws.a_request_ends_once.Goals as goal

pub returns-clause-starts : goal.returns-clause-starts
returns-clause-starts g c = starts_so

pub returns-clause-once : goal.returns-clause-once
returns-clause-once g c = ends_once

pub returns-clause-over : goal.returns-clause-over
returns-clause-over g c = stays_over

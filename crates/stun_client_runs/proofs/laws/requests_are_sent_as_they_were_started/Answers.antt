-- Each call leaves the bytes of a request as they were, or sends it by another message of its own.
use Rattle.stun_client_runs.proofs.SentLemmas.{keeps_its_bytes, sends_its_bytes}
use Rattle.stun_client_runs.proofs.laws.requests_are_sent_as_they_were_started.Goals as goal

pub returns-clause-kept : goal.returns-clause-kept
returns-clause-kept c = keeps_its_bytes

pub returns-clause-sent : goal.returns-clause-sent
returns-clause-sent c = sends_its_bytes

-- Each call leaves a request stored, or hands out its end.
use Rattle.stun_client_runs.proofs.EffectLemmas.{ends_once, over_all, starts_new}
use Rattle.stun_client_runs.proofs.laws.a_request_ends_once.Goals as goal

pub returns-clause-starts : goal.returns-clause-starts
returns-clause-starts c = λ before after number is made. starts_new before after number is made

pub returns-clause-once : goal.returns-clause-once
returns-clause-once c = λ number before after events is on calls.
    ends_once number before after events is on calls

pub returns-clause-over : goal.returns-clause-over
returns-clause-over c = λ number before after events is over calls.
    let all = over_all number before after events is over calls in (all.0, all.1)

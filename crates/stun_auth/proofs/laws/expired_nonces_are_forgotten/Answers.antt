-- A place is left out if and only if its nonce has expired and it has no client.
use Rattle.stun_auth.proofs.Forgotten.{get-places_kept, left_at, kept_at-client, kept_at-current}
use Rattle.stun_auth.proofs.laws.expired_nonces_are_forgotten.Goals as goal

pub returns-clause-place : goal.returns-clause-place
returns-clause-place c = λ s now a. get-places_kept now s.places a

pub returns-clause-left : goal.returns-clause-left
returns-clause-left c = λ s now a place found. left_at now s.places a place found

pub returns-clause-client : goal.returns-clause-client
returns-clause-client c =
    λ s now a place found there. kept_at-client now s.places a place found there

pub returns-clause-current : goal.returns-clause-current
returns-clause-current c =
    λ s now a place found later. kept_at-current now s.places a place found later

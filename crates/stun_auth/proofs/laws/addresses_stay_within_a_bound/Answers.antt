-- A message adds its own address at most, and only where it has no record.
use Rattle.stun_auth.specs.Places.{with_client, with_offer}
use Rattle.stun_auth.specs.Validation.{place_after, sight}
use Rattle.stun_auth.proofs.BoundedAddresses.{changed_in_place, grown_by_one}
use Rattle.stun_auth.proofs.BoundedAddresses.{less_by_forgetting, stays_within}
use Rattle.stun_auth.proofs.laws.addresses_stay_within_a_bound.Goals as goal

pub returns-clause-bound : goal.returns-clause-bound
returns-clause-bound c = stays_within

pub returns-clause-grows : goal.returns-clause-grows
returns-clause-grows c = λ s from now words r.
    grown_by_one s.places from (place_after (sight s from) now words r)

pub returns-clause-signing : goal.returns-clause-signing
returns-clause-signing c = λ s to. changed_in_place s.places to (with_offer s.registered.algorithms)

pub returns-clause-client : goal.returns-clause-client
returns-clause-client c = λ s a client. changed_in_place s.places a (with_client client)

pub returns-clause-forgotten : goal.returns-clause-forgotten
returns-clause-forgotten c = λ s a. less_by_forgetting s.places a

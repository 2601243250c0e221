-- A map without a name has nothing under it.
use Rattle.stun_c_endpoint.proofs.UserLawLemmas.{removed, removed_short_term}
use Rattle.stun_c_endpoint.proofs.users.laws.users_who_are_removed_have_no_key.Goals as goal

pub returns-clause-realm : goal.returns-clause-realm
returns-clause-realm c = λ u name before now h. removed u name before now h

pub returns-clause-short_term : goal.returns-clause-short_term
returns-clause-short_term c = λ u name before now h. removed_short_term u name before now h

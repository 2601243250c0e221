-- An empty map has nothing.
use Rattle.stun_c_endpoint.proofs.UserLawLemmas.{new_realm, new_short_term, no_table}
use Rattle.stun_c_endpoint.proofs.users.laws.new_tables_are_empty.Goals as goal

pub returns-clause-realm : goal.returns-clause-realm
returns-clause-realm c = λ s k h. new_realm s k h

pub returns-clause-short_term : goal.returns-clause-short_term
returns-clause-short_term c = λ s k h. new_short_term s k h

pub returns-clause-open : goal.returns-clause-open
returns-clause-open c = λ s k h. no_table s k h

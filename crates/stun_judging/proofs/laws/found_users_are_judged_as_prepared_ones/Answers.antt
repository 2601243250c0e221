-- The user who was found is the one who is named, and the key is the user's.
use Rattle.stun_judging.proofs.FoundLemmas.{found_judged_offering, found_key_of_user}
use Rattle.stun_judging.proofs.laws.found_users_are_judged_as_prepared_ones.Goals as goal

pub returns-clause-verdict : goal.returns-clause-verdict
returns-clause-verdict c = found_judged_offering

pub returns-clause-algorithm : goal.returns-clause-algorithm
returns-clause-algorithm c =
    λ users user claim found h. (found_key_of_user users user claim found h).algorithm

pub returns-clause-key : goal.returns-clause-key
returns-clause-key c = λ users user claim found h. (found_key_of_user users user claim found h).key

pub returns-clause-verifies : goal.returns-clause-verifies
returns-clause-verifies c =
    λ users user claim found h. (found_key_of_user users user claim found h).verifies

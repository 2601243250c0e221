-- A registered user is found by name, and no other entry is touched.
use Rattle.stun_judging.proofs.UserKeys.{key-added, key-by_keys, key-by_others, key-by_others_keys}
use Rattle.stun_judging.proofs.UserKeys.{key-of_others, key-removed}
use Rattle.stun_judging.proofs.laws.users_have_their_keys.Goals as goal

pub returns-clause-added : goal.returns-clause-added
returns-clause-added c = key-added

pub returns-clause-by_keys : goal.returns-clause-by_keys
returns-clause-by_keys c = key-by_keys

pub returns-clause-removed : goal.returns-clause-removed
returns-clause-removed c = key-removed

pub returns-clause-others_at_adding : goal.returns-clause-others_at_adding
returns-clause-others_at_adding c = key-by_others

pub returns-clause-others_at_keys : goal.returns-clause-others_at_keys
returns-clause-others_at_keys c = key-by_others_keys

pub returns-clause-others_at_removal : goal.returns-clause-others_at_removal
returns-clause-others_at_removal c = key-of_others

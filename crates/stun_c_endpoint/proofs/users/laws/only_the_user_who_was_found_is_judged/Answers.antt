-- The table is a new one to which the user is added.
use Rattle.stun_c_endpoint.proofs.UserLawLemmas.{found_by_keys, found_by_password, found_key, nobody_else}
use Rattle.stun_c_endpoint.proofs.users.laws.only_the_user_who_was_found_is_judged.Goals as goal

pub returns-clause-password : goal.returns-clause-password
returns-clause-password c = λ s name password sha1 sha256 empty table new h. found_by_password s name password sha1 sha256 empty table new h

pub returns-clause-keys : goal.returns-clause-keys
returns-clause-keys c = λ s name password sha1 sha256 empty table new h. found_by_keys s name password sha1 sha256 empty table new h

pub returns-clause-key : goal.returns-clause-key
returns-clause-key c = λ s name password sha1 sha256 judge agreed h. found_key s name password sha1 sha256 judge agreed h

pub returns-clause-nobody_else : goal.returns-clause-nobody_else
returns-clause-nobody_else c = λ s name password sha1 sha256 other judge agreed h apart. nobody_else s name password sha1 sha256 other judge agreed h apart

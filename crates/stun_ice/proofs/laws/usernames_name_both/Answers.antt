-- Names without a colon end at the first one.
use Rattle.stun_ice.specs.Agent.{has_colon, is_within}
use Rattle.stun_ice.proofs.CredentialLemmas.{both-named, no-colon, sides}
use Rattle.stun_ice.proofs.laws.usernames_name_both.Goals as goal

pub returns-clause-sides : goal.returns-clause-sides
returns-clause-sides c = λ name peer password peer_password.
    sides (is_within 4 256 name) (is_within 4 256 peer) (has_colon name) (has_colon peer)
    (is_within 22 256 password) (is_within 22 256 peer_password)

pub returns-clause-names : goal.returns-clause-names
returns-clause-names c = λ name peer password other another other_password one two.
    both-named name other peer another
    (no-colon (is_within 4 256 name) (has_colon name) (is_within 22 256 password) one)
    (no-colon (is_within 4 256 other) (has_colon other) (is_within 22 256 other_password) two)

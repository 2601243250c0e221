-- A refusal is none of the results.
use Rattle.std.specs.Prelude.{length, not, ◌==◌, ◌&&◌}
use Rattle.std.specs.Str.{is_utf8}
use Rattle.stun_c.specs.Extra.{ending_refusal}
use Rattle.stun_c.specs.Requests.{username_refusal}
use Rattle.stun_c.specs.Writing.{digest_refusal}
use Rattle.stun_c.proofs.CarriedLemmas.{once, unless, when}
use Rattle.stun_c.proofs.laws.signatures_are_those_of_the_library.Goals as goal

pub returns-clause-request : goal.returns-clause-request
returns-clause-request c = λ algorithm id username key bytes h.
    once (username_refusal username) _ bytes (unless (not (length id == 12)) _ _ bytes h)

pub returns-clause-message : goal.returns-clause-message
returns-clause-message c = λ buffer count algorithm key bytes. once (digest_refusal buffer count algorithm) _ bytes

pub returns-clause-key : goal.returns-clause-key
returns-clause-key c = λ algorithm username realm password key.
    when (is_utf8 username && is_utf8 realm && is_utf8 password) _ _ key

pub returns-clause-userhash : goal.returns-clause-userhash
returns-clause-userhash c = λ username realm hash. when (is_utf8 username && is_utf8 realm) _ _ hash

pub returns-clause-fingerprint : goal.returns-clause-fingerprint
returns-clause-fingerprint c = λ buffer count bytes. once (ending_refusal buffer count) _ bytes

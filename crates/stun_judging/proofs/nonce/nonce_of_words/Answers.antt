-- The letters are those of the words, but for the first where they would begin the cookie.
use Rattle.std.proofs.Common.{◌≡◌, ◌++◌, ◌∷◌, drop, set, map, true, ◌∙◌, ap, arith, rules}
use Rattle.std.specs.String.{string_bytes}
use Rattle.stun_judging.specs.Nonces.{letter, begins_with_cookie, security_byte}
use Rattle.stun_judging.proofs.Renamed.{first_replaced, renamed}
use Rattle.stun_judging.proofs.nonce.nonce_of_words.Goals as goal

pub returns-clause-text : goal.returns-clause-text
returns-clause-text g c =
    let plain : security_byte c.args.algorithms c.args.feature ≡ 0 = search rules in
    let spelled : begins_with_cookie (map letter c.args.words.now) ≡ true = search rules in
    let written : string_bytes c.push_letters-3.new.text
    ≡ 112 ∷ map letter (drop 1 c.args.words.now) = c.in_ok-push_letters-3.ensures.letters
    ∙ ap (λ t. t ++ map letter (set c.args.words.now 0 41)) c.clear.ensures.bytes
    ∙ first_replaced c.args.words.now (omega arith) in
    written ∙ renamed c.args.algorithms c.args.feature c.args.words.now plain spelled

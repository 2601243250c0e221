-- The nonce of the current secret comes before those of the previous one.
use Rattle.std.proofs.Common.{rules, ◌≡◌, Some, None, sym, ◌∙◌, ap}
use Rattle.std.specs.String.{string_bytes}
use Rattle.stun_judging.specs.Reading.{reading_of}
use Rattle.stun_endpoint.specs.Lookups.{previous_nonces}
use Rattle.stun_endpoint.specs.code.Earlier.{nonces_before, their_nonce_among}
use Rattle.stun_endpoint.proofs.EarlierLemmas.{earlier_has, earlier_other}
use Rattle.stun_endpoint.proofs.server.Server.find_earlier_nonce.Goals as goal

pub returns-in-Some-clause-nonce : goal.returns-in-Some-clause-nonce
returns-in-Some-clause-nonce g c =
    let s = c.args.self.now in
    let r = reading_of c.args.read.now in
    let has : their_nonce_among r (nonces_before s s.secret c.args.from c.args.epoch)
    ≡ Some (string_bytes c.in-Some.nonce) = search rules in
    sym (earlier_has s r c.args.from c.args.epoch (string_bytes c.in-Some.nonce) has)

pub returns-in-Some-previous-clause-nonce : goal.returns-in-Some-previous-clause-nonce
returns-in-Some-previous-clause-nonce g c =
    let s = c.args.self.now in
    let r = reading_of c.args.read.now in
    let none : their_nonce_among r (nonces_before s s.secret c.args.from c.args.epoch) ≡ None =
    search rules in
    let previous : s.previous ≡ Some c.in-Some-previous.secret = search rules in
    let same =
    earlier_other s r c.args.from c.args.epoch none
    ∙ ap (λ p. their_nonce_among r (previous_nonces s p c.args.from c.args.epoch)) previous in
    rw same c.find_nonce_under.ensures.nonce

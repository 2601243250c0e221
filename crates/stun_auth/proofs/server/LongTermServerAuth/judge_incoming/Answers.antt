-- A response and a malformed message need no nonce, and leave the server as it was.
use Rattle.std.proofs.Common.{◌≡◌, ℕ, List, refl, sym, ◌∙◌, ap, true, false}
use Rattle.std.specs.Prelude.{not, ◌||◌}
use Rattle.stun_base.specs.Words.{next_words}
use Rattle.stun_base.specs.MessageType.{is_response}
use Rattle.stun_judging.specs.Reading.{is_malformed, reading_of}
use Rattle.stun_auth.specs.Validation.{needs_nonce}
use Rattle.stun_auth.proofs.Unchanged.{after_needless, or_memory}
use Rattle.stun_auth.proofs.server.LongTermServerAuth.judge_incoming.Goals as goal

pub returns-then-is_response-clause-state : goal.returns-then-is_response-clause-state
returns-then-is_response-clause-state g c =
    let r = reading_of c.args.message.now in
    let response : is_response r.class ≡ true =
    ap (λ (m : List ℕ). is_response (reading_of m).class) (sym c.of-read.ensures)
    ∙ sym c.is_response.ensures ∙ c.if-is_response.true in
    let needless : needs_nonce r ≡ false = ap (λ b. not (b || is_malformed r)) response in
    or_memory c.check_response.result
    (after_needless c.args.self.now c.args.from c.args.now
    (next_words 16 (g.R.Rng.stream c.args.rng.now)) r needless) refl

pub returns-then-is_malformed-clause-state : goal.returns-then-is_malformed-clause-state
returns-then-is_malformed-clause-state g c =
    let r = reading_of c.args.message.now in
    let request : is_response r.class ≡ false =
    ap (λ (m : List ℕ). is_response (reading_of m).class) (sym c.of-read.ensures)
    ∙ sym c.is_response.ensures ∙ c.if-is_response.false in
    let malformed : is_malformed r ≡ true =
    ap (λ (m : List ℕ). is_malformed (reading_of m)) (sym c.of-read.ensures)
    ∙ sym c.is_malformed.ensures ∙ c.if-is_malformed.true in
    let needless : needs_nonce r ≡ false =
    ap (λ b. not (b || is_malformed r)) request ∙ ap not malformed in
    after_needless c.args.self.now c.args.from c.args.now
    (next_words 16 (g.R.Rng.stream c.args.rng.now)) r needless

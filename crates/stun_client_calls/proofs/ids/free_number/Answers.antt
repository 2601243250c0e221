-- The number at hand is the answer, or the answer is after it.
use Rattle.std.proofs.Common.{◌≡◌, ◌∙◌, true, false, Some, ap, arith, cond, sym}
use Rattle.std.proofs.Common.{◌+◌, ◌<◌}
use Rattle.stun_client_requests.specs.Requests.{LAST_NUMBER}
use Rattle.stun_client_calls.specs.Ids.{free_number, is_message, is_taken}
use Rattle.stun_client_calls.proofs.IdLemmas.{free_at}
use Rattle.stun_client_calls.proofs.ids.free_number.Goals as goal

pub returns-then-not-is_taken-clause-free : goal.returns-then-not-is_taken-clause-free
returns-then-not-is_taken-clause-free g c =
    let before : c.loop-number.number < LAST_NUMBER = omega arith in
    let free : is_taken c.args.seed.now c.args.requests.now.table.attached c.args.earlier.now.entries
    c.loop-number.number ≡ false =
    ap (λ id. is_message id c.args.requests.now.table.attached c.args.earlier.now.entries)
    (sym c.id_of-id.ensures) ∙ sym c.is_taken.ensures ∙ c.if-not-is_taken.true in
    sym (sym c.loop-number.invariant
    ∙ free_at c.args.seed.now c.args.requests.now.table.attached c.args.earlier.now.entries
    c.loop-number.number before
    ∙ ap (λ b. cond b (free_number c.args.seed.now c.args.requests.now.table.attached
    c.args.earlier.now.entries (c.loop-number.number + 1)) (Some c.loop-number.number)) free)

pub loop-number-preserved : goal.loop-number-preserved
loop-number-preserved g c =
    let before : c.loop-number.number < LAST_NUMBER = omega arith in
    let taken : is_taken c.args.seed.now c.args.requests.now.table.attached c.args.earlier.now.entries
    c.loop-number.number ≡ true =
    ap (λ id. is_message id c.args.requests.now.table.attached c.args.earlier.now.entries)
    (sym c.id_of-id.ensures) ∙ sym c.is_taken.ensures ∙ c.if-not-is_taken.false in
    sym (ap (λ b. cond b (free_number c.args.seed.now c.args.requests.now.table.attached
    c.args.earlier.now.entries (c.loop-number.number + 1)) (Some c.loop-number.number)) taken)
    ∙ sym (free_at c.args.seed.now c.args.requests.now.table.attached c.args.earlier.now.entries
    c.loop-number.number before)
    ∙ c.loop-number.invariant

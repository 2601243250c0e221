-- The bytes of the texts are compared.
use Rattle.std.proofs.Common.{◌≡◌, rules, ◌∙◌}
use Rattle.std.specs.Str.{bytes_eq}
use Rattle.stun_judging.proofs.VerdictLemmas.{bytes_eq-tested}
use Rattle.stun_judging.proofs.verdict.is_same_nonce.Goals as goal

pub returns : goal.returns
returns c =
    let theirs : c.as_bytes.result.now ≡ c.args.theirs.now = search rules in
    let ours : c.as_bytes-2.result.now ≡ c.args.ours.now = search rules in
    bytes_eq-tested c.is_same_text.result c.as_bytes.result.now c.as_bytes-2.result.now
    c.is_same_text.ensures
    ∙ (λ i. bytes_eq (theirs i) (ours i))

-- The three parts grow the message one after the other.
use Rattle.std.proofs.Common.{◌≡◌, ◌+◌, ◌++◌, true, ap, ◌∙◌, arith}
use Rattle.stun_judging.specs.Additions.{growth}
use Rattle.stun_auth.specs.code.ClientKept.{challenge_seen}
use Rattle.stun_auth.specs.ClientSigning.{algorithm_choice, challenge_additions}
use Rattle.stun_auth.specs.ClientSigning.{identity, protection}
use Rattle.stun_judging.proofs.AdditionLemmas.{growth-append}
use Rattle.stun_auth.proofs.client.challenge.KeptChallenge.count_signature_bytes.Goals as goal

pub returns : goal.returns
returns g c =
    let kept = challenge_seen c.args.self.now in
    let choice = algorithm_choice kept.algorithms kept.algorithm in
    let front = growth-append (identity kept) choice in
    let whole : growth (challenge_additions true kept)
    ≡ growth (identity kept) + growth choice + growth (protection kept) =
    growth-append (identity kept ++ choice) (protection kept)
    ∙ ap (λ n. n + growth (protection kept)) front
    in
    rw whole
    (omega (
      arith,
      c.count_identity_bytes.ensures,
      c.count_choice_bytes.ensures,
      c.integrity_bytes.ensures,
      c.saturating_add.ensures,
      c.saturating_add-2.ensures,
    ))

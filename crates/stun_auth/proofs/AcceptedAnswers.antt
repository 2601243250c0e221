-- The verdict is acceptance if and only if the conjunction holds.
use Rattle.std.proofs.Common.{◌≡◌, ℕ, List}
use Rattle.std.proofs.Common.{false, refl, sym, ◌∙◌, ap, Ok, Err}
use Rattle.std.specs.Prelude.{cond}
use Rattle.std.specs.declared.result.Result.{Result}
use Rattle.stun_base.specs.declared.keys.algorithm.IntegrityAlgorithm.{IntegrityAlgorithm}
use Rattle.stun_judging.specs.declared.refusal.VerdictRefusal.{VerdictRefusal}
use Rattle.stun_auth.specs.declared.server.reason.LongTermServerValidation.TheVariants.{Validated}
use Rattle.stun_base.specs.MessageType.{is_response}
use Rattle.stun_judging.specs.Reading.{Reading}
use Rattle.stun_judging.specs.Verdict.{ClientSeen}
use Rattle.stun_auth.specs.Server.{Sight, current_place}
use Rattle.stun_auth.specs.Validation.{AcceptedWith, ValidatesAccepted, answer, answer_to}
use Rattle.stun_auth.specs.Validation.{client_verified, validated_or_failed, verdict_at}
use Rattle.stun_judging.proofs.Accepting.{accepted_from_verdict, verdict_from_accepted}

-- ---- the answer

-- it is an acceptance if and only if the verdict is
client_from : (v : Result ClientSeen VerdictRefusal) (a : IntegrityAlgorithm) → answer_to v
    ≡ Ok (Validated a) → (client : ClientSeen) × (v ≡ Ok client) × (client.algorithm ≡ a)
client_from (Ok client) a h = (client, refl, cc)
client_from (Err refusal) a h = cc

pub unresponded : (s : Sight) (now : ℕ) (words : List ℕ) (r : Reading) → is_response r.class ≡ false
    → answer s now words r ≡ answer_to (verdict_at s (current_place s now words) r)
unresponded s now words r h =
    ap (λ b. cond b (validated_or_failed (client_verified s.registered r s.place))
    (answer_to (verdict_at s (current_place s now words) r))) h

pub answer-accepted : (s : Sight) (now : ℕ) (words : List ℕ) (r : Reading)
    → ValidatesAccepted s now words r (answer s now words r)
answer-accepted s now words r plain a = (forth, back)
  where
    forth : answer s now words r ≡ Ok (Validated a) → AcceptedWith s now words r a
    forth h =
        let p = current_place s now words in
        let found =
        client_from (verdict_at s p r) a (sym (unresponded s now words r plain) ∙ h) in (
          found.0.name,
          accepted_from_verdict s.registered s.feature p.nonce p.offered r
              (record { name = found.0.name; algorithm = a })
              (found.1 ∙ ap (λ x. Ok (record { name = found.0.name; algorithm = x })) found.2),
        )

    back : AcceptedWith s now words r a → answer s now words r ≡ Ok (Validated a)
    back one =
        let p = current_place s now words in
        let client : ClientSeen = record { name = one.0; algorithm = a } in
        let judged =
        verdict_from_accepted s.registered s.feature p.nonce p.offered r client one.1 in
        unresponded s now words r plain ∙ ap answer_to judged

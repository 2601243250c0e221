-- What a server answers to a request without a digest, and to one that is complete.
use Rattle.std.proofs.Common.{◌≡◌, ℕ, List, Some, true, false, ◌∙◌, ap, Err}
use Rattle.std.specs.Prelude.{cond, not, ◌&&◌, ◌||◌}
use Rattle.std.specs.Option.{is_some}
use Rattle.std.specs.declared.result.Result.{Result}
use Rattle.stun_auth.specs.declared.server.reason.LongTermServerAuthErrorReason.TheVariants.{
  Unauthorized,
}
use Rattle.stun_base.specs.MessageType.{is_response}
use Rattle.stun_judging.specs.Reading.{Reading, is_complete, is_malformed}
use Rattle.stun_auth.specs.Reasons.{ServerRefusal}
use Rattle.stun_auth.specs.code.Reasons.{unauthorized}
use Rattle.stun_judging.specs.Verdict.{ClientSeen}
use Rattle.stun_auth.specs.Seen.{PlaceSeen}
use Rattle.stun_auth.specs.Server.{Sight, current_place}
use Rattle.stun_auth.specs.Validation.{answer, answer_to, client_verified, place_after}
use Rattle.stun_auth.specs.Validation.{validated_or_failed, verdict_at, with_accepted}
use Rattle.stun_proto.proofs.meetings.Refusals.{bare_verdict}

module _ (s : Sight) (now : ℕ) (words : List ℕ) (r : Reading) (p : PlaceSeen)
    (at : current_place s now words ≡ p) (asks : is_response r.class ≡ false) where
  -- a message that is not malformed has the answer and the place of its verdict
  judged : (o : Result ClientSeen ServerRefusal) → is_malformed r ≡ false → verdict_at s p r ≡ o
      → (answer s now words r ≡ answer_to o)
      × (place_after s now words r ≡ Some (with_accepted p o))
  judged o whole verdict = (
    ap (λ b. cond b (validated_or_failed (client_verified s.registered r s.place))
        (answer_to (verdict_at s (current_place s now words) r))) asks
        ∙ ap (λ q. answer_to (verdict_at s q r)) at ∙ ap answer_to verdict,
    ap (λ b.
        cond (not (b || is_malformed r))
        (Some (with_accepted (current_place s now words)
        (verdict_at s (current_place s now words) r)))
        s.place) asks
        ∙ ap (λ b.
        cond (not b)
        (Some (with_accepted (current_place s now words)
        (verdict_at s (current_place s now words) r)))
        s.place) whole
        ∙ ap (λ q. Some (with_accepted q (verdict_at s q r))) at
        ∙ ap (λ o. Some (with_accepted p o)) verdict,
  )

  pub unprotected : is_some r.integrity ≡ false
      → (answer s now words r ≡ Err Unauthorized) × (place_after s now words r ≡ Some p)
  unprotected bare =
      judged (Err unauthorized) (ap (λ b. b && not (is_complete r)) bare)
      (bare_verdict s.registered s.feature p.nonce p.offered r bare)

  pub protected : (o : Result ClientSeen ServerRefusal) → is_some r.integrity ≡ true
      → is_complete r ≡ true → verdict_at s p r ≡ o
      → (answer s now words r ≡ answer_to o)
      × (place_after s now words r ≡ Some (with_accepted p o))
  protected o signed whole verdict =
      judged o (ap (λ b. b && not (is_complete r)) signed ∙ ap not whole) verdict

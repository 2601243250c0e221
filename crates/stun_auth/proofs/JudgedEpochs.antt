-- Who is accepted under the nonce of the epoch before is refused by the nonce alone in this one.
use Rattle.std.proofs.Common.{◌≡◌, ◌↔◌, inl, inr, ℕ, zero, suc, List, Option, Some, None}
use Rattle.std.proofs.Common.{Bool, true, false, refl, ◌∙◌, ap, Ok, Err}
use Rattle.std.specs.Prelude.{cond, not}
use Rattle.std.specs.Str.{bytes_eq}
use Rattle.std.proofs.lemmas.Slice.Eq.{bytes_eq-Decides}
use Rattle.std.specs.declared.result.Result.{Result}
use Rattle.stun_judging.specs.declared.refusal.VerdictRefusal.{VerdictRefusal}
use Rattle.stun_judging.specs.declared.refusal.VerdictRefusal.TheVariants.{Unauthorized, BadRequest}
use Rattle.stun_judging.specs.declared.refusal.VerdictRefusal.TheVariants.{StaleNonce}
use Rattle.stun_auth.specs.Epochs.{IsAcceptedAt, IsAcceptedIn, judged_in, nonce_in}
use Rattle.stun_judging.specs.Verdict.{or_before, ClientSeen, bits_differ}
use Rattle.stun_auth.specs.Judged.{verdict_by_nonce}
use Rattle.stun_judging.specs.Nonces.{security_bits}
use Rattle.stun_judging.specs.Reading.{Reading}
use Rattle.stun_auth.specs.Validation.{ServerSeen}
use Rattle.stun_judging.proofs.Accepting.{accepted_from_verdict, verdict_from_accepted}
use Rattle.stun_judging.proofs.Accepting.{verdict_under_other}
use Rattle.stun_judging.proofs.NonceTexts.{bits_alike}

bits-same : (bits : Option (List ℕ)) → bits_differ bits bits ≡ false
bits-same None = refl
bits-same (Some b) = ap not ((bytes_eq-Decides b b).1 refl)

first-or_before : (client : ClientSeen) (v before : Result ClientSeen VerdictRefusal)
    → v ≡ Ok client → or_before v before ≡ Ok client
first-or_before client v before is = ap (λ w. or_before w before) is

stale-or_before : (b : Bool) (client : ClientSeen)
    → or_before (cond b (Ok client) (Err StaleNonce)) (Ok client) ≡ Ok client
stale-or_before true client = refl
stale-or_before false client = refl

module _ (s : ServerSeen) (words : ℕ → List ℕ) (r : Reading) (client : ClientSeen) where
  from_verdict : (e : ℕ) → verdict_by_nonce s (nonce_in s words e) r ≡ Ok client
      → IsAcceptedAt s words e r client
  from_verdict e =
      accepted_from_verdict s.registered s.feature (nonce_in s words e)
      (Some s.registered.algorithms) r client

  to_verdict : (e : ℕ) → IsAcceptedAt s words e r client
      → verdict_by_nonce s (nonce_in s words e) r ≡ Ok client
  to_verdict e =
      verdict_from_accepted s.registered s.feature (nonce_in s words e)
      (Some s.registered.algorithms) r client

  -- who is accepted under the nonce of an epoch has a stale nonce under that of another
  to_stale : (e other : ℕ) → IsAcceptedAt s words e r client
      → verdict_by_nonce s (nonce_in s words other) r
      ≡ cond (bytes_eq (nonce_in s words e) (nonce_in s words other)) (Ok client) (Err StaleNonce)
  to_stale e other one =
      let ours = nonce_in s words e in
      let now = nonce_in s words other in
      verdict_under_other s.registered s.feature ours now (Some s.registered.algorithms) r client
      one
      ∙ ap (λ bits. cond (bytes_eq ours now) (Ok client)
      (Err (cond (bits_differ (security_bits now) bits) Unauthorized StaleNonce)))
      (bits_alike s.registered.algorithms s.feature (words e) (words other))
      ∙ ap (λ b. cond (bytes_eq ours now) (Ok client) (Err (cond b Unauthorized StaleNonce)))
      (bits-same (security_bits now))

  forth : (e : ℕ) (v before : Result ClientSeen VerdictRefusal)
      → verdict_by_nonce s (nonce_in s words (suc e)) r ≡ v
      → verdict_by_nonce s (nonce_in s words e) r ≡ before → or_before v before ≡ Ok client
      → IsAcceptedIn s words (suc e) r client
  forth e (Ok c) before now then h = inl (from_verdict (suc e) (now ∙ h))
  forth e (Err Unauthorized) before now then h = cc
  forth e (Err BadRequest) before now then h = cc
  forth e (Err StaleNonce) (Ok c) now then h = inr (from_verdict e (then ∙ h))
  forth e (Err StaleNonce) (Err refusal) now then h = cc

  back : (e : ℕ) → IsAcceptedIn s words (suc e) r client
      → judged_in s words (suc e) r ≡ Ok client
  back e (inl one) =
      first-or_before client _ (verdict_by_nonce s (nonce_in s words e) r) (to_verdict (suc e) one)
  back e (inr one) =
      ap (λ v. or_before v (verdict_by_nonce s (nonce_in s words e) r)) (to_stale e (suc e) one)
      ∙ ap (or_before
      (cond (bytes_eq (nonce_in s words e) (nonce_in s words (suc e))) (Ok client)
      (Err StaleNonce))) (to_verdict e one)
      ∙ stale-or_before (bytes_eq (nonce_in s words e) (nonce_in s words (suc e))) client

  pub accepted_in : (epoch : ℕ)
      → (judged_in s words epoch r ≡ Ok client) ↔ IsAcceptedIn s words epoch r client
  accepted_in zero = (from_verdict 0, to_verdict 0)
  accepted_in (suc e) = (
    forth e (verdict_by_nonce s (nonce_in s words (suc e)) r)
        (verdict_by_nonce s (nonce_in s words e) r) refl refl,
    back e,
  )

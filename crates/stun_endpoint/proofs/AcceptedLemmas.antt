-- Who is accepted under one nonce of a server has a stale nonce under each other one: all have the
-- same security bits.
use Rattle.std.proofs.Common.{◌≡◌, ◌↔◌, ◌⊎◌, inl, inr, ℕ, zero, suc, List, Option, Some, None}
use Rattle.std.proofs.Common.{Bool, true, false, refl, ◌∙◌, ap, Ok, Err}
use Rattle.std.specs.Prelude.{cond, not}
use Rattle.std.specs.Str.{bytes_eq}
use Rattle.std.proofs.lemmas.Slice.Eq.{bytes_eq-Decides}
use Rattle.std.specs.declared.net.socket_addr.SocketAddr.{SocketAddr}
use Rattle.std.specs.declared.result.Result.{Result}
use Rattle.stun_judging.specs.declared.refusal.VerdictRefusal.{VerdictRefusal}
use Rattle.stun_judging.specs.declared.refusal.VerdictRefusal.TheVariants.{Unauthorized, BadRequest}
use Rattle.stun_judging.specs.declared.refusal.VerdictRefusal.TheVariants.{StaleNonce}
use Rattle.stun_judging.specs.Verdict.{or_before, ClientSeen, bits_differ}
use Rattle.stun_judging.specs.Nonces.{security_bits}
use Rattle.stun_judging.specs.Reading.{Reading}
use Rattle.stun_judging.proofs.Accepting.{offering_from_verdict, offering_under_other}
use Rattle.stun_judging.proofs.Accepting.{verdict_from_offering}
use Rattle.stun_endpoint.specs.Judged.{IsAcceptedBy, IsAcceptedByPrevious, IsAcceptedUnder}
use Rattle.stun_endpoint.specs.Judged.{Realm, judged_in, judged_under, or_previous, verdict_under}
use Rattle.stun_endpoint.specs.Nonces.{nonce_in}
use Rattle.stun_endpoint.specs.Settings.{Settings}
use Rattle.stun_endpoint.proofs.NonceLemmas.{bits_alike}

pub bits-same : (bits : Option (List ℕ)) → bits_differ bits bits ≡ false
bits-same None = refl
bits-same (Some b) = ap not ((bytes_eq-Decides b b).1 refl)

first-or_before : (client : ClientSeen) (v before : Result ClientSeen VerdictRefusal)
    → v ≡ Ok client → or_before v before ≡ Ok client
first-or_before client v before is = ap (λ w. or_before w before) is

-- where a nonce may be stale, the next is tried
stale-one : (b : Bool) (client : ClientSeen)
    → or_before (cond b (Ok client) (Err StaleNonce)) (Ok client) ≡ Ok client
stale-one true client = refl
stale-one false client = refl

stale-two : (b c : Bool) (client : ClientSeen)
    → or_before (or_before (cond b (Ok client) (Err StaleNonce))
    (cond c (Ok client) (Err StaleNonce))) (Ok client) ≡ Ok client
stale-two true c client = refl
stale-two false true client = refl
stale-two false false client = refl

module _ (s : Settings) (realm : Realm) (from : SocketAddr) (r : Reading)
    (client : ClientSeen) where
  from_verdict : (nonce : List ℕ) → verdict_under realm nonce r ≡ Ok client
      → IsAcceptedBy realm nonce r client
  from_verdict nonce =
      offering_from_verdict realm.users realm.feature nonce realm.offered r client

  to_verdict : (nonce : List ℕ) → IsAcceptedBy realm nonce r client
      → verdict_under realm nonce r ≡ Ok client
  to_verdict nonce =
      verdict_from_offering realm.users realm.feature nonce realm.offered r client

  -- who is accepted under one nonce has a stale nonce under another
  to_stale : (secret other : List ℕ) (e f : ℕ)
      → IsAcceptedBy realm (nonce_in s secret from e) r client
      → verdict_under realm (nonce_in s other from f) r
      ≡ cond (bytes_eq (nonce_in s secret from e) (nonce_in s other from f)) (Ok client)
      (Err StaleNonce)
  to_stale secret other e f one =
      let ours = nonce_in s secret from e in
      let now = nonce_in s other from f in
      offering_under_other realm.users realm.feature ours now realm.offered r client one
      ∙ ap (λ bits. cond (bytes_eq ours now) (Ok client)
      (Err (cond (bits_differ (security_bits now) bits) Unauthorized StaleNonce)))
      (bits_alike s secret other from from e f)
      ∙ ap (λ b. cond (bytes_eq ours now) (Ok client) (Err (cond b Unauthorized StaleNonce)))
      (bits-same (security_bits now))

  -- ---- by the nonces of one secret
  forth-suc : (secret : List ℕ) (e : ℕ) (v before : Result ClientSeen VerdictRefusal)
      → verdict_under realm (nonce_in s secret from (suc e)) r ≡ v
      → verdict_under realm (nonce_in s secret from e) r ≡ before
      → or_before v before ≡ Ok client → IsAcceptedUnder s realm secret from (suc e) r client
  forth-suc secret e (Ok c) before now then h =
      inl (from_verdict (nonce_in s secret from (suc e)) (now ∙ h))
  forth-suc secret e (Err Unauthorized) before now then h = cc
  forth-suc secret e (Err BadRequest) before now then h = cc
  forth-suc secret e (Err StaleNonce) (Ok c) now then h =
      inr (from_verdict (nonce_in s secret from e) (then ∙ h))
  forth-suc secret e (Err StaleNonce) (Err refusal) now then h = cc

  forth-under : (secret : List ℕ) (e : ℕ) → judged_under s realm secret from e r ≡ Ok client
      → IsAcceptedUnder s realm secret from e r client
  forth-under secret zero h = from_verdict (nonce_in s secret from 0) h
  forth-under secret (suc e) h =
      forth-suc secret e (verdict_under realm (nonce_in s secret from (suc e)) r)
      (verdict_under realm (nonce_in s secret from e) r) refl refl h

  back-under : (secret : List ℕ) (e : ℕ) → IsAcceptedUnder s realm secret from e r client
      → judged_under s realm secret from e r ≡ Ok client
  back-under secret zero one = to_verdict (nonce_in s secret from 0) one
  back-under secret (suc e) (inl one) =
      first-or_before client _ (verdict_under realm (nonce_in s secret from e) r)
      (to_verdict (nonce_in s secret from (suc e)) one)
  back-under secret (suc e) (inr one) =
      ap (λ v. or_before v (verdict_under realm (nonce_in s secret from e) r))
      (to_stale secret secret e (suc e) one)
      ∙ ap (or_before (cond (bytes_eq (nonce_in s secret from e) (nonce_in s secret from (suc e)))
      (Ok client) (Err StaleNonce))) (to_verdict (nonce_in s secret from e) one)
      ∙ stale-one (bytes_eq (nonce_in s secret from e) (nonce_in s secret from (suc e))) client

  -- ---- by those of the previous secret too
  stale-under : (secret other : List ℕ) (f e : ℕ)
      → IsAcceptedBy realm (nonce_in s other from f) r client
      → or_before (judged_under s realm secret from e r) (Ok client) ≡ Ok client
  stale-under secret other f zero one =
      ap (λ v. or_before v (Ok client)) (to_stale other secret f 0 one)
      ∙ stale-one (bytes_eq (nonce_in s other from f) (nonce_in s secret from 0)) client
  stale-under secret other f (suc e) one =
      let theirs = nonce_in s other from f in
      ap (λ v. or_before (or_before v (verdict_under realm (nonce_in s secret from e) r))
      (Ok client)) (to_stale other secret f (suc e) one)
      ∙ ap (λ v. or_before (or_before (cond (bytes_eq theirs (nonce_in s secret from (suc e)))
      (Ok client) (Err StaleNonce)) v) (Ok client)) (to_stale other secret f e one)
      ∙ stale-two (bytes_eq theirs (nonce_in s secret from (suc e)))
      (bytes_eq theirs (nonce_in s secret from e)) client

  -- a nonce under which a client is accepted
  accepting_epoch : (secret : List ℕ) (e : ℕ) → IsAcceptedUnder s realm secret from e r client
      → (f : ℕ) × IsAcceptedBy realm (nonce_in s secret from f) r client
  accepting_epoch secret zero one = (0, one)
  accepting_epoch secret (suc e) (inl one) = (suc e, one)
  accepting_epoch secret (suc e) (inr one) = (e, one)

  forth-both : (secret : List ℕ) (e : ℕ) (v before : Result ClientSeen VerdictRefusal)
      → judged_under s realm s.secret from e r ≡ v
      → judged_under s realm secret from e r ≡ before → or_before v before ≡ Ok client
      → IsAcceptedUnder s realm s.secret from e r client
      ⊎ IsAcceptedUnder s realm secret from e r client
  forth-both secret e (Ok c) before now then h = inl (forth-under s.secret e (now ∙ h))
  forth-both secret e (Err Unauthorized) before now then h = cc
  forth-both secret e (Err BadRequest) before now then h = cc
  forth-both secret e (Err StaleNonce) (Ok c) now then h = inr (forth-under secret e (then ∙ h))
  forth-both secret e (Err StaleNonce) (Err refusal) now then h = cc

  forth : (previous : Option (List ℕ)) (e : ℕ)
      → or_previous s realm previous from e r (judged_under s realm s.secret from e r) ≡ Ok client
      → IsAcceptedUnder s realm s.secret from e r client
      ⊎ IsAcceptedByPrevious s realm previous from e r client
  forth None e h = inl (forth-under s.secret e h)
  forth (Some secret) e h =
      forth-both secret e (judged_under s realm s.secret from e r)
      (judged_under s realm secret from e r) refl refl h

  pub accepted_is_judged : (previous : Option (List ℕ)) (e : ℕ)
      → IsAcceptedUnder s realm s.secret from e r client
      ⊎ IsAcceptedByPrevious s realm previous from e r client
      → or_previous s realm previous from e r (judged_under s realm s.secret from e r) ≡ Ok client
  accepted_is_judged None e (inl one) = back-under s.secret e one
  accepted_is_judged None e (inr one) = absurd one
  accepted_is_judged (Some secret) e (inl one) =
      first-or_before client _ (judged_under s realm secret from e r) (back-under s.secret e one)
  accepted_is_judged (Some secret) e (inr one) =
      let found = accepting_epoch secret e one in
      ap (or_before (judged_under s realm s.secret from e r)) (back-under secret e one)
      ∙ stale-under s.secret secret found.0 e found.1

  pub accepted_at : (epoch : ℕ) → (judged_in s realm from epoch r ≡ Ok client)
      ↔ (IsAcceptedUnder s realm s.secret from epoch r client
      ⊎ IsAcceptedByPrevious s realm s.previous from epoch r client)
  accepted_at epoch = (forth s.previous epoch, accepted_is_judged s.previous epoch)

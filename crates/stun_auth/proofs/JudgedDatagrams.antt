-- Each datagram of a list is judged alone.
use Rattle.std.proofs.Common.{◌≡◌, ◌⊎◌, inl, inr, ℕ, zero, suc, List, [], ◌∷◌, map, Some}
use Rattle.std.proofs.Common.{Bool, true, false, refl, sym, ◌∙◌, ap}
use Rattle.std.specs.Prelude.{cond, slice_get, ◌||◌}
use Rattle.std.specs.Option.{option_map}
use Rattle.std.specs.Str.{bytes_eq}
use Rattle.stun_judging.specs.declared.refusal.VerdictRefusal.{VerdictRefusal}
use Rattle.stun_judging.specs.declared.refusal.VerdictRefusal.TheVariants.{Unauthorized, BadRequest}
use Rattle.stun_judging.specs.declared.refusal.VerdictRefusal.TheVariants.{StaleNonce}
use Rattle.stun_auth.specs.Datagrams.{TimedDatagram, Derivation, JudgesEachDatagram}
use Rattle.stun_auth.specs.Datagrams.{judged_datagram, nonce_for_datagram}
use Rattle.stun_judging.specs.Verdict.{told_refusal, their_nonce}
use Rattle.stun_judging.specs.Reading.{Reading, reading_of, is_malformed}
use Rattle.stun_auth.specs.Validation.{ServerSeen}
use Rattle.stun_auth.proofs.JudgedEpochs.{accepted_in}

get-map : {A B : Type 0} (f : A → B) (xs : List A) (i : ℕ) (x : A) → slice_get xs i ≡ Some x
    → slice_get (map f xs) i ≡ Some (f x)
get-map f [] i x h = cc
get-map f (y ∷ ys) zero x h = ap (option_map f) h
get-map f (y ∷ ys) (suc i) x h = get-map f ys i x h

the_same : {A : Type 0} (x y : A) → Some x ≡ Some y → x ≡ y
the_same x y h = cc

told_bad : (m n : Bool) → cond (m || n) BadRequest StaleNonce ≡ BadRequest
    → (m ≡ true) ⊎ (n ≡ true)
told_bad true n h = inl refl
told_bad false true h = inr refl
told_bad false false h = cc

lockout : (ours : List ℕ) (r : Reading) (refusal : VerdictRefusal)
    → told_refusal ours r refusal ≡ BadRequest
    → (is_malformed r ≡ true) ⊎ (bytes_eq (their_nonce r) ours ≡ true)
lockout ours r Unauthorized h = cc
lockout ours r StaleNonce h = cc
lockout ours r BadRequest h = told_bad (is_malformed r) (bytes_eq (their_nonce r) ours) h

pub judged_alone : (s : ServerSeen) (how : Derivation) (datagrams : List TimedDatagram)
    → JudgesEachDatagram s how datagrams (map (judged_datagram s how) datagrams)
judged_alone s how datagrams = record {
  accepted = λ i d client is.
      let at = get-map (judged_datagram s how) datagrams i d is in
      let exact =
      accepted_in s (how.words d.from) (reading_of d.bytes) client (how.epoch d.now) in (
        λ h. exact.0 (the_same _ _ (sym at ∙ h)),
        λ one. at ∙ ap Some (exact.1 one),
      );
  no_lockout = λ d refusal h.
      lockout (nonce_for_datagram s how d) (reading_of d.bytes) refusal h;
}

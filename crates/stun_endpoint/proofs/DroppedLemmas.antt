-- What a server drops for its FINGERPRINT.
use Rattle.std.proofs.Common.{◌≡◌, ◌⊎◌, inl, inr, ℕ, List, Option, Some, None, Bool, true, false, refl}
use Rattle.std.specs.Prelude.{cond, ◌&&◌, not}
use Rattle.std.specs.Option.{is_some}
use Rattle.stun_types.specs.Message.{refusal}
use Rattle.stun_extra.specs.Fingerprint.{fingerprint_in}
use Rattle.stun_extra.specs.declared.fingerprint.Fingerprint.{Fingerprint}
use Rattle.stun_extra.specs.declared.fingerprint.Fingerprint.TheVariants.{Right, Wrong}
use Rattle.stun_extra.specs.declared.fingerprint.Fingerprint.TheVariants.{Misplaced, Absent}
use Rattle.stun_endpoint.specs.Answers.{is_fingerprinted, is_right}
use Rattle.stun_endpoint.specs.Responding.{drop_reason, fault_of, no_message}
use Rattle.stun_endpoint.specs.declared.received.DropReason.{DropReason}
use Rattle.stun_endpoint.specs.declared.received.DropReason.TheVariants.{MissingFingerprint}

module _ (bytes : List ℕ) where
  abbrev reason : Bool → Bool → Fingerprint → Option DropReason
  reason required a f = cond a (Some (no_message bytes)) (fault_of required f)

  -- what one server does not drop, a server does not drop that requires no FINGERPRINT
  anywhere : (required a : Bool) (f : Fingerprint) → reason required a f ≡ None
      → reason false a f ≡ None
  anywhere required true f h = cc
  anywhere required false Right h = refl
  anywhere required false Wrong h = cc
  anywhere required false Misplaced h = cc
  anywhere required false Absent h = refl

  pub undropped_anywhere : (required : Bool) → drop_reason required bytes ≡ None
      → drop_reason false bytes ≡ None
  undropped_anywhere required = anywhere required (is_some (refusal bytes)) (fingerprint_in bytes)

  -- if it has a right one, or none is required, no other server drops it
  again : (required a : Bool) (f : Fingerprint) → reason false a f ≡ None
      → (required && not (is_right f)) ≡ false → reason required a f ≡ None
  again required true f h kept = cc
  again required false Right h kept = refl
  again required false Wrong h kept = cc
  again required false Misplaced h kept = cc
  again true false Absent h kept = cc
  again false false Absent h kept = refl

  pub undropped_again : (required : Bool) → drop_reason false bytes ≡ None
      → (required && not (is_fingerprinted bytes)) ≡ false → drop_reason required bytes ≡ None
  undropped_again required = again required (is_some (refusal bytes)) (fingerprint_in bytes)

  -- and if it has none, a server that requires one drops it
  lacking : (required a : Bool) (f : Fingerprint) → reason false a f ≡ None
      → (required && not (is_right f)) ≡ true → reason required a f ≡ Some MissingFingerprint
  lacking required true f h lacks = cc
  lacking true false Right h lacks = cc
  lacking false false Right h lacks = cc
  lacking required false Wrong h lacks = cc
  lacking required false Misplaced h lacks = cc
  lacking true false Absent h lacks = refl
  lacking false false Absent h lacks = cc

  pub dropped_for_lack : (required : Bool) → drop_reason false bytes ≡ None
      → (required && not (is_fingerprinted bytes)) ≡ true
      → drop_reason required bytes ≡ Some MissingFingerprint
  dropped_for_lack required = lacking required (is_some (refusal bytes)) (fingerprint_in bytes)

  -- what is not dropped has a right one, or none and none is required
  right_or_none : (required a : Bool) (f : Fingerprint) → reason required a f ≡ None
      → (f ≡ Right) ⊎ ((f ≡ Absent) × (required ≡ false))
  right_or_none required true f h = cc
  right_or_none required false Right h = inl refl
  right_or_none required false Wrong h = cc
  right_or_none required false Misplaced h = cc
  right_or_none true false Absent h = cc
  right_or_none false false Absent h = inr (refl, refl)

  pub whole : (required : Bool) → drop_reason required bytes ≡ None
      → (fingerprint_in bytes ≡ Right) ⊎ ((fingerprint_in bytes ≡ Absent) × (required ≡ false))
  whole required = right_or_none required (is_some (refusal bytes)) (fingerprint_in bytes)

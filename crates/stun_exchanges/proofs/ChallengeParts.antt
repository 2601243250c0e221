-- What a server adds to an error response that asks for credentials, and what is found among its
-- attributes.
use Rattle.std.proofs.Common.{◌≡◌, ◌≤◌, ◌-◌, ℕ, Bool, true, false}
use Rattle.std.proofs.Common.{List, [], ◌∷◌, length, Option, Some, None, refl}
use Rattle.std.proofs.Common.{arith}
use Rattle.std.specs.Prelude.{cond, codes}
use Rattle.std.specs.Option.{option_and_then, option_or}
use Rattle.std.proofs.lemmas.Str.{IsUtf8-from_ascii}
use Rattle.stun_base.specs.Attributes.{ERROR_CODE, FINGERPRINT, MESSAGE_INTEGRITY}
use Rattle.stun_base.specs.Attributes.{MESSAGE_INTEGRITY_SHA256, NONCE, PASSWORD_ALGORITHMS, REALM}
use Rattle.stun_types.specs.Attribute.{TypedValue}
use Rattle.stun_types.specs.ErrorCode.{CodeAndReason, IsError}
use Rattle.stun_types.specs.Integrity.{first_of}
use Rattle.stun_types.specs.Limits.{TEXT_LIMIT}
use Rattle.stun_types.specs.Walk.{Member}
use Rattle.stun_judging.specs.AddedAttribute as added
use Rattle.stun_judging.specs.Additions.{Page}
use Rattle.stun_judging.specs.Algorithms.{algorithms_of}
use Rattle.stun_judging.specs.Joined.{added_members, page_after, protection_in}
use Rattle.stun_judging.specs.Signed.{Added, IsSmall, additions_of, only_if}
use Rattle.stun_judging.specs.declared.algorithm_set.AlgorithmSet.{AlgorithmSet}
use Rattle.stun_judging.specs.declared.algorithm_set.AlgorithmSet.TheVariants.{OnlySha1}
use Rattle.stun_judging.specs.declared.algorithm_set.AlgorithmSet.TheVariants.{OnlySha256, Both}
use Rattle.stun_endpoint.specs.Answers.{with_attributes}
use Rattle.stun_endpoint.specs.Refusals.{code_of, phrase_of}
use Rattle.stun_endpoint.specs.declared.received.Refusal.{Refusal}
use Rattle.stun_endpoint.specs.declared.received.Refusal.TheVariants.{BadRequest, StaleNonce}
use Rattle.stun_endpoint.specs.declared.received.Refusal.TheVariants.{Unauthenticated}
use Rattle.stun_endpoint.specs.declared.received.Refusal.TheVariants.{UnknownAttribute}
use Rattle.stun_exchanges.proofs.Ascii.{from_small}
use Rattle.stun_exchanges.specs.Exchange.{is_asking}

-- ---- the error code

pub is_fit : (kind : Refusal) → is_asking kind ≡ true
    → IsError (record { code = code_of kind; reason = phrase_of kind })
is_fit BadRequest asks = cc
is_fit Unauthenticated asks = record {
  from_300 = omega arith;
  below_700 = omega arith;
  text = IsUtf8-from_ascii (codes "Unauthenticated") (from_small (codes "Unauthenticated") refl);
  short = omega arith;
}
is_fit UnknownAttribute asks = cc
is_fit StaleNonce asks = record {
  from_300 = omega arith;
  below_700 = omega arith;
  text = IsUtf8-from_ascii (codes "Stale Nonce") (from_small (codes "Stale Nonce") refl);
  short = omega arith;
}

-- ---- what a server adds to an error response

abbrev pub error_for : Refusal → CodeAndReason
error_for kind = record { code = code_of kind; reason = phrase_of kind }

abbrev pub added_for : Bool → AlgorithmSet → List ℕ → List ℕ → Added
added_for lists set nonce realm = record {
  nonce = Some nonce;
  realm = Some realm;
  username = None;
  userhash = None;
  algorithms = only_if lists (algorithms_of set);
  algorithm = None;
  integrity = None;
}

pub added_bytes : (lists : Bool) (set : AlgorithmSet) (nonce realm : List ℕ) (page : Page)
    → (page_after (additions_of (added_for lists set nonce realm)) page).bytes
    ≡ with_attributes page.bytes (added.nonce nonce ∷ added.realm realm
    ∷ cond lists (added.password_algorithms (algorithms_of set) ∷ []) [])
added_bytes true set nonce realm page = refl
added_bytes false set nonce realm page = refl

pub not_protected : (lists : Bool) (set : AlgorithmSet) (nonce realm : List ℕ)
    → protection_in (additions_of (added_for lists set nonce realm)) ≡ None
not_protected true set nonce realm = refl
not_protected false set nonce realm = refl

pub few : (lists : Bool) (set : AlgorithmSet) (nonce realm : List ℕ)
    → length nonce ≤ TEXT_LIMIT → length realm ≤ TEXT_LIMIT
    → IsSmall (added_for lists set nonce realm)
few true OnlySha1 nonce realm n r = record {
  texts = record { nonce = n; realm = r; username = tt };
  userhash = tt;
  algorithms = omega arith;
}
few true OnlySha256 nonce realm n r = record {
  texts = record { nonce = n; realm = r; username = tt };
  userhash = tt;
  algorithms = omega arith;
}
few true Both nonce realm n r = record {
  texts = record { nonce = n; realm = r; username = tt };
  userhash = tt;
  algorithms = omega arith;
}
few false set nonce realm n r = record {
  texts = record { nonce = n; realm = r; username = tt };
  userhash = tt;
  algorithms = tt;
}

-- ---- what is found among the attributes of the response

module _ (set : AlgorithmSet) (nonce realm : List ℕ) (place : ℕ) (value page : List ℕ) where
  abbrev pub shown_list : Bool → List Member
  shown_list lists =
      (place, record { kind = ERROR_CODE; value = value })
      ∷ added_members page (additions_of (added_for lists set nonce realm))

  pub first_code : {A : Type 0} (reading : TypedValue → Option A) (lists : Bool)
      → option_and_then (λ (m : Member). reading m.1) (first_of ERROR_CODE (shown_list lists))
      ≡ reading (record { kind = ERROR_CODE; value = value })
  first_code reading true = refl
  first_code reading false = refl

  pub first_nonce : {A : Type 0} (reading : TypedValue → Option A) (lists : Bool)
      → option_and_then (λ (m : Member). reading m.1) (first_of NONCE (shown_list lists))
      ≡ reading (added.nonce nonce)
  first_nonce reading true = refl
  first_nonce reading false = refl

  pub first_realm : {A : Type 0} (reading : TypedValue → Option A) (lists : Bool)
      → option_and_then (λ (m : Member). reading m.1) (first_of REALM (shown_list lists))
      ≡ reading (added.realm realm)
  first_realm reading true = refl
  first_realm reading false = refl

  pub first_list : {A : Type 0} (reading : TypedValue → Option A) (lists : Bool)
      → option_and_then (λ (m : Member). reading m.1)
      (first_of PASSWORD_ALGORITHMS (shown_list lists))
      ≡ cond lists (reading (added.password_algorithms (algorithms_of set))) None
  first_list reading true = refl
  first_list reading false = refl

  pub no_digest : (lists : Bool) → option_or (first_of MESSAGE_INTEGRITY_SHA256 (shown_list lists))
      (first_of MESSAGE_INTEGRITY (shown_list lists)) ≡ None
  no_digest true = refl
  no_digest false = refl

  pub no_fingerprint : (lists : Bool) → first_of FINGERPRINT (shown_list lists) ≡ None
  no_fingerprint true = refl
  no_fingerprint false = refl

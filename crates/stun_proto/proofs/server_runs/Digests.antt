-- The digest of a message verifies where it is the HMAC of what it covers.
use Rattle.std.proofs.Common.{◌≡◌, ◌⊎◌, inl, inr, ℕ, Bool, true, false, cond, List, [], ◌∷◌}
use Rattle.std.proofs.Common.{length, Option, Some, None, refl, sym, ◌∙◌, ap, subst, arith}
use Rattle.std.specs.Prelude.{find, nat_eq, ◌==◌, ◌&&◌, ◌↔◌}
use Rattle.std.specs.Cmp.Lexicographic.{nat_list_eq_equiv, pointwise, same_text}
use Rattle.std.specs.Option.{IsSome, is_some, option_and_then, option_or}
use Rattle.stun_base.specs.Algorithm.{digest, digest_length}
use Rattle.stun_base.specs.code.Algorithm.{length-digest}
use Rattle.stun_base.specs.Attributes.{MESSAGE_INTEGRITY, MESSAGE_INTEGRITY_SHA256}
use Rattle.stun_base.specs.declared.keys.algorithm.IntegrityAlgorithm.{IntegrityAlgorithm}
use Rattle.stun_base.specs.declared.keys.algorithm.IntegrityAlgorithm.TheVariants.{Sha1, Sha256}
use Rattle.stun_types.specs.Attribute.{TypedValue}
use Rattle.stun_types.specs.Integrity.{covered_bytes, deciding, first_of, integrity_algorithm}
use Rattle.stun_types.specs.Integrity.{is_digest, is_integrity, verified_algorithm, verified_at}
use Rattle.stun_types.specs.Message.{refusal}
use Rattle.stun_types.specs.Visible.{visible}
use Rattle.stun_types.specs.Walk.{Member}
use Rattle.stun_judging.specs.Reading.{Reading, has_visible_integrity, reading_of, verified_under}
use Rattle.stun_proto.specs.Headline.{HoldsDigest}
use Rattle.stun_proto.specs.Replies.{message_read}
use Rattle.stun_proto.proofs.server_runs.RepliesLemmas.{reads_as}
use Rattle.stun_proto.proofs.Tests.{both}

-- ---- what is found

-- the one that is found passes the test, and another test that it passes finds one too
found_passes : {X : Type 0} (test other : X → Bool) (xs : List X) (x : X) → find test xs ≡ Some x
    → (test x ≡ true) × (other x ≡ true → is_some (find other xs) ≡ true)
found_passes test other [] x found = cc
found_passes test other (y ∷ xs) x found =
    elim (test y) as (λ b. test y ≡ b → cond b (Some y) (find test xs) ≡ Some x → (test x ≡ true)
    × (other x ≡ true → is_some (cond (other y) (Some y) (find other xs)) ≡ true)) [
      | true ↦ λ passes is.
          let same : y ≡ x = cc in (
            subst (λ z. test z ≡ true) same passes,
            λ holds. ap (λ b. is_some (cond b (Some y) (find other xs))) (ap other same ∙ holds),
          )
      | false ↦ λ fails is.
          let rest = found_passes test other xs x is in (
            rest.0,
            λ holds. elim (other y) as (λ b. is_some (cond b (Some y) (find other xs)) ≡ true)
                [ true ↦ refl | false ↦ rest.1 holds ],
          )
    ] refl found

-- ---- the attribute that decides

-- one of the two types with the length of its digest is well formed
whole_is_integrity : (a : TypedValue) (kind : ℕ) → (a.kind == kind) ≡ true
    → (kind ≡ MESSAGE_INTEGRITY) ⊎ (kind ≡ MESSAGE_INTEGRITY_SHA256)
    → length a.value ≡ digest_length (integrity_algorithm a) → is_integrity a ≡ true
whole_is_integrity a kind same (inl is) whole =
    let kind_is : a.kind ≡ MESSAGE_INTEGRITY = grind (arith, same, is) in
    let long : length a.value ≡ 20 = whole
    ∙ ap (λ k. digest_length (cond (k == MESSAGE_INTEGRITY_SHA256) Sha256 Sha1)) kind_is in
    rw (kind_is, long) refl
whole_is_integrity a kind same (inr is) whole =
    let kind_is : a.kind ≡ MESSAGE_INTEGRITY_SHA256 = grind (arith, same, is) in
    let long : length a.value ≡ 32 = whole
    ∙ ap (λ k. digest_length (cond (k == MESSAGE_INTEGRITY_SHA256) Sha256 Sha1)) kind_is in
    rw (kind_is, long) refl

-- where the deciding attribute has the length of its digest, one is visible
is_seen : (bytes : List ℕ) (m : Member) → deciding bytes ≡ Some m → length m.1.value
    ≡ digest_length (integrity_algorithm m.1) → has_visible_integrity bytes ≡ true
is_seen bytes m decides whole = by (first_of MESSAGE_INTEGRITY_SHA256 (visible bytes)) refl decides
  where
    seen_by : (kind : ℕ) → (kind ≡ MESSAGE_INTEGRITY) ⊎ (kind ≡ MESSAGE_INTEGRITY_SHA256)
        → first_of kind (visible bytes) ≡ Some m → has_visible_integrity bytes ≡ true
    seen_by kind which found =
        let passes =
        found_passes (λ (n : Member). n.1.kind == kind) (λ (n : Member). is_integrity n.1)
        (visible bytes) m found in
        passes.1 (whole_is_integrity m.1 kind passes.0 which whole)

    by : (first : Option Member) → first_of MESSAGE_INTEGRITY_SHA256 (visible bytes) ≡ first
        → option_or first (first_of MESSAGE_INTEGRITY (visible bytes)) ≡ Some m
        → has_visible_integrity bytes ≡ true
    by (Some n) first is = seen_by MESSAGE_INTEGRITY_SHA256 (inr refl) (first ∙ is)
    by None first is = seen_by MESSAGE_INTEGRITY (inl refl) is

-- ---- the digest of a member

some_of : {A : Type 0} (b : Bool) (x : A) → IsSome (cond b (Some x) None) → b ≡ true
some_of true x h = refl
some_of false x h = cc

value_is : (bytes key : List ℕ) (m : Member) → IsSome (verified_at (λ _. key) bytes m)
    → m.1.value ≡ digest (integrity_algorithm m.1) key (covered_bytes bytes m.0 (length m.1.value))
value_is bytes key m verifies =
    let test = some_of (is_digest bytes key m) (integrity_algorithm m.1) verifies in
    same_text m.1.value
    (digest (integrity_algorithm m.1) key (covered_bytes bytes m.0 (length m.1.value)))
    (sym (both _ _ test).1)

it_verifies : (bytes key : List ℕ) (m : Member)
    → m.1.value ≡ digest (integrity_algorithm m.1) key (covered_bytes bytes m.0 (length m.1.value))
    → (length m.1.value ≡ digest_length (integrity_algorithm m.1)) × (is_digest bytes key m ≡ true)
it_verifies bytes key m is =
    let whole = ap length is
    ∙ length-digest (integrity_algorithm m.1) key (covered_bytes bytes m.0 (length m.1.value)) in
    let long : (length m.1.value == digest_length (integrity_algorithm m.1)) ≡ true =
    grind (arith, whole) in
    let matches : pointwise nat_eq m.1.value
    (digest (integrity_algorithm m.1) key (covered_bytes bytes m.0 (length m.1.value))) ≡ true =
    ap (λ v. pointwise nat_eq m.1.value v) (sym is) ∙ nat_list_eq_equiv.refl m.1.value in
    (whole, λ i. long i && matches i)

-- ---- of a message

-- what is verified of the bytes, as it is read of them
verified_is : (bytes key : List ℕ) → verified_under (reading_of bytes) key
    ≡ option_and_then (λ (verify : List ℕ → Option IntegrityAlgorithm). verify key)
    (cond (has_visible_integrity bytes) (Some (verified_algorithm bytes)) None)
unfolding reading_of
verified_is bytes key = refl

holds : (bytes key : List ℕ) → IsSome (verified_under (reading_of bytes) key)
    → HoldsDigest bytes key
holds bytes key verifies =
    by (has_visible_integrity bytes) (deciding bytes) refl
    (subst IsSome (verified_is bytes key) verifies)
  where
    by : (b : Bool) (o : Option Member) → deciding bytes ≡ o
        → IsSome
        (option_and_then (λ (verify : List ℕ → Option IntegrityAlgorithm). verify key)
        (cond b (Some (λ k. option_and_then (verified_at (λ _. k) bytes) o)) None))
        → HoldsDigest bytes key
    by true (Some m) is verifies = (m.0, m.1, is, value_is bytes key m verifies)
    by true None is verifies = cc
    by false o is verifies = cc

verifies : (bytes key : List ℕ) → HoldsDigest bytes key
    → IsSome (verified_under (reading_of bytes) key)
verifies bytes key h =
    let m : Member = (h.0, h.1) in
    let it = it_verifies bytes key m h.3 in
    let seen = is_seen bytes m h.2 it.0 in
    subst IsSome (sym (verified_is bytes key))
    (subst (λ b.
    IsSome (option_and_then (λ (verify : List ℕ → Option IntegrityAlgorithm). verify key)
    (cond b (Some (verified_algorithm bytes)) None))) (sym seen)
    (subst (λ o. IsSome (option_and_then (verified_at (λ _. key) bytes) o)) (sym h.2)
    (subst (λ b. IsSome (cond b (Some (integrity_algorithm m.1)) None)) (sym it.1) refl)))

-- the field `digest` of the first sentence
pub digest_held : (bytes key : List ℕ) (m : Reading) → message_read bytes ≡ Some m
    → IsSome (verified_under m key) ↔ HoldsDigest bytes key
digest_held bytes key m reads =
    let is = (reads_as (refusal bytes) (reading_of bytes) m reads).1 in (
      λ said. holds bytes key
          (subst (λ (r : Reading). IsSome (verified_under r key)) (sym is) said),
      λ held. subst (λ (r : Reading). IsSome (verified_under r key)) is (verifies bytes key held),
    )

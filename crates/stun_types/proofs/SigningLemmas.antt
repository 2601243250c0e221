-- What is signed verifies: the digest that was written is the one that reading compares.
use Rattle.std.proofs.Common.{◌≡◌, ℕ, ◌+◌, ◌-◌, ◌≤◌, Bool, true, false, List, []}
use Rattle.std.proofs.Common.{◌∷◌, ◌++◌, length, take, refl, sym, ◌∙◌, ap, arith}
use Rattle.std.specs.Prelude.{Some, None, find, nat_eq, ◌==◌}
use Rattle.std.specs.List.{list_any}
use Rattle.std.specs.Option.{option_and_then}
use Rattle.std.specs.Cmp.Lexicographic.{pointwise, nat_list_eq_equiv}
use Rattle.std.proofs.Math.Seq.{take-append_seam}
use Rattle.std.proofs.lemmas.List.{take_all}
use Rattle.std.proofs.lemmas.List.Folds.{find-append}
use Rattle.stun_base.specs.Algorithm.{digest, digest_length}
use Rattle.stun_base.specs.code.Algorithm.{length-digest}
use Rattle.stun_base.specs.Attributes.{MESSAGE_INTEGRITY, MESSAGE_INTEGRITY_SHA256}
use Rattle.stun_base.specs.declared.keys.algorithm.IntegrityAlgorithm.{IntegrityAlgorithm}
use Rattle.stun_base.specs.declared.keys.algorithm.IntegrityAlgorithm.TheVariants.{Sha1, Sha256}
use Rattle.stun_types.specs.Grammar.{spelled_attribute}
use Rattle.stun_types.specs.Integrity.{integrity_algorithm, covered_bytes, deciding}
use Rattle.stun_types.specs.Integrity.{first_of, is_digest, verified_at, verified_by}
use Rattle.stun_types.specs.Message.{with_length}
use Rattle.stun_types.specs.Visible.{visible}
use Rattle.stun_types.specs.Walk.{Member, walk}
use Rattle.stun_types.specs.Limits.{max_length}
use Rattle.stun_types.specs.Writing.{HasOneMore, IsAddable, IsOpen}
use Rattle.stun_types.specs.Writing.{covered_at_end, integrity_attribute}
use Rattle.stun_types.specs.Writing.{integrity_kind, length_with, with_integrity}
use Rattle.stun_types.proofs.AddingLemmas.{HasOneMore-added, HideNone}
use Rattle.stun_types.proofs.AddingLemmas.{HideNone-open, or_none, visible-open}

-- setting the length field again
pub with_length-again : (bytes : List ℕ) (n m : ℕ) → 20 ≤ length bytes
    → with_length (with_length bytes n) m ≡ with_length bytes m
with_length-again [] n m long = absurd (omega (arith, long))
with_length-again (x ∷ []) n m long = absurd (omega (arith, long))
with_length-again (x ∷ y ∷ []) n m long = refl
with_length-again (x ∷ y ∷ z ∷ []) n m long = refl
with_length-again (x ∷ y ∷ z ∷ w ∷ bytes) n m long = refl

pub length-with_length : (bytes : List ℕ) (n : ℕ) → 20 ≤ length bytes
    → length (with_length bytes n) ≡ length bytes
length-with_length [] n long = absurd (omega (arith, long))
length-with_length (x ∷ []) n long = absurd (omega (arith, long))
length-with_length (x ∷ y ∷ []) n long = absurd (omega (arith, long))
length-with_length (x ∷ y ∷ z ∷ []) n long = absurd (omega (arith, long))
length-with_length (x ∷ y ∷ z ∷ w ∷ bytes) n long = refl

-- the integrity attribute fits a message where its digest does
pub IsAddable-integrity : (message : List ℕ) (algorithm : IntegrityAlgorithm) (key : List ℕ)
    → length_with message (digest_length algorithm) ≤ max_length
    → IsAddable message (integrity_attribute message algorithm key)
IsAddable-integrity message Sha1 key short =
    record {
      kind = omega arith;
      value = rw (length-digest Sha1 key (covered_at_end message Sha1)) short;
    }
IsAddable-integrity message Sha256 key short =
    record {
      kind = omega arith;
      value = rw (length-digest Sha256 key (covered_at_end message Sha256)) short;
    }

-- what is not among attributes is not found
find_none : {X : Type 0} (test : X → Bool) (xs : List X) → list_any test xs ≡ false
    → find test xs ≡ None
find_none test [] none = refl
find_none test (x ∷ xs) none =
    let parts = or_none (test x) (list_any test xs) none in
    rw (parts.0, find_none test xs parts.1) refl

-- what the attribute at the end covers is the same once it is there
covered_bytes-again : (message tail : List ℕ) (raised count : ℕ) → 20 ≤ length message
    → covered_bytes (with_length message raised ++ tail) (length message) count
    ≡ covered_bytes message (length message) count
covered_bytes-again message tail raised count long =
    let n = length message + 4 + count - 20 in
    let front : take (length message) (with_length message raised ++ tail)
    ≡ with_length message raised =
    ap (λ k. take k (with_length message raised ++ tail))
    (sym (length-with_length message raised long))
    ∙ take-append_seam (with_length message raised) tail in
    ap (λ xs. with_length xs n) front
    ∙ (with_length-again message raised n long
    ∙ ap (λ xs. with_length xs n) (sym (take_all (length message) message (omega arith))))

-- the attribute that decides is the one that was added
deciding-signed : (message longer : List ℕ) (algorithm : IntegrityAlgorithm) (value : List ℕ)
    → HideNone (walk message)
    → visible longer ≡ walk message
    ++ (length message, record { kind = integrity_kind algorithm; value = value }) ∷ []
    → deciding longer
    ≡ Some (length message, record { kind = integrity_kind algorithm; value = value })
deciding-signed message longer Sha1 value none shown =
    let last : Member = (length message, record { kind = MESSAGE_INTEGRITY; value = value }) in
    let stronger : first_of MESSAGE_INTEGRITY_SHA256 (visible longer) ≡ None =
    ap (first_of MESSAGE_INTEGRITY_SHA256) shown
    ∙ (find-append (λ m. m.1.kind == MESSAGE_INTEGRITY_SHA256) (walk message) (last ∷ [])
    ∙ rw (find_none (λ (m : Member). m.1.kind == MESSAGE_INTEGRITY_SHA256) (walk message)
    none.integrity_sha256) refl) in
    let weaker : first_of MESSAGE_INTEGRITY (visible longer) ≡ Some last =
    ap (first_of MESSAGE_INTEGRITY) shown
    ∙ (find-append (λ m. m.1.kind == MESSAGE_INTEGRITY) (walk message) (last ∷ [])
    ∙ rw (find_none (λ (m : Member). m.1.kind == MESSAGE_INTEGRITY) (walk message) none.integrity)
    refl) in
    rw (stronger, weaker) refl
deciding-signed message longer Sha256 value none shown =
    let last : Member =
    (length message, record { kind = MESSAGE_INTEGRITY_SHA256; value = value }) in
    let stronger : first_of MESSAGE_INTEGRITY_SHA256 (visible longer) ≡ Some last =
    ap (first_of MESSAGE_INTEGRITY_SHA256) shown
    ∙ (find-append (λ m. m.1.kind == MESSAGE_INTEGRITY_SHA256) (walk message) (last ∷ [])
    ∙ rw (find_none (λ (m : Member). m.1.kind == MESSAGE_INTEGRITY_SHA256) (walk message)
    none.integrity_sha256) refl) in
    rw stronger refl

-- a list is the same as itself
same : (xs : List ℕ) → pointwise nat_eq xs xs ≡ true
same xs = nat_list_eq_equiv.refl xs

-- a whole value that is the digest of what it covers is found to be
is_digest-equal : (bytes key : List ℕ) (m : Member)
    → length m.1.value ≡ digest_length (integrity_algorithm m.1)
    → m.1.value ≡ digest (integrity_algorithm m.1) key (covered_bytes bytes m.0 (length m.1.value))
    → is_digest bytes key m ≡ true
is_digest-equal bytes key m whole equal =
    let long : (length m.1.value == digest_length (integrity_algorithm m.1)) ≡ true =
    grind (arith, whole) in
    let matches : pointwise nat_eq m.1.value
    (digest (integrity_algorithm m.1) key (covered_bytes bytes m.0 (length m.1.value))) ≡ true =
    ap (λ v. pointwise nat_eq m.1.value v) (sym equal) ∙ same m.1.value in
    rw (long, matches) refl

-- what the written digest covers is what reading finds that it covers
covers-signed : (message : List ℕ) (algorithm : IntegrityAlgorithm) (key : List ℕ)
    → 20 ≤ length message
    → covered_at_end message algorithm
    ≡ covered_bytes (with_integrity message algorithm key) (length message)
    (length (integrity_attribute message algorithm key).value)
covers-signed message algorithm key long =
    let attribute = integrity_attribute message algorithm key in
    let count = length-digest algorithm key (covered_at_end message algorithm) in
    ap (covered_bytes message (length message)) (sym count)
    ∙ sym (covered_bytes-again message (spelled_attribute attribute)
    (length_with message (length attribute.value)) (length attribute.value) long)

-- the digest that was written verifies
verified_at-signed : (message : List ℕ) (algorithm : IntegrityAlgorithm)
    (keys : IntegrityAlgorithm → List ℕ) → 20 ≤ length message
    → verified_at keys (with_integrity message algorithm (keys algorithm)) (
      length message,
      integrity_attribute message algorithm (keys algorithm),
    ) ≡ Some algorithm
verified_at-signed message Sha1 keys long =
    let key = keys Sha1 in
    let digests =
    is_digest-equal (with_integrity message Sha1 key) key (
      length message,
      integrity_attribute message Sha1 key,
    )
    (length-digest Sha1 key (covered_at_end message Sha1))
    (ap (digest Sha1 key) (covers-signed message Sha1 key long)) in
    rw digests refl
verified_at-signed message Sha256 keys long =
    let key = keys Sha256 in
    let digests =
    is_digest-equal (with_integrity message Sha256 key) key (
      length message,
      integrity_attribute message Sha256 key,
    )
    (length-digest Sha256 key (covered_at_end message Sha256))
    (ap (digest Sha256 key) (covers-signed message Sha256 key long)) in
    rw digests refl

-- what is signed verifies
pub verified_by-signed : (message : List ℕ) (algorithm : IntegrityAlgorithm)
    (keys : IntegrityAlgorithm → List ℕ) → IsOpen message
    → length_with message (digest_length algorithm) ≤ max_length
    → verified_by keys (with_integrity message algorithm (keys algorithm)) ≡ Some algorithm
verified_by-signed message algorithm keys is_open short =
    let key = keys algorithm in
    let longer = with_integrity message algorithm key in
    let attribute = integrity_attribute message algorithm key in
    let m : Member = (length message, attribute) in
    let more =
    HasOneMore-added message attribute is_open (IsAddable-integrity message algorithm key short) in
    let shown : visible longer ≡ walk message ++ m ∷ [] = more.visible_is
    ∙ ap (λ ms. ms ++ m ∷ []) (visible-open message is_open) in
    let decides =
    deciding-signed message longer algorithm attribute.value (HideNone-open message is_open)
    shown in
    ap (option_and_then (verified_at keys longer)) decides
    ∙ verified_at-signed message algorithm keys is_open.is_message.header.is_whole

-- and it has one attribute more
pub HasOneMore-signed : (message : List ℕ) (algorithm : IntegrityAlgorithm) (key : List ℕ)
    → IsOpen message → length_with message (digest_length algorithm) ≤ max_length
    → HasOneMore message (with_integrity message algorithm key)
    (integrity_attribute message algorithm key)
HasOneMore-signed message algorithm key is_open short =
    HasOneMore-added message (integrity_attribute message algorithm key) is_open
    (IsAddable-integrity message algorithm key short)

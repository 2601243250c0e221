-- What follows the deciding attribute is not read: no attribute that is read of a message is
-- FINGERPRINT.
use Rattle.std.proofs.Common.{[]}
use Rattle.std.proofs.Common.{◌≡◌, ℕ, Bool, true, false, cond, List}
use Rattle.std.proofs.Common.{◌∷◌, refl, sym, ◌∙◌, ap, arith}
use Rattle.std.specs.Prelude.{Option, Some, None, find, map, not, ◌==◌, ◌&&◌, ◌||◌, if◌then◌else◌}
use Rattle.std.specs.Option.{is_some, option_and_then, option_map, option_or}
use Rattle.stun_base.specs.Attributes.{ERROR_CODE, FINGERPRINT, MESSAGE_INTEGRITY}
use Rattle.stun_base.specs.Attributes.{MESSAGE_INTEGRITY_SHA256, NONCE, PASSWORD_ALGORITHM}
use Rattle.stun_base.specs.Attributes.{PASSWORD_ALGORITHMS, REALM, USERHASH, USERNAME}
use Rattle.stun_base.specs.Header.{type_field}
use Rattle.stun_base.specs.MessageType.{class_of, class_in, is_error}
use Rattle.stun_base.specs.declared.keys.algorithm.IntegrityAlgorithm.{IntegrityAlgorithm}
use Rattle.stun_types.specs.Attribute.{TypedValue}
use Rattle.stun_types.specs.ErrorCode.{CodeAndReason, error_of}
use Rattle.stun_types.specs.Integrity.{is_integrity}
use Rattle.stun_types.specs.Integrity.{is_well_formed, verified_by}
use Rattle.stun_types.specs.PasswordAlgorithms.{password_algorithm_in}
use Rattle.stun_types.specs.PasswordAlgorithms.{password_algorithms_in, integrity_of}
use Rattle.stun_types.specs.Tail.{besides_fingerprint}
use Rattle.stun_types.specs.Text.{text_of}
use Rattle.stun_types.specs.Userhash.{hash_of}
use Rattle.stun_types.specs.Visible.{visible}
use Rattle.stun_types.specs.Walk.{Member}
use Rattle.stun_judging.specs.Reading.{has_visible_integrity, last, last_of, reading_of}
use Rattle.stun_judging.proofs.JoinedReading.{or_nothing}
use Rattle.stun_judging.proofs.ReadingLemmas.{last_of-cons}

-- FINGERPRINT takes no part in what is the last of another type
last_of-besides : (kind : ℕ) (members : List Member) → (FINGERPRINT == kind) ≡ false
    → last_of kind (besides_fingerprint members) ≡ last_of kind members
last_of-besides kind [] other = refl
last_of-besides kind (m ∷ members) other =
    let rest = last_of-besides kind members other in
    let here : Option Member = if m.1.kind == kind then Some m else None in
    let one : last_of kind (besides_fingerprint (m ∷ members))
    ≡ option_or (last_of kind members) here =
    elim (m.1.kind == FINGERPRINT) as (λ same. (m.1.kind == FINGERPRINT) ≡ same
    → last_of kind (cond (not same) (m ∷ besides_fingerprint members) (besides_fingerprint members))
    ≡ option_or (last_of kind members) here) [
      | true ↦ λ same.
          let is : m.1.kind ≡ FINGERPRINT = grind (arith, same) in
          let apart : (m.1.kind == kind) ≡ false = ap (λ k. k == kind) is ∙ other in
          rest ∙ sym
          (ap (λ (b : Bool). option_or (last_of kind members) (if b then Some m else None)) apart
          ∙ or_nothing (last_of kind members))
      | false ↦ λ same. last_of-cons kind m (besides_fingerprint members)
          ∙ ap (λ found. option_or found here) rest
    ] refl in
    one ∙ sym (last_of-cons kind m members)

-- nor in which integrity attribute is found
find-besides : (members : List Member) → find (λ m. is_integrity m.1) (besides_fingerprint members)
    ≡ find (λ (m : Member). is_integrity m.1) members
find-besides [] = refl
find-besides (m ∷ members) =
    let rest = find-besides members in
    elim (m.1.kind == FINGERPRINT) as (λ same. (m.1.kind == FINGERPRINT) ≡ same
    → find (λ (n : Member). is_integrity n.1)
    (cond (not same) (m ∷ besides_fingerprint members) (besides_fingerprint members))
    ≡ cond (is_integrity m.1) (Some m) (find (λ (n : Member). is_integrity n.1) members)) [
      | true ↦ λ same.
          let is : m.1.kind ≡ FINGERPRINT = grind (arith, same) in
          let apart : is_integrity m.1 ≡ false =
          ap (λ k. ((k == MESSAGE_INTEGRITY) || (k == MESSAGE_INTEGRITY_SHA256))
          && is_well_formed m.1) is in
          rest ∙ sym
          (ap (λ (b : Bool). cond b (Some m) (find (λ (n : Member). is_integrity n.1) members))
          apart)
      | false ↦ λ same. ap (λ found. cond (is_integrity m.1) (Some m) found) rest
    ] refl

-- what two messages share that agree up to the deciding attribute
pub record ReadAlike (bytes others : List ℕ) : Type 0 where
  pub kind : type_field bytes ≡ type_field others
  pub shown : besides_fingerprint (visible bytes) ≡ besides_fingerprint (visible others)
  pub verdict : (keys : IntegrityAlgorithm → List ℕ)
      → verified_by keys bytes ≡ verified_by keys others

last-alike : {A : Type 0} (reading : TypedValue → Option A) (kind : ℕ) (bytes others : List ℕ)
    → ReadAlike bytes others → (FINGERPRINT == kind) ≡ false
    → last reading kind bytes ≡ last reading kind others
last-alike reading kind bytes others alike other =
    ap (option_and_then (λ m. reading m.1))
    (sym (last_of-besides kind (visible bytes) other)
    ∙ (ap (last_of kind) alike.shown ∙ last_of-besides kind (visible others) other))

-- so the same is read of them
pub reading-alike : (bytes others : List ℕ) → ReadAlike bytes others
    → reading_of bytes ≡ reading_of others
unfolding reading_of
reading-alike bytes others alike =
    let class : class_in bytes ≡ class_in others = ap class_of alike.kind in
    let error = last-alike error_of ERROR_CODE bytes others alike refl in
    let algorithms =
    last-alike password_algorithms_in PASSWORD_ALGORITHMS bytes others alike refl in
    let algorithm = last-alike password_algorithm_in PASSWORD_ALGORITHM bytes others alike refl in
    let realm = last-alike (text_of REALM 763) REALM bytes others alike refl in
    let nonce = last-alike (text_of NONCE 763) NONCE bytes others alike refl in
    let username = last-alike (text_of USERNAME 513) USERNAME bytes others alike refl in
    let userhash = last-alike hash_of USERHASH bytes others alike refl in
    let integrity : has_visible_integrity bytes ≡ has_visible_integrity others =
    ap is_some
    (sym (find-besides (visible bytes))
    ∙ (ap (find (λ (m : Member). is_integrity m.1)) alike.shown ∙ find-besides (visible others))) in
    λ i. record {
      class = class i;
      error = if is_error (class i) then option_map (λ (e : CodeAndReason). e.code) (error i)
          else None;
      realm = realm i;
      nonce = nonce i;
      username = username i;
      userhash = userhash i;
      algorithms = option_map (map integrity_of) (algorithms i);
      algorithm = option_map integrity_of (algorithm i);
      integrity = if integrity i then Some (λ key. alike.verdict (λ _. key) i) else None;
    }

-- and a short-term password verifies them alike

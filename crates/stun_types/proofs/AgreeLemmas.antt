-- Messages that agree up to the deciding attribute: their headers, their visible attributes and
-- their verdicts, and when they do.
use Rattle.std.proofs.Common.{◌≡◌, ℕ, ◌≤◌, List, [], ◌∷◌, ◌++◌, length, take, drop}
use Rattle.std.proofs.Common.{refl, sym, ◌∙◌, ap, arith, length-drop, take-append-drop}
use Rattle.std.specs.Prelude.{Some}
use Rattle.std.proofs.lemmas.List.{drop-append-le}
use Rattle.byteorder.specs.Numbers.{big_from-append}
use Rattle.stun_base.specs.Header.{transaction_id_field, type_field}
use Rattle.stun_base.specs.declared.keys.algorithm.IntegrityAlgorithm.{IntegrityAlgorithm}
use Rattle.stun_types.specs.Integrity.{deciding, verified_by}
use Rattle.stun_types.specs.Message.{with_length}
use Rattle.stun_types.specs.Tail.{AgreeUpToIntegrity, besides_fingerprint}
use Rattle.stun_types.specs.Visible.{visible}
use Rattle.stun_types.specs.Walk.{Member}
use Rattle.stun_types.proofs.HiddenLemmas.{shown-decided, visible-relengthed}
use Rattle.stun_types.proofs.TailLemmas.{long_before, verified_by-tail}

-- ---- headers

-- two of the fields of a header, which bytes after it and its length field have no part in
abbrev pub HaveSameHead : List ℕ → List ℕ → Type 0
HaveSameHead bytes others =
    (type_field bytes ≡ type_field others)
    × (transaction_id_field bytes ≡ transaction_id_field others)

head-append : (bytes tail : List ℕ) → 20 ≤ length bytes → HaveSameHead (bytes ++ tail) bytes
head-append [] tail long = absurd (omega (arith, long))
head-append (x ∷ []) tail long = absurd (omega (arith, long))
head-append (x ∷ y ∷ []) tail long = absurd (omega (arith, long))
head-append (x ∷ y ∷ z ∷ []) tail long = absurd (omega (arith, long))
head-append (x ∷ y ∷ z ∷ w ∷ rest) tail long =
    let id : drop 4 (rest ++ tail) ≡ drop 4 rest ++ tail =
    drop-append-le 4 rest tail (omega (arith, long)) in
    (refl, rw id (big_from-append 12 (drop 4 rest) tail (omega (arith, long, length-drop 4 rest))))

head-relengthed : (bytes : List ℕ) (n : ℕ) → 20 ≤ length bytes
    → HaveSameHead (with_length bytes n) bytes
head-relengthed [] n long = absurd (omega (arith, long))
head-relengthed (x ∷ []) n long = absurd (omega (arith, long))
head-relengthed (x ∷ y ∷ []) n long = absurd (omega (arith, long))
head-relengthed (x ∷ y ∷ z ∷ []) n long = absurd (omega (arith, long))
head-relengthed (x ∷ y ∷ z ∷ w ∷ rest) n long = (refl, refl)

-- the header is that of the bytes before the deciding attribute with any length
head-before : (bytes : List ℕ) (m : Member) → deciding bytes ≡ Some m
    → HaveSameHead bytes (with_length (take m.0 bytes) 0)
head-before bytes m decides =
    let front = take m.0 bytes in
    let long = long_before bytes m decides in
    let whole = take-append-drop m.0 bytes in
    let longer = head-append front (drop m.0 bytes) long in
    let set = head-relengthed front 0 long in (
      ap type_field (sym whole) ∙ (longer.0 ∙ sym set.0),
      ap transaction_id_field (sym whole) ∙ (longer.1 ∙ sym set.1),
    )

pub agree-header : (bytes others : List ℕ) → AgreeUpToIntegrity bytes others
    → HaveSameHead bytes others
agree-header bytes others agree =
    let one = head-before bytes agree.decider agree.decides in
    let other = head-before others agree.decider agree.decides_other in (
      one.0 ∙ (ap type_field agree.same_before ∙ sym other.0),
      one.1 ∙ (ap transaction_id_field agree.same_before ∙ sym other.1),
    )

-- ---- visible attributes and verdicts

pub agree-visible : (bytes others : List ℕ) → AgreeUpToIntegrity bytes others
    → besides_fingerprint (visible bytes) ≡ besides_fingerprint (visible others)
agree-visible bytes others agree =
    let m = agree.decider in
    let front : visible (take m.0 bytes) ≡ visible (take m.0 others) =
    sym (visible-relengthed (take m.0 bytes) 0 (long_before bytes m agree.decides))
    ∙ (ap visible agree.same_before
    ∙ visible-relengthed (take m.0 others) 0 (long_before others m agree.decides_other)) in
    shown-decided bytes m agree.decides
    ∙ (ap (λ ms. besides_fingerprint ms ++ m ∷ []) front
    ∙ sym (shown-decided others m agree.decides_other))

pub agree-verdict : (keys : IntegrityAlgorithm → List ℕ) (bytes others : List ℕ)
    → AgreeUpToIntegrity bytes others → verified_by keys bytes ≡ verified_by keys others
agree-verdict keys bytes others agree =
    verified_by-tail keys bytes others agree.decider agree.decides agree.decides_other
    agree.same_before

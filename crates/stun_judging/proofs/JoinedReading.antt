-- The last attribute of each type after what was added.
use Rattle.std.proofs.Common.{◌≡◌, ℕ, Bool, true, false, List, []}
use Rattle.std.proofs.Common.{◌∷◌, ◌++◌, length, refl, ◌∙◌, ap, arith}
use Rattle.std.specs.Prelude.{Option, Some, None, reverse, ◌==◌, ◌||◌, if◌then◌else◌}
use Rattle.std.specs.Option.{option_map, option_or}
use Rattle.std.proofs.lemmas.Bool.Decides.{nat_tests}
use Rattle.std.proofs.lemmas.List.{reverse-append}
use Rattle.std.proofs.lemmas.List.Folds.{find-append}
use Rattle.stun_base.specs.Attributes.{MESSAGE_INTEGRITY, MESSAGE_INTEGRITY_SHA256, FINGERPRINT}
use Rattle.stun_base.specs.declared.keys.algorithm.IntegrityAlgorithm.{IntegrityAlgorithm}
use Rattle.stun_base.specs.declared.keys.algorithm.IntegrityAlgorithm.TheVariants.{Sha1, Sha256}
use Rattle.stun_types.specs.Integrity.{first_of}
use Rattle.stun_types.specs.Visible.{visible}
use Rattle.stun_types.specs.Walk.{Member}
use Rattle.stun_types.specs.Writing.{integrity_kind, is_set_apart, with_attribute}
use Rattle.stun_types.specs.Writing.{with_integrity, integrity_attribute}
use Rattle.stun_judging.specs.Additions.{Addition, attribute, integrity}
use Rattle.stun_judging.specs.Joined.{HasAdded, IsReadBack, added_last, added_members, last_value}
use Rattle.stun_judging.specs.Reading.{last_of}
use Rattle.stun_judging.proofs.JoinedLemmas.{or_none}
use Rattle.stun_judging.proofs.ReadingLemmas.{last_of-cons}

pub or_nothing : {X : Type 0} (a : Option X) → option_or a None ≡ a
or_nothing None = refl
or_nothing (Some x) = refl

value_or : (a b : Option Member) → option_map (λ (m : Member). m.1) (option_or a b)
    ≡ option_or (option_map (λ (m : Member). m.1) a) (option_map (λ (m : Member). m.1) b)
value_or None b = refl
value_or (Some m) b = refl

value_if : (holds : Bool) (m : Member)
    → option_map (λ (m : Member). m.1) (if holds then Some m else None)
    ≡ (if holds then Some m.1 else None)
value_if true m = refl
value_if false m = refl

-- the last of two lists
last_of-append : (kind : ℕ) (xs ys : List Member)
    → last_of kind (xs ++ ys) ≡ option_or (last_of kind ys) (last_of kind xs)
last_of-append kind xs ys =
    ap (first_of kind) (reverse-append xs ys)
    ∙ find-append (λ (m : Member). m.1.kind == kind) (reverse ys) (reverse xs)

-- the integrity attributes are set apart
other_kind : (kind : ℕ) (algorithm : IntegrityAlgorithm) → is_set_apart kind ≡ false
    → (integrity_kind algorithm == kind) ≡ false
other_kind kind Sha1 other =
    let kinds =
    or_none (kind == MESSAGE_INTEGRITY || kind == MESSAGE_INTEGRITY_SHA256) (kind == FINGERPRINT)
    other in
    let weaker =
    (or_none (kind == MESSAGE_INTEGRITY) (kind == MESSAGE_INTEGRITY_SHA256) kinds.0).0 in
    grind (arith, nat_tests, weaker)
other_kind kind Sha256 other =
    let kinds =
    or_none (kind == MESSAGE_INTEGRITY || kind == MESSAGE_INTEGRITY_SHA256) (kind == FINGERPRINT)
    other in
    let stronger =
    (or_none (kind == MESSAGE_INTEGRITY) (kind == MESSAGE_INTEGRITY_SHA256) kinds.0).1 in
    grind (arith, nat_tests, stronger)

-- the last of what is added
last_added : (kind : ℕ) (message : List ℕ) (list : List Addition) → is_set_apart kind ≡ false
    → option_map (λ (m : Member). m.1) (last_of kind (added_members message list))
    ≡ added_last kind list
last_added kind message [] other = refl
last_added kind message (attribute a ∷ others) other =
    let members = added_members (with_attribute message a) others in
    ap (option_map (λ (m : Member). m.1)) (last_of-cons kind (length message, a) members)
    ∙ (value_or (last_of kind members) (if a.kind == kind then Some (length message, a) else None)
    ∙ (ap (option_or (option_map (λ (m : Member). m.1) (last_of kind members)))
    (value_if (a.kind == kind) (length message, a))
    ∙ ap (λ found. option_or found (if a.kind == kind then Some a else None))
    (last_added kind (with_attribute message a) others other)))
last_added kind message (integrity algorithm key ∷ others) other =
    let members = added_members (with_integrity message algorithm key) others in
    let none : (if integrity_kind algorithm == kind
    then Some (length message, integrity_attribute message algorithm key) else None) ≡ None =
    ap (λ holds. if holds then Some (length message, integrity_attribute message algorithm key)
    else None) (other_kind kind algorithm other) in
    ap (option_map (λ (m : Member). m.1))
    (last_of-cons kind (length message, integrity_attribute message algorithm key) members)
    ∙ (ap (λ found. option_map (λ (m : Member). m.1) (option_or (last_of kind members) found)) none
    ∙ (ap (option_map (λ (m : Member). m.1)) (or_nothing (last_of kind members))
    ∙ last_added kind (with_integrity message algorithm key) others other))

-- what is read of a message with additions
pub read_back : (message : List ℕ) (list : List Addition) (longer : List ℕ)
    → HasAdded message list longer → IsReadBack message list longer
read_back message list longer added kind other =
    ap (λ ms. option_map (λ (m : Member). m.1) (last_of kind ms)) added.visible_is
    ∙ (ap (option_map (λ (m : Member). m.1))
    (last_of-append kind (visible message) (added_members message list))
    ∙ (value_or (last_of kind (added_members message list)) (last_of kind (visible message))
    ∙ ap (λ found. option_or found (last_value kind message)) (last_added kind message list other)))

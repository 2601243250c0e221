-- The last member of a type, step by step, and what is there where a test holds.
use Rattle.std.proofs.Common.{◌≡◌, ℕ, List, [], ◌∷◌, Bool, true, false}
use Rattle.std.proofs.Common.{Option, Some, None, refl, ap, ◌∙◌}
use mathlib.Core.List.{reverse-cons}
use Rattle.std.specs.Prelude.{cond, reverse, ◌==◌, ◌||◌}
use Rattle.std.specs.List.{find}
use Rattle.std.specs.Option.{is_some, option_and_then, option_map, option_or}
use Rattle.std.proofs.lemmas.List.Folds.{find-append}
use Rattle.stun_base.specs.Attributes.{ERROR_CODE, MESSAGE_INTEGRITY}
use Rattle.stun_base.specs.Attributes.{MESSAGE_INTEGRITY_SHA256, NONCE, PASSWORD_ALGORITHM}
use Rattle.stun_base.specs.Attributes.{PASSWORD_ALGORITHMS, REALM, USERHASH, USERNAME}
use Rattle.stun_types.specs.Attribute.{TypedValue}
use Rattle.stun_types.specs.Integrity.{first_of, is_integrity}
use Rattle.stun_types.specs.Walk.{Member}
use Rattle.stun_judging.specs.Reading.{last_of}
use Rattle.stun_judging.specs.declared.reading.LastAttributes.{LastAttributes}
use Rattle.stun_judging.specs.code.LastAttributes.{with_member}

-- the last of a type with one member more in front
pub last_of-cons : (kind : ℕ) (m : Member) (members : List Member) → last_of kind (m ∷ members)
    ≡ option_or (last_of kind members) (cond (m.1.kind == kind) (Some m) None)
last_of-cons kind m members =
    ap (first_of kind) (reverse-cons m members)
    ∙ find-append (λ (x : Member). x.1.kind == kind) (reverse members) (m ∷ [])

-- one member more is passed
pub last_of-passed : (matches : Bool) (m : Member) (rest : Option Member)
    (found : Option TypedValue)
    → option_or (option_map (λ x. x.1) (option_or rest (cond matches (Some m) None))) found
    ≡ option_or (option_map (λ x. x.1) rest) (cond matches (Some m.1) found)
last_of-passed true m None found = refl
last_of-passed false m None found = refl
last_of-passed matches m (Some other) found = refl

pub is_some-cond : {X : Type 0} (b : Bool) (x : X) → is_some (cond b (Some x) None) ≡ b
is_some-cond true x = refl
is_some-cond false x = refl

found-passed : (matches : Bool) (m : Member) (rest : Option Member) (before : Bool)
    → (is_some (cond matches (Some m) rest) || before) ≡ (is_some rest || (matches || before))
found-passed true m None before = refl
found-passed true m (Some other) before = refl
found-passed false m None before = refl
found-passed false m (Some other) before = refl

-- the first of a type that was found stays it
first-passed : (matches : Bool) (m : Member) (rest found : Option Member)
    → option_or found (cond matches (Some m) rest)
    ≡ option_or (option_or found (cond matches (Some m) None)) rest
first-passed true m rest None = refl
first-passed false m rest None = refl
first-passed matches m rest (Some other) = refl

-- what was noted, with the members that are left: the last of each type is among them, or else was
-- noted before
abbrev pub noted_from : LastAttributes → List Member → LastAttributes
noted_from last members = record {
  error_code = option_or (option_map (λ m. m.1) (last_of ERROR_CODE members)) last.error_code;
  realm = option_or (option_map (λ m. m.1) (last_of REALM members)) last.realm;
  nonce = option_or (option_map (λ m. m.1) (last_of NONCE members)) last.nonce;
  username = option_or (option_map (λ m. m.1) (last_of USERNAME members)) last.username;
  userhash = option_or (option_map (λ m. m.1) (last_of USERHASH members)) last.userhash;
  password_algorithms =
      option_or (option_map (λ m. m.1) (last_of PASSWORD_ALGORITHMS members))
      last.password_algorithms;
  password_algorithm =
      option_or (option_map (λ m. m.1) (last_of PASSWORD_ALGORITHM members))
      last.password_algorithm;
  integrity = option_or last.integrity (first_of MESSAGE_INTEGRITY members);
  integrity_sha256 = option_or last.integrity_sha256 (first_of MESSAGE_INTEGRITY_SHA256 members);
  has_integrity = is_some (find (λ m. is_integrity m.1) members) || last.has_integrity;
}

passed : (kind : ℕ) (m : Member) (members : List Member) (found : Option TypedValue)
    → option_or (option_map (λ x. x.1) (last_of kind (m ∷ members))) found
    ≡ option_or (option_map (λ x. x.1) (last_of kind members))
    (cond (m.1.kind == kind) (Some m.1) found)
passed kind m members found =
    ap (λ o. option_or (option_map (λ (x : Member). x.1) o) found) (last_of-cons kind m members)
    ∙ last_of-passed (m.1.kind == kind) m (last_of kind members) found

pub noted-passed : (last : LastAttributes) (m : Member) (members : List Member)
    → noted_from last (m ∷ members) ≡ noted_from (with_member last m) members
noted-passed last m members = λ i. record {
  error_code = passed ERROR_CODE m members last.error_code i;
  realm = passed REALM m members last.realm i;
  nonce = passed NONCE m members last.nonce i;
  username = passed USERNAME m members last.username i;
  userhash = passed USERHASH m members last.userhash i;
  password_algorithms = passed PASSWORD_ALGORITHMS m members last.password_algorithms i;
  password_algorithm = passed PASSWORD_ALGORITHM m members last.password_algorithm i;
  integrity =
      first-passed (m.1.kind == MESSAGE_INTEGRITY) m (first_of MESSAGE_INTEGRITY members)
      last.integrity i;
  integrity_sha256 =
      first-passed (m.1.kind == MESSAGE_INTEGRITY_SHA256) m
      (first_of MESSAGE_INTEGRITY_SHA256 members) last.integrity_sha256 i;
  has_integrity =
      found-passed (is_integrity m.1) m (find (λ x. is_integrity x.1) members) last.has_integrity i;
}

-- reading the attribute of a member
pub and_then-map : {X Y Z : Type 0} (f : Y → Option Z) (g : X → Y) (o : Option X)
    → option_and_then f (option_map g o) ≡ option_and_then (λ x. f (g x)) o
and_then-map f g None = refl
and_then-map f g (Some x) = refl

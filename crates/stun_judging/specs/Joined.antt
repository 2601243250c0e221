-- What a reader finds in a message after additions (RFC 8489, sections 14.5, 14.6 and 9.2): which
-- attributes are visible, and whose digest verifies.
use Rattle.std.specs.Prelude.{[]}
use Rattle.std.specs.Prelude.{◌≡◌, ℕ, ◌-◌, ◌<◌, ◌^◌, ◌==◌, false, if◌then◌else◌}
use Rattle.std.specs.Prelude.{List, ◌∷◌, ◌++◌, length, Option, Some, None}
use Rattle.std.specs.Option.{is_some, option_map, option_or}
use Rattle.stun_base.specs.Header.{type_field, transaction_id_field}
use Rattle.stun_base.specs.declared.keys.algorithm.IntegrityAlgorithm.{IntegrityAlgorithm}
use Rattle.stun_types.specs.Attribute.{TypedValue}
use Rattle.stun_types.specs.Integrity.{verified_algorithm}
use Rattle.stun_types.specs.Message.{IsMessage}
use Rattle.stun_types.specs.Visible.{visible}
use Rattle.stun_types.specs.Walk.{Member}
use Rattle.stun_types.specs.Writing.{IsOpen, integrity_attribute, is_set_apart}
use Rattle.stun_judging.specs.Additions.{Addition, attribute, integrity}
use Rattle.stun_judging.specs.Additions.{Page, growth_of, with_addition}
use Rattle.stun_judging.specs.Reading.{has_visible_integrity, last_of}

-- the type of an attribute is a number of 16 bits
abbrev pub IsTyped : Addition → Type 0
IsTyped (attribute a) = a.kind < 2 ^ 16
IsTyped (integrity algorithm key) = Unit {0}

-- the attribute that an addition to a message writes
abbrev pub written_attribute : List ℕ → Addition → TypedValue
written_attribute message (attribute a) = a
written_attribute message (integrity algorithm key) = integrity_attribute message algorithm key

-- the attributes that additions write, each at the end of the message
abbrev pub added_members : List ℕ → List Addition → List Member
added_members message [] = []
added_members message (addition ∷ others) =
    (length message, written_attribute message addition)
    ∷ added_members (with_addition addition message) others

-- the last attribute of a type among additions
abbrev pub added_last : ℕ → List Addition → Option TypedValue
added_last kind [] = None
added_last kind (attribute a ∷ others) =
    option_or (added_last kind others) (if a.kind == kind then Some a else None)
added_last kind (integrity algorithm key ∷ others) = added_last kind others

-- the last visible attribute of a type
abbrev pub last_value : ℕ → List ℕ → Option TypedValue
last_value kind bytes = option_map (λ m. m.1) (last_of kind (visible bytes))

-- the algorithm and the key of a digest
pub record Protection : Type 0 where
  pub algorithm : IntegrityAlgorithm
  pub key : List ℕ

-- the digest among additions
abbrev pub protection_in : List Addition → Option Protection
protection_in [] = None
protection_in (attribute a ∷ others) = protection_in others
protection_in (integrity algorithm key ∷ others) =
    Some (record { algorithm = algorithm; key = key })

-- the message after additions. Its type and ID are unchanged. Attributes that were visible are
-- still visible, followed by the additions in their order
pub record HasAdded (before : List ℕ) (list : List Addition) (after : List ℕ) : Type 0 where
  pub is_message : IsMessage after
  pub type_is : type_field after ≡ type_field before
  pub transaction_id_is : transaction_id_field after ≡ transaction_id_field before
  pub visible_is : visible after ≡ visible before ++ added_members before list
  -- there is a well-formed integrity attribute if and only if a digest was added
  pub integrity_is : has_visible_integrity after ≡ is_some (protection_in list)
  -- if no digest was added, more attributes can be added
  pub is_open : protection_in list ≡ None → IsOpen after
  -- if a digest was added, it verifies under its key
  pub digest_verifies : (p : Protection) → protection_in list ≡ Some p
      → verified_algorithm after p.key ≡ Some p.algorithm

-- for each type, the attribute that was added is read, or else the one that the message had
abbrev pub IsReadBack : List ℕ → List Addition → List ℕ → Type 0
IsReadBack before list after =
    (kind : ℕ) → is_set_apart kind ≡ false
    → last_value kind after ≡ option_or (added_last kind list) (last_value kind before)

-- the page after additions, if none of them is refused
abbrev pub page_after : List Addition → Page → Page
page_after [] page = page
page_after (addition ∷ others) page =
    page_after others
    (record { bytes = with_addition addition page.bytes; room = page.room - growth_of addition })

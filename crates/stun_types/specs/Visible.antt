-- The visible attributes of a message (RFC 8489, sections 14.5 to 14.7). An integrity attribute
-- covers the bytes before it. After it only the stronger integrity attribute and FINGERPRINT are
-- visible.
use Rattle.std.specs.Prelude.{ℕ, Bool, true, false, List, [], ◌∷◌, filter, nat_lt, ◌==◌, ◌||◌}
use Rattle.std.specs.Prelude.{Option, Some, None, if◌then◌else◌}
use Rattle.std.specs.List.{list_any}
use Rattle.stun_base.specs.Attributes.{MESSAGE_INTEGRITY, MESSAGE_INTEGRITY_SHA256, FINGERPRINT}
use Rattle.stun_base.specs.declared.wire.attribute_type.AttributeType.{AttributeType}
use Rattle.stun_types.specs.Walk.{Member, walk}
use Rattle.stun_types.specs.declared.message.visibility.Visibility.{Visibility}
use Rattle.stun_types.specs.declared.message.visibility.Visibility.TheVariants.{Everything, Nothing}
use Rattle.stun_types.specs.declared.message.visibility.Visibility.TheVariants.{AfterIntegrity}
use Rattle.stun_types.specs.declared.message.visibility.Visibility.TheVariants.{
  AfterIntegritySha256,
}

-- whether an attribute of a type is among these
abbrev pub has_kind : ℕ → List Member → Bool
has_kind kind members = list_any (λ m. m.1.kind == kind) members

-- the members of a type
abbrev pub of_kind : ℕ → List Member → List Member
of_kind kind members = filter (λ m. m.1.kind == kind) members

-- the members before an offset
abbrev pub before : ℕ → List Member → List Member
before place members = filter (λ m. nat_lt m.0 place) members

-- the visibility after attributes, given which of the three types are among them
abbrev pub visibility_of : Bool → Bool → Bool → Visibility
visibility_of integrity integrity_sha256 fingerprint =
    if fingerprint then Nothing
    else if integrity_sha256 then AfterIntegritySha256
    else if integrity then AfterIntegrity else Everything

-- whether an attribute of a type is visible
abbrev pub shows : Visibility → ℕ → Bool
shows Everything kind = true
shows AfterIntegrity kind = (kind == MESSAGE_INTEGRITY_SHA256) || (kind == FINGERPRINT)
shows AfterIntegritySha256 kind = kind == FINGERPRINT
shows Nothing kind = false

-- the visibility at an offset, given the attributes before it
abbrev pub visibility_at : ℕ → List Member → Visibility
visibility_at place members =
    visibility_of (has_kind MESSAGE_INTEGRITY (before place members))
    (has_kind MESSAGE_INTEGRITY_SHA256 (before place members))
    (has_kind FINGERPRINT (before place members))

-- whether a member is visible after the members before it
abbrev pub is_visible : List Member → Member → Bool
is_visible members m = shows (visibility_at m.0 members) m.1.kind

-- the visible attributes of a message
unfoldable pub visible : List ℕ → List Member
visible bytes = filter (is_visible (walk bytes)) (walk bytes)

-- the visibility after one more attribute, which has this type
abbrev pub after : Visibility → ℕ → Visibility
after Everything kind =
    visibility_of (kind == MESSAGE_INTEGRITY) (kind == MESSAGE_INTEGRITY_SHA256)
    (kind == FINGERPRINT)
after AfterIntegrity kind =
    visibility_of true (kind == MESSAGE_INTEGRITY_SHA256) (kind == FINGERPRINT)
after AfterIntegritySha256 kind = visibility_of true true (kind == FINGERPRINT)
after Nothing kind = Nothing

-- those of these attributes that are visible, given the visibility where they begin
unfoldable pub visible_after : Visibility → List Member → List Member
visible_after visibility [] = []
visible_after visibility (m ∷ members) =
    if shows visibility m.1.kind then m ∷ visible_after (after visibility m.1.kind) members
    else visible_after (after visibility m.1.kind) members

-- the type that hides the most attributes, among the types of earlier attributes
abbrev pub hiding_type : Visibility → Option AttributeType
hiding_type Everything = None
hiding_type AfterIntegrity = Some (record { 0 = MESSAGE_INTEGRITY })
hiding_type AfterIntegritySha256 = Some (record { 0 = MESSAGE_INTEGRITY_SHA256 })
hiding_type Nothing = Some (record { 0 = FINGERPRINT })

-- the type that hides an attribute of this type, if the attribute is hidden
abbrev pub hider : Visibility → ℕ → Option AttributeType
hider visibility kind = if shows visibility kind then None else hiding_type visibility

-- What signing adds to a message, by attribute, and what a reader finds in a signed message (RFC
-- 8489, sections 9.2.3 to 9.2.5).
use Rattle.std.specs.Prelude.{[]}
use Rattle.std.specs.Prelude.{◌≡◌, ℕ, ◌+◌, ◌-◌, ◌≤◌, Bool, true, false, if◌then◌else◌}
use Rattle.std.specs.Prelude.{List, ◌∷◌, length, Option, Some, None, IsUtf8}
use Rattle.std.specs.List.{AllByRecursion}
use Rattle.std.specs.Option.{IfSome, is_some}
use Rattle.stun_base.specs.Attributes.{ERROR_CODE, NONCE, PASSWORD_ALGORITHM}
use Rattle.stun_base.specs.Attributes.{PASSWORD_ALGORITHMS, REALM, USERHASH, USERNAME}
use Rattle.stun_base.specs.Header.{HEADER_LENGTH}
use Rattle.stun_base.specs.declared.keys.algorithm.IntegrityAlgorithm.{IntegrityAlgorithm}
use Rattle.stun_base.specs.declared.wire.message_type.MessageClass.{MessageClass}
use Rattle.stun_types.specs.Attribute.{TypedValue}
use Rattle.stun_types.specs.ErrorCode.{CodeAndReason, error_value}
use Rattle.stun_types.specs.Limits.{TEXT_LIMIT, USERNAME_LIMIT, max_length}
use Rattle.stun_types.specs.Visible.{has_kind}
use Rattle.stun_types.specs.Walk.{walk}
use Rattle.stun_types.specs.Writing.{IsOpen}
use Rattle.stun_judging.specs.AddedAttribute as attributes
use Rattle.stun_judging.specs.Additions.{Addition, attribute, growth, integrity}
use Rattle.stun_judging.specs.Naming.{Naming, plain, hashed}
use Rattle.stun_judging.specs.Joined.{Protection}
use Rattle.stun_base.specs.MessageType.{class_in}
use Rattle.stun_judging.specs.Reading.{Reading, error_code, verified_under}

-- what is added, in the order in which it is in the message
pub record Added : Type 0 where
  pub nonce : Option (List ℕ)
  pub realm : Option (List ℕ)
  pub username : Option (List ℕ)
  pub userhash : Option (List ℕ)
  pub algorithms : Option (List IntegrityAlgorithm)
  pub algorithm : Option IntegrityAlgorithm
  pub integrity : Option Protection

abbrev pub nothing : Added
nothing =
    record {
      nonce = None;
      realm = None;
      username = None;
      userhash = None;
      algorithms = None;
      algorithm = None;
      integrity = None;
    }

-- an addition, if there is one, before others
abbrev pub if_there : {A : Type 0} → (A → Addition) → Option A → List Addition → List Addition
if_there addition None others = others
if_there addition (Some value) others = addition value ∷ others

-- the additions, in their order
abbrev pub additions_of : Added → List Addition
additions_of a =
    if_there (λ text. attribute (attributes.nonce text)) a.nonce
    (if_there (λ text. attribute (attributes.realm text)) a.realm
    (if_there (λ text. attribute (attributes.username text)) a.username
    (if_there (λ hash. attribute (attributes.userhash hash)) a.userhash
    (if_there (λ list. attribute (attributes.password_algorithms list)) a.algorithms
    (if_there (λ algorithm. attribute (attributes.password_algorithm algorithm)) a.algorithm
    (if_there (λ (p : Protection). integrity p.algorithm p.key) a.integrity []))))))

-- texts are within their limits (sections 14.3, 14.9 and 14.10)
pub record IsWithinLimits (a : Added) : Type 0 where
  pub nonce : IfSome a.nonce (λ text. length text ≤ TEXT_LIMIT)
  pub realm : IfSome a.realm (λ text. length text ≤ TEXT_LIMIT)
  pub username : IfSome a.username (λ text. length text ≤ USERNAME_LIMIT)

-- texts are UTF-8, and a hash has its length (section 14.4)
pub record IsText (a : Added) : Type 0 where
  pub nonce : IfSome a.nonce IsUtf8
  pub realm : IfSome a.realm IsUtf8
  pub username : IfSome a.username IsUtf8
  pub userhash : IfSome a.userhash (λ hash. length hash ≡ 32)

-- texts are within their limits, a hash has its length, and at most two algorithms are listed
pub record IsSmall (a : Added) : Type 0 where
  pub texts : IsWithinLimits a
  pub userhash : IfSome a.userhash (λ hash. length hash ≡ 32)
  pub algorithms : IfSome a.algorithms (λ list. length list ≤ 2)

-- the types of the attributes that signing adds before the digest
abbrev pub added_kinds : List ℕ
added_kinds = NONCE ∷ REALM ∷ USERNAME ∷ USERHASH ∷ PASSWORD_ALGORITHMS ∷ PASSWORD_ALGORITHM ∷ []

-- an open message that has no attribute of these types
pub record IsUnsigned (message : List ℕ) : Type 0 where
  pub is_open : IsOpen message
  pub none : AllByRecursion (λ kind. has_kind kind (walk message) ≡ false) added_kinds

-- a message that is built with no other attribute than an error code: its class and its error code,
-- as a reader finds them
pub record IsBuilt (message : List ℕ) (class : MessageClass) (error : Option ℕ) : Type 0 where
  pub unsigned : IsUnsigned message
  pub class_is : class_in message ≡ class
  pub error_is : error_code message ≡ error
  -- a header, and an error code with the longest reason
  pub short : length message ≤ 792

-- an error code as an attribute
abbrev pub error_attribute : CodeAndReason → TypedValue
error_attribute error = record { kind = ERROR_CODE; value = error_value error }

-- the additions fit the length field after a message, and the room of its writer
pub record HasRoomFor (a : Added) (message : List ℕ) (room : ℕ) : Type 0 where
  pub field : length message - HEADER_LENGTH + growth (additions_of a) ≤ max_length
  pub enough : growth (additions_of a) ≤ room

-- the types of the attributes that are added before the digest
abbrev pub kinds_in : List Addition → List ℕ
kinds_in [] = []
kinds_in (attribute a ∷ others) = a.kind ∷ kinds_in others
kinds_in (integrity algorithm key ∷ others) = kinds_in others

-- a message in a writer with this much room is signable: only a failed allocation prevents these
-- additions. It has no integrity attribute, no FINGERPRINT, and none of the attributes that are
-- added. Texts are within their limits. Length field and writer have room for all of them
pub record IsSignable (a : Added) (message : List ℕ) (room : ℕ) : Type 0 where
  pub is_open : IsOpen message
  pub none_there : AllByRecursion (λ kind. has_kind kind (walk message) ≡ false)
      (kinds_in (additions_of a))
  pub texts : IsWithinLimits a
  pub has_room : HasRoomFor a message room

-- a reader finds in a message its class, its error code, and what was added
pub record ReadsAs (class : MessageClass) (error : Option ℕ) (a : Added) (r : Reading) : Type
    0 where
  pub class_is : r.class ≡ class
  pub error_is : r.error ≡ error
  pub realm_is : r.realm ≡ a.realm
  pub nonce_is : r.nonce ≡ a.nonce
  pub username_is : r.username ≡ a.username
  pub userhash_is : r.userhash ≡ a.userhash
  pub algorithms_are : r.algorithms ≡ a.algorithms
  pub algorithm_is : r.algorithm ≡ a.algorithm
  pub integrity_is : is_some r.integrity ≡ is_some a.integrity
  pub digest_verifies : (p : Protection) → a.integrity ≡ Some p
      → verified_under r p.key ≡ Some p.algorithm

abbrev pub only_if : {A : Type 0} → Bool → A → Option A
only_if holds value = if holds then Some value else None

-- ---- the client

abbrev pub plain_name : Naming → Option (List ℕ)
plain_name (plain name) = Some name
plain_name (hashed hash) = None

abbrev pub hashed_name : Naming → Option (List ℕ)
hashed_name (plain name) = None
hashed_name (hashed hash) = Some hash

abbrev pub is_listed : List IntegrityAlgorithm → Bool
is_listed [] = false
is_listed (a ∷ list) = true

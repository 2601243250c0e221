-- What signing adds to a message (RFC 8489, section 9): attributes, one after another, and the
-- integrity attribute last.
use Rattle.std.specs.Prelude.{[]}
use Rattle.std.specs.Prelude.{◌≡◌, ◌<◌, ℕ, ◌-◌, ◌==◌, nat_lt, Bool, ◌&&◌, ◌||◌}
use Rattle.std.specs.Prelude.{if◌then◌else◌, List, ◌∷◌, ◌++◌, length}
use Rattle.std.specs.Prelude.{sum_by, Option, Some, None, Result, Ok, Err, IsOk}
use Rattle.stun_base.specs.Algorithm.{digest_length}
use Rattle.stun_base.specs.Attributes.{USERNAME, REALM, NONCE}
use Rattle.stun_base.specs.declared.keys.algorithm.IntegrityAlgorithm.{IntegrityAlgorithm}
use Rattle.stun_base.specs.declared.wire.error.StunWriteError.{StunWriteError}
use Rattle.stun_base.specs.declared.wire.error.StunWriteError.TheVariants.{NotAllowed}
use Rattle.stun_base.specs.declared.wire.error.StunWriteError.TheVariants.{MessageIntegrityExists}
use Rattle.stun_base.specs.declared.wire.error.StunWriteError.TheVariants.{AttributeExists}
use Rattle.stun_base.specs.declared.wire.error.StunWriteError.TheVariants.{TooLarge, TooSmall}
use Rattle.stun_base.specs.declared.wire.error.StunWriteError.TheVariants.{IntegrityFailed}
use Rattle.stun_base.specs.declared.wire.error.StunWriteError.TheVariants.{OutOfMemory}
use Rattle.stun_types.specs.Attribute.{TypedValue, attribute_length}
use Rattle.stun_types.specs.Message.{LENGTH_LIMIT}
use Rattle.stun_types.specs.Limits.{TEXT_LIMIT, USERNAME_LIMIT}
use Rattle.stun_types.specs.Writing.{attribute_refusal, signing_refusal}
use Rattle.stun_types.specs.Writing.{with_attribute, with_integrity}

-- an attribute, or the integrity attribute of an algorithm under a key
pub data Addition : Type 0 where
  attribute : TypedValue → Addition
  integrity : IntegrityAlgorithm → List ℕ → Addition

-- a message in a writer: its bytes, and the room after them
pub record Page : Type 0 where
  pub bytes : List ℕ
  pub room : ℕ

-- a message in a writer that grows to the longest message
abbrev pub page_of : List ℕ → Page
page_of message = record { bytes = message; room = LENGTH_LIMIT - length message }

-- the number of bytes of an addition
abbrev pub growth_of : Addition → ℕ
growth_of (attribute a) = attribute_length (length a.value)
growth_of (integrity algorithm key) = attribute_length (digest_length algorithm)

-- the number of bytes of additions
abbrev pub growth : List Addition → ℕ
growth list = sum_by growth_of list

-- whether a text has more bytes than its attribute may have (sections 14.3, 14.9 and 14.10)
abbrev pub is_text_too_long : TypedValue → Bool
is_text_too_long a =
    (a.kind == USERNAME && nat_lt USERNAME_LIMIT (length a.value))
    || ((a.kind == REALM || (a.kind == NONCE)) && nat_lt TEXT_LIMIT (length a.value))

-- the reason why an addition is refused. An attribute is created before it is added, so its length
-- is tested first
abbrev pub addition_refusal : Addition → Page → Option StunWriteError
addition_refusal (attribute a) page =
    if is_text_too_long a then Some TooLarge
    else attribute_refusal page.bytes page.room a.kind (length a.value)
addition_refusal (integrity algorithm key) page = signing_refusal page.bytes page.room algorithm

-- a message with an addition
abbrev pub with_addition : Addition → List ℕ → List ℕ
with_addition (attribute a) message = with_attribute message a
with_addition (integrity algorithm key) message = with_integrity message algorithm key

-- the page, or the refusal if there is one
abbrev pub page_unless_refused : Option StunWriteError → Page → Result Page StunWriteError
page_unless_refused None page = Ok page
page_unless_refused (Some reason) page = Err reason

-- the page after one addition, or the reason why the addition is refused
unfoldable pub added_one : Addition → Page → Result Page StunWriteError
added_one addition page =
    page_unless_refused (addition_refusal addition page)
    (record { bytes = with_addition addition page.bytes; room = page.room - growth_of addition })

-- the next step, unless the step before it fails
abbrev pub after : Result Page StunWriteError → (Page → Result Page StunWriteError)
    → Result Page StunWriteError
after (Err reason) next = Err reason
after (Ok page) next = next page

-- the page after additions, or the first refusal in their order
abbrev pub added_all : List Addition → Page → Result Page StunWriteError
added_all [] page = Ok page
added_all (addition ∷ others) page = after (added_one addition page) (added_all others)

-- the additions need an allocation, which can fail, although this many bytes are reserved: the
-- first ones of them are not refused, and together have more bytes than are reserved
pub record WantsMemory (list : List Addition) (page : Page) (reserved : ℕ) : Type 0 where
  pub first : List Addition
  pub others : List Addition
  pub in_order : list ≡ first ++ others
  pub not_refused : IsOk (added_all first page)
  pub not_reserved : reserved < growth first

-- the first fact holds, or the second if an allocation fails
abbrev pub UnlessMemory : {V : Type 0} → Result V StunWriteError → Type 0 → Type 0 → Type 0
UnlessMemory (Ok value) P Q = P
UnlessMemory (Err NotAllowed) P Q = P
UnlessMemory (Err MessageIntegrityExists) P Q = P
UnlessMemory (Err (AttributeExists kind)) P Q = P
UnlessMemory (Err TooLarge) P Q = P
UnlessMemory (Err TooSmall) P Q = P
UnlessMemory (Err IntegrityFailed) P Q = P
UnlessMemory (Err OutOfMemory) P Q = Q

-- the message in a writer, with the room after it
abbrev pub page_in : {W : Type 0} → (W → List ℕ) → (W → ℕ) → W → Page
page_in bytes room writer = record { bytes = bytes writer; room = room writer }

-- the result of a call that takes and returns a writer, as the page after a success
abbrev pub written_page : {W : Type 0} → (W → List ℕ) → (W → ℕ) → Result W StunWriteError
    → Result Page StunWriteError
written_page bytes room (Ok writer) = Ok (page_in bytes room writer)
written_page bytes room (Err reason) = Err reason

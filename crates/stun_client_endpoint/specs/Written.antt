-- The bytes of a request (RFC 8489, sections 6.1, 9.1.2, 9.2.5 and 14).
use Rattle.std.specs.Prelude.{ℕ, ◌-◌, List, [], ◌∷◌, Bool, true, false, length, nat_lt}
use Rattle.std.specs.Prelude.{if◌then◌else◌, Option, Some, None, Result, Ok, Err}
use Rattle.stun_base.specs.declared.wire.error.StunWriteError.{StunWriteError}
use Rattle.stun_base.specs.declared.wire.error.StunWriteError.TheVariants.{TooLarge}
use Rattle.stun_base.specs.declared.wire.message_type.MessageClass.TheVariants.{Request}
use Rattle.stun_types.specs.Attribute.{TypedValue}
use Rattle.stun_types.specs.Limits.{LENGTH_LIMIT, TEXT_LIMIT}
use Rattle.stun_types.specs.Writing.{another_refusal, attribute_refusal, empty_message}
use Rattle.stun_types.specs.Writing.{with_attribute}
use Rattle.stun_judging.specs.Additions.{Page, added_all, page_of}
use Rattle.stun_extra.specs.AttributeTypes.{SOFTWARE}
use Rattle.stun_extra.specs.Fingerprint.{fingerprint_refusal, with_fingerprint}
use Rattle.stun_client.specs.Challenges.{Answered}
use Rattle.stun_client.specs.Judging.{Identity}
use Rattle.stun_client.specs.Signing.{additions_of}
use Rattle.stun_client_endpoint.specs.Bodies.{Body, attribute_for}

-- what each request has besides its body and its signature: the text of SOFTWARE, and FINGERPRINT
pub record Form : Type 0 where
  pub software : Option (List ℕ)
  pub has_fingerprint : Bool

-- a message, or why it cannot be written
abbrev pub Page? : Type 0
Page? = Result (List ℕ) StunWriteError

-- the next step, unless the step before it fails
abbrev pub and_then : Page? → (List ℕ → Page?) → Page?
and_then (Err why) next = Err why
and_then (Ok page) next = next page

-- a page, unless it is refused
abbrev pub unless : Option StunWriteError → List ℕ → Page?
unless None page = Ok page
unless (Some why) page = Err why

-- the room after a message in a writer that grows to the longest message
abbrev pub room_left : List ℕ → ℕ
room_left page = LENGTH_LIMIT - length page

-- an attribute whose type may be in the message already
abbrev pub with_another : TypedValue → List ℕ → Page?
with_another a page =
    unless (another_refusal page (room_left page) a.kind (length a.value))
    (with_attribute page a)

-- the attributes of a body, in their order
abbrev pub with_body : ℕ → Body → List ℕ → Page?
with_body id [] page = Ok page
with_body id (piece ∷ others) page =
    and_then (with_another (attribute_for id piece) page) (with_body id others)

-- an attribute whose type is not in the message yet
abbrev pub with_one : TypedValue → List ℕ → Page?
with_one a page =
    unless (attribute_refusal page (room_left page) a.kind (length a.value))
    (with_attribute page a)

-- SOFTWARE with a text of at most 763 bytes (section 14.14)
abbrev pub with_software_text : List ℕ → List ℕ → Page?
with_software_text text page =
    if nat_lt TEXT_LIMIT (length text) then Err TooLarge
    else with_one (record { kind = SOFTWARE; value = text }) page

abbrev pub with_own_software : Option (List ℕ) → List ℕ → Page?
with_own_software None page = Ok page
with_own_software (Some text) page = with_software_text text page

-- what signs a request: nothing, what short-term credentials add, or what a challenge asks for
abbrev pub page_bytes : Result Page StunWriteError → Page?
page_bytes (Err why) = Err why
page_bytes (Ok page) = Ok page.bytes

abbrev pub with_credentials : Identity → Option Answered → List ℕ → Page?
with_credentials identity challenge page =
    page_bytes (added_all (additions_of identity challenge) (page_of page))

-- FINGERPRINT, which is the last attribute (section 14.7)
abbrev pub with_own_end : Bool → List ℕ → Page?
with_own_end true page =
    unless (fingerprint_refusal page (room_left page)) (with_fingerprint page)
with_own_end false page = Ok page

-- the signature for a challenge, and FINGERPRINT
abbrev pub closed_request : Form → Identity → Option Answered → List ℕ → Page?
closed_request form identity challenge page =
    and_then (with_credentials identity challenge page) (with_own_end form.has_fingerprint)

-- SOFTWARE, and then the signature and FINGERPRINT
abbrev pub completed_request : Form → Identity → Option Answered → List ℕ → Page?
completed_request form identity challenge page =
    and_then (with_own_software form.software page) (closed_request form identity challenge)

-- whether SOFTWARE has more than 763 bytes (section 14.14)
abbrev pub is_text_too_long : Option (List ℕ) → Bool
is_text_too_long None = false
is_text_too_long (Some text) = nat_lt TEXT_LIMIT (length text)

-- the header with its method and its ID, the body, SOFTWARE, the signature for a challenge, and
-- FINGERPRINT
abbrev pub whole_request : Form → Identity → Option Answered → ℕ → ℕ → Body → Page?
whole_request form identity challenge method id body =
    and_then (with_body id body (empty_message Request method id))
    (completed_request form identity challenge)

-- a request, or why it cannot be written: first that the text of SOFTWARE is too long, and then the
-- first part that cannot be added
unfoldable pub request_bytes : Form → Identity → Option Answered → ℕ → ℕ → Body → Page?
request_bytes form identity challenge method id body =
    if is_text_too_long form.software then Err TooLarge
    else whole_request form identity challenge method id body

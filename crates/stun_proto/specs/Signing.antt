-- The result of signing a message for an address: its attributes are written anew, and then those
-- of the server (RFC 8489, section 9.2.4).
use Rattle.std.specs.Prelude.{ℕ, ◌-◌, List, length, take, filter_map, slice_get, Bool}
use Rattle.std.specs.Prelude.{Option, Some, None, Result, Ok, Err, if◌then◌else◌}
use Rattle.std.specs.List.{range_with_len}
use Rattle.std.specs.Option.{option_and_then, option_map}
use Rattle.stun_base.specs.Header.{type_field, transaction_id_field}
use Rattle.stun_base.specs.declared.wire.error.StunWriteError.{StunWriteError}
use Rattle.stun_types.specs.Attribute.{TypedValue}
use Rattle.stun_types.specs.Grammar.{spelled_message}
use Rattle.stun_types.specs.Message.{LENGTH_LIMIT}
use Rattle.stun_types.specs.Visible.{visible}
use Rattle.stun_types.specs.Walk.{attributes_of}
use Rattle.stun_types.specs.Writing.{attribute_refusal}
use Rattle.stun_judging.specs.Additions.{Page, page_of}
use Rattle.stun_auth.specs.Places.{with_offer}
use Rattle.stun_base.specs.MessageType.{class_in, is_response}
use Rattle.stun_auth.specs.Seen.{PlaceSeen}
use Rattle.stun_auth.specs.Server.{Sight}
use Rattle.stun_auth.specs.ServerSigning.{server_signed}

abbrev pub message_unless : Option StunWriteError → List ℕ → Result (List ℕ) StunWriteError
message_unless None message = Ok message
message_unless (Some reason) message = Err reason

-- the next step, unless the one before it is refused
abbrev pub next_if_written : {X : Type 0} → Result (List ℕ) StunWriteError
    → (List ℕ → Result X StunWriteError) → Result X StunWriteError
next_if_written (Ok message) next = next message
next_if_written (Err reason) next = Err reason

-- the message with the type and ID of another and these attributes
abbrev pub spelled_anew : List ℕ → List TypedValue → List ℕ
spelled_anew message attributes =
    spelled_message (type_field message) (transaction_id_field message) attributes

-- why an attribute cannot be added to a message
abbrev pub refusal_after : List ℕ → TypedValue → Option StunWriteError
refusal_after message a =
    attribute_refusal message (LENGTH_LIMIT - length message) a.kind (length a.value)

-- why number k of these attributes cannot be added to the message of those before it
abbrev pub refusal_at : List ℕ → List TypedValue → ℕ → Option StunWriteError
refusal_at message attributes k =
    option_and_then (refusal_after (spelled_anew message (take k attributes)))
    (slice_get attributes k)

-- the first of these reasons, in the order of the attributes
abbrev pub first_refusal : List ℕ → List TypedValue → Option StunWriteError
first_refusal message attributes =
    slice_get (filter_map (refusal_at message attributes) (range_with_len 0 (length attributes))) 0

-- the visible attributes of a message after a new header with its type and ID, or the first refusal
-- of one
unfoldable pub written_anew : List ℕ → Result (List ℕ) StunWriteError
written_anew message =
    let attributes = attributes_of (visible message) in
    message_unless (first_refusal message attributes) (spelled_anew message attributes)

-- the message that is written anew and signed, or the first refusal
abbrev pub signing : Sight → List ℕ → Result Page StunWriteError
signing s message =
    next_if_written (written_anew message)
    (λ anew. server_signed s (is_response (class_in message)) (page_of anew))

-- what signing leaves, if nothing is refused
abbrev pub if_signed : {X : Type 0} → Result Page StunWriteError → X → X → X
if_signed (Ok signed) before after = after
if_signed (Err reason) before after = before

-- the record of an address after a signed message: what a response offered is kept
abbrev pub place_offered : Sight → Bool → Option PlaceSeen
place_offered s response =
    if response then option_map (with_offer s.registered.algorithms) s.place else s.place

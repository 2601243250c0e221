-- The attributes of a body are the first of its request, as they are.
use Rattle.std.proofs.Common.{◌≡◌, ◌<◌, ◌^◌, ◌+◌, ◌*◌, ◌/◌, ◌%◌, ℕ, Bool, true, false, List, [], ◌∷◌}
use Rattle.std.proofs.Common.{◌++◌, length, map, Option, Some, None, Ok, Err, refl, sym, ◌∙◌, ap}
use Rattle.std.proofs.Common.{append-nil, append_assoc, arith, cond, subst}
use Rattle.std.specs.Prelude.{nat_lt}
use Rattle.std.proofs.lemmas.List.{map-append}
use Rattle.std.specs.List.{AllByRecursion}
use Rattle.stun_base.specs.Attributes.{FINGERPRINT}
use Rattle.stun_base.specs.Credentials.{NameAndPassword}
use Rattle.stun_base.specs.MessageType.{type_number}
use Rattle.stun_base.specs.declared.wire.error.StunWriteError.TheVariants.{TooLarge}
use Rattle.stun_base.specs.declared.wire.error.StunWriteError.TheVariants.{MessageIntegrityExists}
use Rattle.stun_base.specs.declared.wire.error.StunWriteError.TheVariants.{NotAllowed}
use Rattle.stun_base.specs.declared.wire.message_type.MessageClass.TheVariants.{Request}
use Rattle.stun_types.specs.Attribute.{TypedValue}
use Rattle.stun_types.specs.Grammar.{spelled_message}
use Rattle.stun_types.specs.Limits.{TEXT_LIMIT}
use Rattle.stun_types.specs.Message.{IsMessage}
use Rattle.stun_types.specs.Visible.{has_kind, visible}
use Rattle.stun_types.specs.Walk.{Member, attributes_of, walk}
use Rattle.stun_types.specs.Writing.{IsOpen, another_refusal, attribute_refusal, empty_message}
use Rattle.stun_types.specs.Writing.{has_integrity, is_set_apart, size_refusal, with_attribute}
use Rattle.stun_judging.specs.Additions.{Addition, Page, added_all, page_of}
use Rattle.stun_judging.specs.Joined.{HasAdded, IsTyped, added_members}
use Rattle.stun_extra.specs.AttributeTypes.{SOFTWARE}
use Rattle.stun_extra.specs.Fingerprint.{fingerprint_attribute, fingerprint_refusal}
use Rattle.stun_extra.specs.Fingerprint.{with_fingerprint}
use Rattle.stun_extra.proofs.FingerprintLemmas.{HasOneMore-fingerprint, IsFree}
use Rattle.stun_client.specs.Challenges.{Answered}
use Rattle.stun_client.specs.Judging.{long_term}
use Rattle.stun_client.specs.Signing.{additions_of as additions_for}
use Rattle.stun_client.specs.declared.preferences.Preferences.{Preferences}
use Rattle.stun_client_endpoint.specs.Bodies.{Body, attribute_for}
use Rattle.stun_client_endpoint.specs.Written.{Form, closed_request, completed_request}
use Rattle.stun_client_endpoint.specs.Written.{is_text_too_long, request_bytes, room_left}
use Rattle.stun_client_endpoint.specs.Written.{whole_request, with_another, with_body}
use Rattle.stun_client_endpoint.specs.Written.{with_credentials, with_one, with_own_end}
use Rattle.stun_client_endpoint.specs.Written.{with_own_software}
use Rattle.stun_requests.specs.ReadBack.{AreOrdinary, BeginsWith}
use Rattle.stun_requests.proofs.ReadBackLemmas.{Fresh, ReadingLaws, another, begun, described}
use Rattle.stun_requests.proofs.ReadBackLemmas.{filled, fits, of_page, passed, piece_apart}
use Rattle.stun_requests.proofs.ReadBackLemmas.{piece_typed, same_page, then_is, there_already}
use Rattle.stun_requests.proofs.ReadBackLemmas.{typed, unless_is}

-- what is added behind leaves the front
many : (front : List TypedValue) (page bytes : List ℕ) (ms : List Member)
    → visible bytes ≡ visible page ++ ms → BeginsWith front page → BeginsWith front bytes
many front page bytes ms is begins = (
  begins.0 ++ attributes_of ms,
  ap attributes_of is ∙ map-append (λ (m : Member). m.1) (visible page) ms
      ∙ ap (λ l. l ++ attributes_of ms) begins.1
      ∙ append_assoc front begins.0 (attributes_of ms),
)

module _ (laws : ReadingLaws) (method : ℕ)
    (bare : (message_type id : ℕ) → message_type < 2 ^ 14
    → IsOpen (spelled_message message_type id []) × (walk (spelled_message message_type id []) ≡ [])) where
  another_shows : (page bytes : List ℕ) (a : TypedValue) → Fresh method page → a.kind < 2 ^ 16
      → with_another a page ≡ Ok bytes
      → attributes_of (visible bytes) ≡ attributes_of (visible page) ++ a ∷ []
  another_shows page bytes a fresh small is =
      let n = length a.value in
      let room = room_left page in
      let unrefused = unless_is (another_refusal page room a.kind n) (with_attribute page a) bytes is in
      let first = passed (is_set_apart a.kind) NotAllowed
      (cond (has_integrity page) (Some MessageIntegrityExists) (size_refusal page room n)) unrefused.0
      in
      let second = passed (has_integrity page) MessageIntegrityExists (size_refusal page room n) first.1
      in
      ap (λ p. attributes_of (visible p)) (sym unrefused.1)
      ∙ ap attributes_of (laws.adds page a fresh.unsigned.is_open
      (record { kind = small; value = fits page room n second.1 })).visible_is
      ∙ map-append (λ (m : Member). m.1) (visible page) ((length page, a) ∷ [])

  filled_shows : (id : ℕ) (body : Body) (page bytes : List ℕ) → AreOrdinary body
      → Fresh method page → with_body id body page ≡ Ok bytes
      → attributes_of (visible bytes)
      ≡ attributes_of (visible page) ++ map (attribute_for id) body
  filled_shows id [] page bytes ordinary fresh is =
      ap (λ p. attributes_of (visible p)) (sym (same_page page bytes is))
      ∙ sym (append-nil (attributes_of (visible page)))
  filled_shows id (piece ∷ others) page bytes ordinary fresh is =
      let a = attribute_for id piece in
      let first = then_is (with_another a page) (with_body id others) bytes is in
      let small = piece_typed laws method id piece ordinary.0 in
      filled_shows id others first.0 bytes ordinary.1
      (another laws method page first.0 a fresh small
      (piece_apart laws method id piece ordinary.0) first.1)
      first.2
      ∙ ap (λ l. l ++ map (attribute_for id) others)
      (another_shows page first.0 a fresh small first.1)
      ∙ append_assoc (attributes_of (visible page)) (a ∷ []) (map (attribute_for id) others)

  body_shows : (id : ℕ) (body : Body) (bytes : List ℕ) → method < 4096 → AreOrdinary body
      → with_body id body (empty_message Request method id) ≡ Ok bytes
      → BeginsWith (map (attribute_for id) body) bytes
  body_shows id body bytes low ordinary is =
      let start = empty_message Request method id in
      let begin = bare (type_number Request method) id (omega (arith, low)) in (
        [],
        filled_shows id body start bytes ordinary (begun laws method id low) is
            ∙ ap (λ l. l ++ map (attribute_for id) body)
            (ap attributes_of (laws.shown start begin.0 ∙ begin.1))
            ∙ sym (append-nil (map (attribute_for id) body)),
      )

  software_shows : (front : List TypedValue) (text page bytes : List ℕ) → Fresh method page
      → with_one (record { kind = SOFTWARE; value = text }) page ≡ Ok bytes
      → BeginsWith front page → BeginsWith front bytes
  software_shows front text page bytes fresh is begins =
      let a : TypedValue = record { kind = SOFTWARE; value = text } in
      let n = length text in
      let room = room_left page in
      let unrefused = unless_is (attribute_refusal page room SOFTWARE n) (with_attribute page a) bytes
      is in
      let second = passed (has_integrity page) MessageIntegrityExists
      (cond (has_kind SOFTWARE (walk page)) (Some (there_already SOFTWARE)) (size_refusal page room n))
      unrefused.0 in
      let third = passed (has_kind SOFTWARE (walk page)) (there_already SOFTWARE)
      (size_refusal page room n) second.1 in
      subst (BeginsWith front) unrefused.1
      (many front page (with_attribute page a) ((length page, a) ∷ [])
      (laws.adds page a fresh.unsigned.is_open
      (record { kind = omega arith; value = fits page room n third.1 })).visible_is begins)

  described_shows : (front : List TypedValue) (software : Option (List ℕ)) (page bytes : List ℕ)
      → Fresh method page → with_own_software software page ≡ Ok bytes
      → BeginsWith front page → BeginsWith front bytes
  described_shows front None page bytes fresh is begins =
      subst (BeginsWith front) (same_page page bytes is) begins
  described_shows front (Some text) page bytes fresh is begins =
      by (nat_lt TEXT_LIMIT (length text)) is
    where
      by : (b : Bool)
          → cond b (Err TooLarge) (with_one (record { kind = SOFTWARE; value = text }) page) ≡ Ok bytes
          → BeginsWith front bytes
      by true is = cc
      by false is = software_shows front text page bytes fresh is begins

  -- what signs it, with a message for what FINGERPRINT is added to
  abbrev IsEnded : List TypedValue → List ℕ → Type 0
  IsEnded front page = BeginsWith front page × IsMessage page

  signed_shows : (front : List TypedValue) (list : List Addition) (page : List ℕ) (q : Page)
      → Fresh method page → AllByRecursion IsTyped list → added_all list (page_of page) ≡ Ok q
      → BeginsWith front page → IsEnded front q.bytes
  signed_shows front list page q fresh fine done begins =
      let has = laws.has list page (page_of page).room q fresh.unsigned.is_open fine done in (
        many front page q.bytes (added_members page list) has.visible_is begins,
        has.is_message,
      )

  additions_typed : (who : NameAndPassword) (p : Preferences) (accepts : Bool)
      (challenge : Option Answered)
      → AllByRecursion IsTyped (additions_for (long_term who p accepts) challenge)
  additions_typed who p accepts None = tt
  additions_typed who p accepts (Some c) = typed c.challenge

  ended_shows : (front : List TypedValue) (has : Bool) (page bytes : List ℕ)
      → IsEnded front page → with_own_end has page ≡ Ok bytes → BeginsWith front bytes
  ended_shows front false page bytes ended is = subst (BeginsWith front) (same_page page bytes is) ended.0
  ended_shows front true page bytes ended is =
      let room = room_left page in
      let unrefused = unless_is (fingerprint_refusal page room) (with_fingerprint page) bytes is in
      let parts = passed (has_kind FINGERPRINT (walk page)) (there_already FINGERPRINT)
      (size_refusal page room 4) unrefused.0 in
      let free : IsFree page = record {
        is_message = ended.1;
        none = parts.0;
        short = fits page room 4 parts.1;
      } in
      subst (BeginsWith front) unrefused.1
      (many front page (with_fingerprint page) ((length page, fingerprint_attribute page) ∷ [])
      (HasOneMore-fingerprint page free).visible_is ended.0)

  whole_shows : (form : Form) (who : NameAndPassword) (p : Preferences) (accepts : Bool)
      (challenge : Option Answered) (id : ℕ) (body : Body) (bytes : List ℕ) → method < 4096
      → AreOrdinary body
      → whole_request form (long_term who p accepts) challenge method id body ≡ Ok bytes
      → BeginsWith (map (attribute_for id) body) bytes
  whole_shows form who p accepts challenge id body bytes low ordinary is =
      let identity = long_term who p accepts in
      let front = map (attribute_for id) body in
      let start = empty_message Request method id in
      let first = then_is (with_body id body start) (completed_request form identity challenge) bytes
      is in
      let fresh = filled laws method id body start first.0 ordinary (begun laws method id low)
      first.1 in
      let second = then_is (with_own_software form.software first.0)
      (closed_request form identity challenge) bytes first.2 in
      let named = described laws method form.software first.0 second.0 fresh second.1 in
      let third = then_is (with_credentials identity challenge second.0)
      (with_own_end form.has_fingerprint) bytes second.2 in
      let page = of_page laws method low
      (added_all (additions_for identity challenge) (page_of second.0)) third.0 third.1 in
      ended_shows front form.has_fingerprint third.0 bytes
      (subst (IsEnded front) page.2
      (signed_shows front (additions_for identity challenge) second.0 page.0 named
      (additions_typed who p accepts challenge) page.1
      (described_shows front form.software first.0 second.0 fresh second.1
      (body_shows id body first.0 low ordinary first.1)))) third.2

  pub body_read : (form : Form) (who : NameAndPassword) (p : Preferences) (accepts : Bool)
      (challenge : Option Answered) (id : ℕ) (body : Body) (bytes : List ℕ) → method < 4096
      → AreOrdinary body
      → request_bytes form (long_term who p accepts) challenge method id body ≡ Ok bytes
      → BeginsWith (map (attribute_for id) body) bytes
  unfolding request_bytes
  body_read form who p accepts challenge id body bytes low ordinary is =
      by (is_text_too_long form.software) is
    where
      by : (b : Bool)
          → cond b (Err TooLarge)
          (whole_request form (long_term who p accepts) challenge method id body) ≡ Ok bytes
          → BeginsWith (map (attribute_for id) body) bytes
      by true is = cc
      by false is = whole_shows form who p accepts challenge id body bytes low ordinary is

-- What the sides of a meeting sign are messages.
use Rattle.std.proofs.Common.{◌≡◌, ℕ, ◌+◌, ◌-◌, ◌<◌, ◌^◌, List, [], ◌∷◌, ◌++◌, length, Bool, true}
use Rattle.std.proofs.Common.{Option, Some, None, refl, sym, ◌∙◌, ap, subst, Ok, Err, IfOk, arith}
use Rattle.std.specs.Prelude.{cond, ◌||◌, nat_lt, IsErrAnd, IsOk, IsSome}
use Rattle.std.specs.List.{AllByRecursion}
use Rattle.std.specs.declared.result.Result.{Result}
use Rattle.stun_base.specs.declared.wire.error.StunWriteError.{StunWriteError}
use Rattle.stun_base.specs.declared.wire.error.StunWriteError.TheVariants.{NotAllowed}
use Rattle.stun_base.specs.declared.wire.error.StunWriteError.TheVariants.{MessageIntegrityExists}
use Rattle.stun_base.specs.declared.wire.error.StunWriteError.TheVariants.{AttributeExists}
use Rattle.stun_base.specs.declared.wire.error.StunWriteError.TheVariants.{TooLarge, TooSmall}
use Rattle.stun_base.specs.declared.wire.error.StunWriteError.TheVariants.{IntegrityFailed}
use Rattle.stun_base.specs.declared.wire.error.StunWriteError.TheVariants.{OutOfMemory}
use Rattle.byteorder.specs.Endian.{big_bytes}
use Rattle.byteorder.specs.Numbers.{big_number-reads_back}
use Rattle.stun_base.specs.Attributes.{ERROR_CODE, MESSAGE_INTEGRITY, MESSAGE_INTEGRITY_SHA256}
use Rattle.stun_base.specs.Header.{MAGIC_COOKIE, transaction_id_field, type_field}
use Rattle.stun_base.specs.MessageType.{class_of, method_of, type_number}
use Rattle.stun_base.specs.MessageType.{class_in, is_request, is_response}
use Rattle.stun_base.specs.declared.wire.message_type.MessageClass.TheVariants as Class
use Rattle.stun_types.specs.Attribute.{TypedValue, attribute_length}
use Rattle.stun_types.specs.Grammar.{spelled_message, spelled_attributes}
use Rattle.stun_types.specs.Visible.{has_kind}
use Rattle.stun_types.specs.Walk.{Member, walk}
use Rattle.stun_types.specs.WriteVec.{Written}
use Rattle.stun_types.specs.Writing.{IsOpen, attribute_refusal, size_refusal}
use Rattle.stun_judging.specs.AddedAttribute as attributes
use Rattle.stun_judging.specs.Additions.{Addition, Page, UnlessMemory, added_all, attribute}
use Rattle.stun_judging.specs.Additions.{integrity, written_page, page_of}
use Rattle.stun_auth.specs.Client.{ClientState}
use Rattle.stun_auth.specs.ClientSigning.{client_additions}
use Rattle.stun_judging.specs.Joined.{HasAdded, IsTyped, Protection}
use Rattle.stun_auth.specs.Server.{Sight}
use Rattle.stun_auth.specs.ServerSigning.{server_signed}
use Rattle.stun_judging.specs.Signed.{Added, additions_of, error_attribute, if_there}
use Rattle.stun_auth.specs.Signed.{added_by_client, added_by_server}
use Rattle.stun_proto.specs.Negotiation.{client_request, error, failure, request, success}
use Rattle.stun_proto.specs.code.Signed.{signed_page}

-- ---- the types of additions

there : {A : Type 0} (addition : A → Addition) (o : Option A) (others : List Addition)
    → ((v : A) → IsTyped (addition v)) → AllByRecursion IsTyped others
    → AllByRecursion IsTyped (if_there addition o others)
there addition None others typed rest = rest
there addition (Some v) others typed rest = (typed v, rest)

pub additions_typed : (a : Added) → AllByRecursion IsTyped (additions_of a)
additions_typed a =
    let seventh =
    there (λ (p : Protection). integrity p.algorithm p.key) a.integrity [] (λ p. tt) tt in
    let sixth =
    there (λ algorithm. attribute (attributes.password_algorithm algorithm)) a.algorithm _
    (λ _. omega arith) seventh in
    let fifth =
    there (λ list. attribute (attributes.password_algorithms list)) a.algorithms _
    (λ _. omega arith) sixth in
    let fourth =
    there (λ hash. attribute (attributes.userhash hash)) a.userhash _ (λ _. omega arith) fifth in
    let third =
    there (λ text. attribute (attributes.username text)) a.username _ (λ _. omega arith) fourth in
    let second =
    there (λ text. attribute (attributes.realm text)) a.realm _ (λ _. omega arith) third in
    there (λ text. attribute (attributes.nonce text)) a.nonce _ (λ _. omega arith) second

-- ---- an answer, unless memory is wanting

pub unless_map : (signed : Result Written StunWriteError) (Q : Type 0) {P P' : Type 0} → (P → P')
    → UnlessMemory signed P Q → UnlessMemory signed P' (Unit {0})
unless_map (Ok writer) Q f h = f h
unless_map (Err NotAllowed) Q f h = f h
unless_map (Err MessageIntegrityExists) Q f h = f h
unless_map (Err (AttributeExists kind)) Q f h = f h
unless_map (Err TooLarge) Q f h = f h
unless_map (Err TooSmall) Q f h = f h
unless_map (Err IntegrityFailed) Q f h = f h
unless_map (Err OutOfMemory) Q f h = tt

-- the page in a writer that grows
pub same_page : (signed : Result Written StunWriteError)
    → written_page (λ (w : Written). w.bytes) (λ (w : Written). 65552 - length w.bytes) signed
    ≡ signed_page signed
same_page (Ok writer) = refl
same_page (Err reason) = refl

pub if_ok_map : {V E : Type 0} {P Q : V → Type 0} (r : Result V E) → ((v : V) → P v → Q v)
    → IfOk r P → IfOk r Q
if_ok_map (Ok v) f h = f v h
if_ok_map (Err e) f h = tt

-- ---- the fields of a message without attributes
type_field-spelled_message : (message_type id : ℕ) (list : List TypedValue) → message_type < 2 ^ 14
    → type_field (spelled_message message_type id list) ≡ message_type
type_field-spelled_message message_type id list fits =
    big_number-reads_back 2 message_type
    (big_bytes 2 (length (spelled_attributes list)) ++ big_bytes 4 MAGIC_COOKIE ++ big_bytes 12 id
    ++ spelled_attributes list) (omega (arith, fits))

transaction_id_field-spelled_message : (message_type id : ℕ) → id < 2 ^ 96
    → transaction_id_field (spelled_message message_type id []) ≡ id
transaction_id_field-spelled_message message_type id fits = big_number-reads_back 12 id [] fits

-- responses are responses
pub success_responds : (id : ℕ) (bytes : List ℕ) → bytes ≡ success id
    → is_response (class_in bytes) ≡ true
unfolding success
success_responds id bytes is =
    ap (λ b. is_response (class_in b)) is
    ∙ ap (λ n. is_response (class_of n)) (type_field-spelled_message 257 id [] (omega arith))

pub failure_responds : (code id : ℕ) (bytes : List ℕ) → bytes ≡ failure code id
    → is_response (class_in bytes) ≡ true
unfolding failure
failure_responds code id bytes is =
    ap (λ b. is_response (class_in b)) is
    ∙ ap (λ n. is_response (class_of n))
    (type_field-spelled_message 273 id (error_attribute (error code) ∷ []) (omega arith))

-- what an error is handed on as
pub by_reason : (r : Result Written StunWriteError) (Q : StunWriteError → Type 0)
    (P : Result Written StunWriteError → Type 0) → IsErrAnd r Q
    → ((e : StunWriteError) → Q e → P (Err e)) → P r
by_reason (Ok writer) Q P h f = absurd h
by_reason (Err e) Q P h f = f e h

-- nothing but memory was wanting
pub only_memory : (e : StunWriteError) (P : Type 0) → e ≡ OutOfMemory
    → UnlessMemory {V = Written} (Err e) P (Unit {0})
only_memory e P is = subst (λ x. UnlessMemory {V = Written} (Err x) P (Unit {0})) (sym is) tt

-- ---- the laws on additions
pub record AddingLaws : Type 0 where
  pub added : (list : List Addition) (message : List ℕ) (room : ℕ) (page : Page) → IsOpen message
      → AllByRecursion IsTyped list
      → added_all list (record { bytes = message; room = room }) ≡ Ok page
      → HasAdded message list page.bytes
  pub server : (s : Sight) (response : Bool) (page : Page) (a : Added) → added_by_server s response
      ≡ Some a → server_signed s response page ≡ added_all (additions_of a) page
  pub client : (is_request : Bool) (state : ClientState)
      → client_additions is_request state ≡ additions_of (added_by_client is_request state)
  pub there : (s : Sight) (response : Bool) (page : Page) → IsOk (server_signed s response page)
      → IsSome (added_by_server s response)

module _ (laws : AddingLaws) where
  -- what was signed has the additions
  pub has_added : (signed : Result Written StunWriteError) (Q : Type 0) (message : List ℕ)
      (a : Added) → IsOpen message
      → UnlessMemory signed (signed_page signed ≡ added_all (additions_of a) (page_of message)) Q
      → IfOk signed (λ w. HasAdded message (additions_of a) w.bytes)
  has_added (Ok writer) Q message a is_open is =
      laws.added (additions_of a) message _ _ is_open (additions_typed a) (sym is)
  has_added (Err reason) Q message a is_open is = tt

  -- so what a server has signed has some
  server_added : (s : Sight) (message : List ℕ) (page : Page) → IsOpen message
      → Ok page ≡ server_signed s true (page_of message)
      → (list : List Addition) × HasAdded message list page.bytes
  server_added s message page is_open is =
      by_added (added_by_server s true) refl (laws.there s true (page_of message) (signed_ok _ is))
    where
      signed_ok : (o : Result Page StunWriteError) → Ok page ≡ o → IsOk o
      signed_ok (Ok p) h = refl
      signed_ok (Err reason) h = cc

      by_added : (o : Option Added) → added_by_server s true ≡ o → IsSome o
          → (list : List Addition) × HasAdded message list page.bytes
      by_added (Some a) at some = (
        additions_of a,
        laws.added (additions_of a) message _ page is_open (additions_typed a)
            (sym (is ∙ laws.server s true (page_of message) a at)),
      )
      by_added None at some = cc

  pub server_has_added : (signed : Result Written StunWriteError) (Q : Type 0) (s : Sight)
      (message : List ℕ) → IsOpen message
      → UnlessMemory signed (signed_page signed ≡ server_signed s true (page_of message)) Q
      → IfOk signed (λ w. (list : List Addition) × HasAdded message list w.bytes)
  server_has_added (Ok writer) Q s message is_open is = server_added s message _ is_open is
  server_has_added (Err reason) Q s message is_open is = tt

  -- ---- a request of a client

  -- what was signed
  pub request_signed : (id : ℕ) (state : ClientState) (bytes : List ℕ)
      (signed : Result Written StunWriteError) (Q : Type 0)
      → bytes ≡ spelled_message (type_number Class.Request 1) id []
      → UnlessMemory signed
      (written_page (λ (w : Written). w.bytes) (λ (w : Written). 65552 - length w.bytes) signed
      ≡ added_all (client_additions (is_request (class_of (type_field bytes))) state)
      (page_of bytes)) Q
      → UnlessMemory signed (signed_page signed ≡ client_request id state) (Unit {0})
  unfolding client_request request
  request_signed id state bytes signed Q is h = unless_map signed Q (λ e.
      sym (same_page signed) ∙ e
      ∙ ap (λ b.
      added_all (client_additions (is_request (class_of (type_field b))) state) (page_of b)) is
      ∙ ap (λ n. added_all (client_additions (is_request (class_of n)) state)
      (page_of (spelled_message 1 id []))) (type_field-spelled_message 1 id [] (omega arith))) h

  -- it is a message with the method and the id of the request
  pub request_added : (id : ℕ) (state : ClientState) (bytes : List ℕ)
      (signed : Result Written StunWriteError)
      → bytes ≡ spelled_message (type_number Class.Request 1) id []
      → IsOpen bytes
      → UnlessMemory signed (signed_page signed ≡ client_request id state) (Unit {0})
      → IfOk signed
      (λ w. HasAdded (spelled_message 1 id []) (additions_of (added_by_client true state)) w.bytes)
  unfolding client_request request
  request_added id state bytes signed is is_open h =
      has_added signed (Unit {0}) (spelled_message 1 id []) (added_by_client true state)
      (subst IsOpen is is_open)
      (unless_map signed (Unit {0})
      (λ e. e ∙ ap (λ l. added_all l (page_of (spelled_message 1 id []))) (laws.client true state))
      h)

  -- ---- a response of a server
  pub response_signed : (s : Sight) (bytes : List ℕ) (response : Bool)
      (signed : Result Written StunWriteError) (Q : Type 0) → response ≡ true
      → UnlessMemory signed
      (written_page (λ (w : Written). w.bytes) (λ (w : Written). 65552 - length w.bytes) signed
      ≡ server_signed s response (page_of bytes)) Q
      → UnlessMemory signed (signed_page signed ≡ server_signed s true (page_of bytes)) (Unit {0})
  response_signed s bytes response signed Q is h =
      unless_map signed Q
      (λ e. sym (same_page signed) ∙ e ∙ ap (λ b. server_signed s b (page_of bytes)) is) h

-- what a message in a writer is
pub has_id : (id : ℕ) (list : List Addition) (after : List ℕ) → id < 2 ^ 96
    → HasAdded (spelled_message 1 id []) list after → transaction_id_field after ≡ id
has_id id list after fits has =
    has.transaction_id_is ∙ transaction_id_field-spelled_message 1 id fits

pub has_method : (id : ℕ) (list : List Addition) (after : List ℕ)
    → HasAdded (spelled_message 1 id []) list after → method_of (type_field after) ≡ 1
has_method id list after has =
    ap method_of (has.type_is ∙ type_field-spelled_message 1 id [] (omega arith))

-- an error code can be added to a message without attributes
abbrev refusal_by_size : ℕ → ℕ → Option StunWriteError
refusal_by_size l n =
    cond (nat_lt 65532 (l - 20 + attribute_length n)) (Some TooLarge)
    (cond (nat_lt (65552 - l) (attribute_length n)) (Some TooSmall) None)

pub not_refused : (bytes : List ℕ) (n : ℕ) → n ≡ 16 → walk bytes ≡ [] → length bytes ≡ 20
    → attribute_refusal bytes (65552 - length bytes) ERROR_CODE n ≡ None
not_refused bytes n short none long =
    ap (λ (w : List Member).
    cond (has_kind MESSAGE_INTEGRITY w || has_kind MESSAGE_INTEGRITY_SHA256 w)
    (Some MessageIntegrityExists)
    (cond (has_kind ERROR_CODE w) (Some (AttributeExists (record { 0 = ERROR_CODE })))
    (size_refusal bytes (65552 - length bytes) n))) none
    ∙ ap (λ l. refusal_by_size l n) long ∙ ap (refusal_by_size 20) short

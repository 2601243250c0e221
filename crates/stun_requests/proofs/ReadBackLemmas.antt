-- What is read of a request is what it was made of.
use Rattle.std.proofs.Common.{◌≡◌, ◌≤◌, ◌<◌, ◌^◌, ◌+◌, ◌-◌, ◌*◌, ◌/◌, ◌%◌, ℕ, Bool, true, false}
use Rattle.std.proofs.Common.{List, [], ◌∷◌, ◌++◌, length, Option, Some, None, Ok, Err, refl, sym}
use Rattle.std.proofs.Common.{◌∙◌}
use Rattle.std.proofs.Common.{ap, arith, cond, subst}
use Rattle.std.specs.Prelude.{find, map, nat_lt, ◌==◌, Result, reverse}
use Rattle.std.specs.List.{AllByRecursion, list_any}
use Rattle.std.specs.Option.{is_some, option_and_then, option_map, option_or}
use Rattle.std.proofs.lemmas.Bool.{eq-eqb, ne_eqb}
use Rattle.std.proofs.lemmas.List.{reverse-append}
use Rattle.std.proofs.lemmas.List.Folds.{find-append}
use Rattle.byteorder.specs.Endian.{big_bytes}
use Rattle.byteorder.specs.Numbers.{big_number-reads_back}
use Rattle.stun_base.specs.Attributes.{ERROR_CODE, FINGERPRINT, NONCE, PASSWORD_ALGORITHM}
use Rattle.stun_base.specs.Attributes.{PASSWORD_ALGORITHMS, REALM, USERHASH, USERNAME}
use Rattle.stun_base.specs.Credentials.{NameAndPassword}
use Rattle.stun_base.specs.Header.{MAGIC_COOKIE, type_field}
use Rattle.stun_base.specs.MessageType.{class_in, class_of, class_of_bits, is_error, method_of}
use Rattle.stun_base.specs.MessageType.{type_number}
use Rattle.stun_base.specs.declared.keys.algorithm.IntegrityAlgorithm.{IntegrityAlgorithm}
use Rattle.stun_base.specs.declared.keys.algorithm.IntegrityAlgorithm.TheVariants.{Sha1, Sha256}
use Rattle.stun_base.specs.declared.wire.error.StunWriteError.{StunWriteError}
use Rattle.stun_base.specs.declared.wire.error.StunWriteError.TheVariants.{TooLarge, TooSmall}
use Rattle.stun_base.specs.declared.wire.error.StunWriteError.TheVariants.{MessageIntegrityExists}
use Rattle.stun_base.specs.declared.wire.error.StunWriteError.TheVariants.{AttributeExists}
use Rattle.stun_base.specs.declared.wire.error.StunWriteError.TheVariants.{NotAllowed}
use Rattle.stun_base.specs.declared.wire.message_type.MessageClass.{MessageClass}
use Rattle.stun_base.specs.declared.wire.message_type.MessageClass.TheVariants.{Request}
use Rattle.stun_types.specs.Attribute.{TypedValue, attribute_length}
use Rattle.stun_types.specs.ErrorCode.{CodeAndReason, error_of}
use Rattle.stun_types.specs.PasswordAlgorithms.{integrity_of, password_algorithm_in}
use Rattle.stun_types.specs.PasswordAlgorithms.{password_algorithms_in}
use Rattle.stun_types.specs.Text.{text_of}
use Rattle.stun_types.specs.Userhash.{hash_of}
use Rattle.stun_types.specs.Grammar.{spelled_attributes, spelled_message}
use Rattle.stun_types.specs.Integrity.{first_of, is_integrity, verified_algorithm}
use Rattle.stun_types.specs.Limits.{TEXT_LIMIT, USERNAME_LIMIT, max_length}
use Rattle.stun_types.specs.Message.{IsMessage}
use Rattle.stun_types.specs.Visible.{has_kind, visible}
use Rattle.stun_types.specs.Walk.{Member, walk}
use Rattle.stun_types.specs.Writing.{HasOneMore, IsAddable, IsOpen, another_refusal}
use Rattle.stun_types.specs.Writing.{attribute_refusal}
use Rattle.stun_types.specs.Writing.{empty_message, has_integrity, is_set_apart, length_with}
use Rattle.stun_types.specs.Writing.{integrity_attribute, integrity_kind, size_refusal}
use Rattle.stun_types.specs.Writing.{with_attribute, with_integrity}
use Rattle.stun_types.proofs.MessageLemmas.{refusal-none}
use Rattle.stun_judging.specs.Additions.{Addition, Page, added_all, attribute, integrity, page_of}
use Rattle.stun_judging.specs.Joined.{HasAdded, IsTyped, added_members}
use Rattle.stun_judging.specs.Reading.{error_code, has_visible_integrity, last, last_of, reading_of}
use Rattle.stun_judging.specs.Signed.{Added, IsBuilt, IsText, IsUnsigned, ReadsAs, additions_of}
use Rattle.stun_judging.proofs.JoinedLemmas.{WritingLaws, not_above}
use Rattle.stun_extra.specs.AttributeTypes.{SOFTWARE}
use Rattle.stun_extra.specs.Fingerprint.{fingerprint_attribute, fingerprint_if, fingerprint_refusal}
use Rattle.stun_extra.specs.Fingerprint.{with_fingerprint}
use Rattle.stun_judging.specs.Naming.{Naming, hashed, plain, name_attribute}
use Rattle.stun_extra.proofs.FingerprintLemmas.{HasOneMore-fingerprint, IsFree}
use Rattle.stun_extra.proofs.FingerprintLemmas.{fingerprint_in-added, verified_by-fingerprint}
use Rattle.stun_client.specs.Challenges.{Answered}
use Rattle.stun_client.specs.Challenge.{Challenge, added_under, algorithm_choice}
use Rattle.stun_client.specs.Challenge.{challenge_additions}
use Rattle.stun_client.specs.Challenge.{identity as identity_of, protection}
use Rattle.stun_client.specs.Judging.{long_term}
use Rattle.stun_client.specs.Signing.{additions_of as additions_for}
use Rattle.stun_client.specs.declared.preferences.Preferences.{Preferences}
use Rattle.stun_client_endpoint.specs.Bodies.{Body, Piece, RESERVED, attribute_for, is_reserved}
use Rattle.stun_client_endpoint.specs.Bodies.{of_peer, with_value}
use Rattle.stun_requests.specs.ReadBack.{AreOrdinary, IsOrdinary, IsReadAsMade, added_to}
use Rattle.stun_requests.specs.ReadBack.{print_of}
use Rattle.stun_client.proofs.SigningLemmas.{reads_as}
use Rattle.stun_exchanges.proofs.SealedLemmas.{both_false, still_none}
use Rattle.stun_client_endpoint.specs.Written.{Form, Page?, and_then, closed_request}
use Rattle.stun_client_endpoint.specs.Written.{completed_request, is_text_too_long, page_bytes}
use Rattle.stun_client_endpoint.specs.Written.{request_bytes, room_left, unless, whole_request}
use Rattle.stun_client_endpoint.specs.Written.{with_another, with_body, with_credentials}
use Rattle.stun_client_endpoint.specs.Written.{with_one, with_own_end, with_own_software}

-- what the laws of the crates below say
pub record ReadingLaws : Type 0 where
  pub adds : (message : List ℕ) (attribute : TypedValue) → IsOpen message
      → IsAddable message attribute
      → HasOneMore message (with_attribute message attribute) attribute
  pub opens : (message : List ℕ) (attribute : TypedValue) → IsOpen message
      → IsAddable message attribute → is_set_apart attribute.kind ≡ false
      → IsOpen (with_attribute message attribute)
  pub shown : (message : List ℕ) → IsOpen message → visible message ≡ walk message
  pub built : (message_type transaction_id : ℕ) → message_type < 2 ^ 14
      → IsBuilt (spelled_message message_type transaction_id []) (class_of message_type) None
  pub reads : (a : Added) (message : List ℕ) (room : ℕ) (page : Page) → IsUnsigned message
      → IsText a → added_all (additions_of a) (record { bytes = message; room = room }) ≡ Ok page
      → ReadsAs (class_in message) (error_code message) a (reading_of page.bytes)
  pub has : (list : List Addition) (message : List ℕ) (room : ℕ) (page : Page) → IsOpen message
      → AllByRecursion IsTyped list
      → added_all list (record { bytes = message; room = room }) ≡ Ok page
      → HasAdded message list page.bytes
  pub writes : WritingLaws

-- ---- tests and numbers

true_false : true ≡ false → ⊥
true_false is = cc

pub flip : (a b : ℕ) → (a == b) ≡ false → (b == a) ≡ false
flip a b apart = ne_eqb b a (λ same. true_false (sym (eq-eqb a b (sym same)) ∙ apart))

pub none_of : (kinds : List ℕ) (k : ℕ) → list_any (λ other. other == k) kinds ≡ false
    → AllByRecursion (λ other. (other == k) ≡ false) kinds
none_of [] k h = tt
none_of (x ∷ xs) k h =
    let parts = both_false (x == k) (list_any (λ other. other == k) xs) h in
    (parts.0, none_of xs k parts.1)

-- ---- refusals

abbrev pub there_already : ℕ → StunWriteError
there_already kind = AttributeExists (record { 0 = kind })

pub passed : (b : Bool) (why : StunWriteError) (o : Option StunWriteError)
    → cond b (Some why) o ≡ None → (b ≡ false) × (o ≡ None)
passed true why o is = cc
passed false why o is = (refl, is)

pub fits : (message : List ℕ) (room n : ℕ) → size_refusal message room n ≡ None
    → length_with message n ≤ max_length
fits message room n none =
    not_above max_length (length_with message n)
    (passed (nat_lt max_length (length_with message n)) TooLarge
    (cond (nat_lt room (attribute_length n)) (Some TooSmall) None) none).0

pub then_is : (first : Page?) (next : List ℕ → Page?) (bytes : List ℕ) → and_then first next ≡ Ok bytes
    → (page : List ℕ) × (first ≡ Ok page) × (next page ≡ Ok bytes)
then_is (Err why) next bytes is = cc
then_is (Ok page) next bytes is = (page, refl, is)

pub unless_is : (o : Option StunWriteError) (page bytes : List ℕ) → unless o page ≡ Ok bytes
    → (o ≡ None) × (page ≡ bytes)
unless_is None page bytes is = (refl, cc)
unless_is (Some why) page bytes is = cc

pub same_page : (page bytes : List ℕ) → unless None page ≡ Ok bytes → page ≡ bytes
same_page page bytes is = cc

-- ---- a page that is not signed yet

pub record Fresh (method : ℕ) (page : List ℕ) : Type 0 where
  pub unsigned : IsUnsigned page
  pub type_is : type_field page ≡ type_number Request method

-- a type that signing does not add
pub record Apart (kind : ℕ) : Type 0 where
  nonce : (kind == NONCE) ≡ false
  realm : (kind == REALM) ≡ false
  username : (kind == USERNAME) ≡ false
  userhash : (kind == USERHASH) ≡ false
  algorithms : (kind == PASSWORD_ALGORITHMS) ≡ false
  algorithm : (kind == PASSWORD_ALGORITHM) ≡ false

pub apart_of : (kind : ℕ) → is_reserved kind ≡ false → Apart kind
apart_of kind free =
    let all = none_of RESERVED kind free in
    record {
      nonce = flip NONCE kind all.1.1.1.1.0;
      realm = flip REALM kind all.1.1.1.0;
      username = flip USERNAME kind all.0;
      userhash = flip USERHASH kind all.1.1.1.1.1.1.1.1.0;
      algorithms = flip PASSWORD_ALGORITHMS kind all.1.1.1.1.1.1.1.1.1.1.0;
      algorithm = flip PASSWORD_ALGORITHM kind all.1.1.1.1.1.1.1.0;
    }

module _ (laws : ReadingLaws) (method : ℕ) where
  one_more : (page : List ℕ) (a : TypedValue) → Fresh method page → IsAddable page a
      → is_set_apart a.kind ≡ false → Apart a.kind → Fresh method (with_attribute page a)
  one_more page a fresh addable unset apart =
      let open_page = fresh.unsigned.is_open in
      let one = laws.adds page a open_page addable in
      let none = fresh.unsigned.none in
      let still : (kind : ℕ) → has_kind kind (walk page) ≡ false → (a.kind == kind) ≡ false
      → has_kind kind (walk (with_attribute page a)) ≡ false =
      λ kind there other. ap (has_kind kind) one.walk_is
      ∙ still_none kind (walk page) (length page, a) there other in
      record {
        unsigned = record {
          is_open = laws.opens page a open_page addable unset;
          none = (
            still NONCE none.0 apart.nonce,
            (
              still REALM none.1.0 apart.realm,
              (
                still USERNAME none.1.1.0 apart.username,
                (
                  still USERHASH none.1.1.1.0 apart.userhash,
                  (
                    still PASSWORD_ALGORITHMS none.1.1.1.1.0 apart.algorithms,
                    (still PASSWORD_ALGORITHM none.1.1.1.1.1.0 apart.algorithm, tt),
                  ),
                ),
              ),
            ),
          );
        };
        type_is = one.type_is ∙ fresh.type_is;
      }

  pub another : (page bytes : List ℕ) (a : TypedValue) → Fresh method page → a.kind < 2 ^ 16
      → Apart a.kind → with_another a page ≡ Ok bytes → Fresh method bytes
  another page bytes a fresh typed apart is =
      let n = length a.value in
      let room = room_left page in
      let unrefused = unless_is (another_refusal page room a.kind n) (with_attribute page a) bytes is in
      let first = passed (is_set_apart a.kind) NotAllowed
      (cond (has_integrity page) (Some MessageIntegrityExists) (size_refusal page room n)) unrefused.0
      in
      let second = passed (has_integrity page) MessageIntegrityExists (size_refusal page room n) first.1
      in
      subst (Fresh method) unrefused.1
      (one_more page a fresh (record { kind = typed; value = fits page room n second.1 }) first.0 apart)

  pub piece_apart : (id : ℕ) (piece : Piece) → IsOrdinary piece → Apart (attribute_for id piece).kind
  piece_apart id (with_value a) ordinary = apart_of a.kind ordinary.0
  piece_apart id (of_peer address) ordinary = record {
    nonce = refl;
    realm = refl;
    username = refl;
    userhash = refl;
    algorithms = refl;
    algorithm = refl;
  }

  pub piece_typed : (id : ℕ) (piece : Piece) → IsOrdinary piece → (attribute_for id piece).kind < 2 ^ 16
  piece_typed id (with_value a) ordinary = ordinary.1
  piece_typed id (of_peer address) ordinary = omega arith

  pub filled : (id : ℕ) (body : Body) (page bytes : List ℕ) → AreOrdinary body → Fresh method page
      → with_body id body page ≡ Ok bytes → Fresh method bytes
  filled id [] page bytes ordinary fresh is = subst (Fresh method) (same_page page bytes is) fresh
  filled id (piece ∷ others) page bytes ordinary fresh is =
      let first = then_is (with_another (attribute_for id piece) page) (with_body id others) bytes is in
      filled id others first.0 bytes ordinary.1
      (another page first.0 (attribute_for id piece) fresh (piece_typed id piece ordinary.0)
      (piece_apart id piece ordinary.0) first.1)
      first.2

  pub software_one : (text page bytes : List ℕ) → Fresh method page
      → with_one (record { kind = SOFTWARE; value = text }) page ≡ Ok bytes → Fresh method bytes
  software_one text page bytes fresh is =
      let a : TypedValue = record { kind = SOFTWARE; value = text } in
      let n = length text in
      let room = room_left page in
      let unrefused = unless_is (attribute_refusal page room SOFTWARE n) (with_attribute page a) bytes is
      in
      let second = passed (has_integrity page) MessageIntegrityExists
      (cond (has_kind SOFTWARE (walk page)) (Some (there_already SOFTWARE)) (size_refusal page room n))
      unrefused.0 in
      let third = passed (has_kind SOFTWARE (walk page)) (there_already SOFTWARE)
      (size_refusal page room n) second.1 in
      subst (Fresh method) unrefused.1
      (one_more page a fresh (record { kind = omega arith; value = fits page room n third.1 }) refl
      (record {
        nonce = refl;
        realm = refl;
        username = refl;
        userhash = refl;
        algorithms = refl;
        algorithm = refl;
      }))

  pub described : (software : Option (List ℕ)) (page bytes : List ℕ) → Fresh method page
      → with_own_software software page ≡ Ok bytes → Fresh method bytes
  described None page bytes fresh is = subst (Fresh method) (same_page page bytes is) fresh
  described (Some text) page bytes fresh is = by (nat_lt TEXT_LIMIT (length text)) is
    where
      by : (b : Bool)
          → cond b (Err TooLarge) (with_one (record { kind = SOFTWARE; value = text }) page) ≡ Ok bytes
          → Fresh method bytes
      by true is = cc
      by false is = software_one text page bytes fresh is

  -- ---- the header

  pub begun : (id : ℕ) → method < 4096 → Fresh method (empty_message Request method id)
  begun id low = record {
    unsigned = (laws.built (type_number Request method) id (omega (arith, low))).unsigned;
    type_is =
        big_number-reads_back 2 (type_number Request method)
        (big_bytes 2 (length (spelled_attributes [])) ++ big_bytes 4 MAGIC_COOKIE ++ big_bytes 12 id
        ++ spelled_attributes []) (omega (arith, low));
  }

  class_is : method < 4096 → class_of (type_number Request method) ≡ Request
  class_is low =
      let number = type_number Request method in
      let bits : number / 256 % 2 * 2 + number / 16 % 2 ≡ 0 = omega (arith, low) in
      ap class_of_bits bits

  method_again : method < 4096 → method_of (type_number Request method) ≡ method
  method_again low = omega (arith, low)

-- ---- the end

-- the last attribute is of another type
last_other : (kind : ℕ) (members : List Member) (m : Member) → (m.1.kind == kind) ≡ false
    → last_of kind (members ++ m ∷ []) ≡ last_of kind members
last_other kind members m other =
    ap (first_of kind) (reverse-append members (m ∷ []))
    ∙ find-append (λ (x : Member). x.1.kind == kind) (m ∷ []) (reverse members)
    ∙ ap (λ b. option_or (cond b (Some m) None) (last_of kind members)) other

-- none of the additions is a FINGERPRINT
abbrev IsNoPrint : Addition → Type 0
IsNoPrint (attribute a) = (a.kind == FINGERPRINT) ≡ false
IsNoPrint (integrity algorithm key) = Unit {0}

-- what holds of each of two lists holds of both
all_of_both : (P : Addition → Type 0) (front behind : List Addition) → AllByRecursion P front
    → AllByRecursion P behind → AllByRecursion P (front ++ behind)
all_of_both P [] behind first second = second
all_of_both P (x ∷ front) behind first second = (first.0, all_of_both P front behind first.1 second)

-- a fact of each attribute that a client adds, and of each digest
record OfEach (P : Addition → Type 0) : Type 0 where
  nonce : (value : List ℕ) → P (attribute (record { kind = NONCE; value = value }))
  realm : (value : List ℕ) → P (attribute (record { kind = REALM; value = value }))
  username : (value : List ℕ) → P (attribute (record { kind = USERNAME; value = value }))
  userhash : (value : List ℕ) → P (attribute (record { kind = USERHASH; value = value }))
  algorithms : (value : List ℕ) → P (attribute (record { kind = PASSWORD_ALGORITHMS; value = value }))
  algorithm : (value : List ℕ) → P (attribute (record { kind = PASSWORD_ALGORITHM; value = value }))
  digest : (a : IntegrityAlgorithm) (key : List ℕ) → P (integrity a key)

-- holds of all that it adds
of_naming : (P : Addition → Type 0) → OfEach P → (naming : Naming)
    → P (attribute (name_attribute naming))
of_naming P each (plain name) = each.username name
of_naming P each (hashed hash) = each.userhash hash

of_choice : (P : Addition → Type 0) → OfEach P → (offered : List ℕ) (a : IntegrityAlgorithm)
    → AllByRecursion P (algorithm_choice offered a)
of_choice P each [] Sha1 = tt
of_choice P each [] Sha256 = (each.algorithm _, tt)
of_choice P each (byte ∷ list) a = (each.algorithms _, (each.algorithm _, tt))

of_all : (P : Addition → Type 0) → OfEach P → (c : Challenge)
    → AllByRecursion P (challenge_additions true c)
of_all P each c =
    all_of_both P (identity_of c) (algorithm_choice c.offered c.algorithm ++ protection c)
    (each.nonce c.nonce, (each.realm c.realm, (of_naming P each c.naming, tt)))
    (all_of_both P (algorithm_choice c.offered c.algorithm) (protection c)
    (of_choice P each c.offered c.algorithm) (each.digest c.algorithm c.key, tt))

no_prints : (c : Challenge) → AllByRecursion IsNoPrint (challenge_additions true c)
no_prints c = of_all IsNoPrint (record {
  nonce = λ value. refl;
  realm = λ value. refl;
  username = λ value. refl;
  userhash = λ value. refl;
  algorithms = λ value. refl;
  algorithm = λ value. refl;
  digest = λ a key. tt;
}) c

pub typed : (c : Challenge) → AllByRecursion IsTyped (challenge_additions true c)
typed c = of_all IsTyped (record {
  nonce = λ value. omega arith;
  realm = λ value. omega arith;
  username = λ value. omega arith;
  userhash = λ value. omega arith;
  algorithms = λ value. omega arith;
  algorithm = λ value. omega arith;
  digest = λ a key. tt;
}) c

pub not_print : (a : IntegrityAlgorithm) → (integrity_kind a == FINGERPRINT) ≡ false
not_print Sha1 = refl
not_print Sha256 = refl

not_found : (list : List Addition) (page : List ℕ) → AllByRecursion IsNoPrint list
    → first_of FINGERPRINT (added_members page list) ≡ None
not_found [] page none = refl
not_found (attribute a ∷ others) page none =
    ap (λ b. cond b (Some (length page, a))
    (first_of FINGERPRINT (added_members (with_attribute page a) others))) none.0
    ∙ not_found others (with_attribute page a) none.1
not_found (integrity algorithm key ∷ others) page none =
    ap (λ b. cond b (Some (length page, integrity_attribute page algorithm key))
    (first_of FINGERPRINT (added_members (with_integrity page algorithm key) others)))
    (not_print algorithm)
    ∙ not_found others (with_integrity page algorithm key) none.1

none_among : (kind : ℕ) (members : List Member) → has_kind kind members ≡ false
    → first_of kind members ≡ None
none_among kind [] none = refl
none_among kind (m ∷ members) none =
    let parts = both_false (m.1.kind == kind) (has_kind kind members) none in
    ap (λ b. cond b (Some m) (first_of kind members)) parts.0 ∙ none_among kind members parts.1

-- ---- FINGERPRINT changes nothing of what is read

module _ (page : List ℕ) (free : IsFree page) where
  abbrev longer : List ℕ
  longer = with_fingerprint page

  abbrev print : Member
  print = (length page, fingerprint_attribute page)

  one_print : HasOneMore page longer (fingerprint_attribute page)
  one_print = HasOneMore-fingerprint page free

  still_last : (kind : ℕ) → (FINGERPRINT == kind) ≡ false
      → last_of kind (visible longer) ≡ last_of kind (visible page)
  still_last kind other =
      ap (last_of kind) one_print.visible_is ∙ last_other kind (visible page) print other

  none_after : (o : Option Member) → option_or o None ≡ o
  none_after None = refl
  none_after (Some m) = refl

  still_signed : has_visible_integrity longer ≡ has_visible_integrity page
  still_signed =
      ap (λ (v : List Member). is_some (find (λ (m : Member). is_integrity m.1) v))
      one_print.visible_is
      ∙ ap is_some (find-append (λ (m : Member). is_integrity m.1) (visible page) (print ∷ [])
      ∙ none_after (find (λ (m : Member). is_integrity m.1) (visible page)))

  verified_same : (key : List ℕ) → verified_algorithm longer key ≡ verified_algorithm page key
  verified_same key = verified_by-fingerprint (λ _. key) page free

  reading_same : reading_of longer ≡ reading_of page
  unfolding reading_of
  reading_same = λ i. record {
    class = class_of (one_print.type_is i);
    error = cond (is_error (class_of (one_print.type_is i)))
        (option_map (λ (e : CodeAndReason). e.code)
        (option_and_then (λ (m : Member). error_of m.1) (still_last ERROR_CODE refl i))) None;
    realm = option_and_then (λ (m : Member). text_of REALM TEXT_LIMIT m.1) (still_last REALM refl i);
    nonce = option_and_then (λ (m : Member). text_of NONCE TEXT_LIMIT m.1) (still_last NONCE refl i);
    username = option_and_then (λ (m : Member). text_of USERNAME USERNAME_LIMIT m.1)
        (still_last USERNAME refl i);
    userhash = option_and_then (λ (m : Member). hash_of m.1) (still_last USERHASH refl i);
    algorithms = option_map (map integrity_of)
        (option_and_then (λ (m : Member). password_algorithms_in m.1)
        (still_last PASSWORD_ALGORITHMS refl i));
    algorithm = option_map integrity_of
        (option_and_then (λ (m : Member). password_algorithm_in m.1)
        (still_last PASSWORD_ALGORITHM refl i));
    integrity = cond (still_signed i) (Some (λ key. verified_same key i)) None;
  }

-- ---- all of it

-- a signed page: the message, what is read of it, and no FINGERPRINT
record Signed (method : ℕ) (a : Added) (bytes : List ℕ) : Type 0 where
  is_message : IsMessage bytes
  type_is : type_field bytes ≡ type_number Request method
  reads : ReadsAs Request None a (reading_of bytes)
  no_print : first_of FINGERPRINT (visible bytes) ≡ None

error_none : (page : List ℕ) → class_in page ≡ Request → error_code page ≡ None
error_none page class =
    ap (λ c. cond (is_error c) (option_map (λ (e : CodeAndReason). e.code)
    (last error_of ERROR_CODE page)) None) class

module _ (laws : ReadingLaws) (method : ℕ) (low : method < 4096) where
  class_read : (page : List ℕ) → type_field page ≡ type_number Request method
      → class_in page ≡ Request
  class_read page is = ap class_of is ∙ class_is laws method low

  -- what is read of a page that additions sign
  signed_by : (a : Added) (list : List Addition) (page : List ℕ) (q : Page) → Fresh method page
      → AllByRecursion IsTyped list → AllByRecursion IsNoPrint list
      → added_all list (page_of page) ≡ Ok q
      → ReadsAs (class_in page) (error_code page) a (reading_of q.bytes) → Signed method a q.bytes
  signed_by a list page q fresh fine none done reads =
      let room = (page_of page).room in
      let has = laws.has list page room q fresh.unsigned.is_open fine done in
      let class = class_read page fresh.type_is in
      record {
        is_message = has.is_message;
        type_is = has.type_is ∙ fresh.type_is;
        reads =
            subst (λ (c : MessageClass). ReadsAs c None a (reading_of q.bytes)) class
            (subst (λ (o : Option ℕ). ReadsAs (class_in page) o a (reading_of q.bytes))
            (error_none page class) reads);
        no_print =
            ap (first_of FINGERPRINT) has.visible_is
            ∙ find-append (λ (m : Member). m.1.kind == FINGERPRINT) (visible page)
            (added_members page list)
            ∙ ap (λ o. option_or o (first_of FINGERPRINT (added_members page list)))
            (ap (first_of FINGERPRINT) (laws.shown page fresh.unsigned.is_open)
            ∙ none_among FINGERPRINT (walk page) fresh.unsigned.is_open.no_fingerprint)
            ∙ not_found list page none;
      }

  -- with what a challenge asks for, or with nothing
  signed_page : (who : NameAndPassword) (p : Preferences) (accepts : Bool)
      (challenge : Option Answered) (page : List ℕ) (q : Page) → Fresh method page
      → IsText (added_to challenge)
      → added_all (additions_for (long_term who p accepts) challenge) (page_of page) ≡ Ok q
      → Signed method (added_to challenge) q.bytes
  signed_page who p accepts None page q fresh text done =
      signed_by (added_to None) (additions_of (added_to None)) page q fresh tt tt done
      (laws.reads (added_to None) page (page_of page).room q fresh.unsigned text done)
  signed_page who p accepts (Some c) page q fresh text done =
      signed_by (added_under true c.challenge) (challenge_additions true c.challenge) page q fresh
      (typed c.challenge) (no_prints c.challenge) done
      (reads_as laws.writes c.challenge page (page_of page).room q fresh.unsigned text done)

  ended : (form : Form) (a : Added) (has : Bool) (page bytes : List ℕ) → form.has_fingerprint ≡ has
      → Signed method a page → with_own_end has page ≡ Ok bytes → IsReadAsMade form method a bytes
  ended form a false page bytes is_form signed is =
      subst (IsReadAsMade form method a) (same_page page bytes is) (record {
        message = refusal-none page signed.is_message;
        class = class_read page signed.type_is;
        method_is = ap method_of signed.type_is ∙ method_again laws method low;
        print = ap (fingerprint_if page) signed.no_print ∙ sym (ap print_of is_form);
        reads = signed.reads;
      })
  ended form a true page bytes is_form signed is =
      let room = room_left page in
      let unrefused = unless_is (fingerprint_refusal page room) (with_fingerprint page) bytes is in
      let parts = passed (has_kind FINGERPRINT (walk page)) (there_already FINGERPRINT)
      (size_refusal page room 4) unrefused.0 in
      let free : IsFree page = record {
        is_message = signed.is_message;
        none = parts.0;
        short = fits page room 4 parts.1;
      } in
      let one = HasOneMore-fingerprint page free in
      subst (IsReadAsMade form method a) unrefused.1 (record {
        message = refusal-none (with_fingerprint page) one.is_message;
        class = class_read (with_fingerprint page) (one.type_is ∙ signed.type_is);
        method_is = ap method_of (one.type_is ∙ signed.type_is) ∙ method_again laws method low;
        print = fingerprint_in-added page free ∙ sym (ap print_of is_form);
        reads = subst (ReadsAs Request None a) (sym (reading_same page free)) signed.reads;
      })

  pub of_page : (r : Result Page StunWriteError) (bytes : List ℕ) → page_bytes r ≡ Ok bytes
      → (q : Page) × (r ≡ Ok q) × (q.bytes ≡ bytes)
  of_page (Err why) bytes is = cc
  of_page (Ok q) bytes is = (q, refl, same_page q.bytes bytes is)

  whole_read : (form : Form) (who : NameAndPassword) (p : Preferences) (accepts : Bool)
      (challenge : Option Answered) (id : ℕ) (body : Body) (bytes : List ℕ) → AreOrdinary body
      → IsText (added_to challenge)
      → whole_request form (long_term who p accepts) challenge method id body ≡ Ok bytes
      → IsReadAsMade form method (added_to challenge) bytes
  whole_read form who p accepts challenge id body bytes ordinary text is =
      let identity = long_term who p accepts in
      let start = empty_message Request method id in
      let first = then_is (with_body id body start) (completed_request form identity challenge) bytes
      is in
      let fresh = filled laws method id body start first.0 ordinary (begun laws method id low)
      first.1 in
      let second = then_is (with_own_software form.software first.0)
      (closed_request form identity challenge) bytes first.2 in
      let named = described laws method form.software first.0 second.0 fresh second.1 in
      let third = then_is (with_credentials identity challenge second.0)
      (with_own_end form.has_fingerprint) bytes second.2 in
      let page = of_page (added_all (additions_for identity challenge) (page_of second.0)) third.0
      third.1 in
      ended form (added_to challenge) form.has_fingerprint third.0 bytes refl
      (subst (Signed method (added_to challenge)) page.2
      (signed_page who p accepts challenge second.0 page.0 named text page.1)) third.2

pub read_back : ReadingLaws → (form : Form) (who : NameAndPassword) (p : Preferences) (accepts : Bool)
    (challenge : Option Answered) (method id : ℕ) (body : Body) (bytes : List ℕ) → method < 4096
    → AreOrdinary body → IsText (added_to challenge)
    → request_bytes form (long_term who p accepts) challenge method id body ≡ Ok bytes
    → IsReadAsMade form method (added_to challenge) bytes
unfolding request_bytes
read_back laws form who p accepts challenge method id body bytes low ordinary text is =
    by (is_text_too_long form.software) is
  where
    by : (b : Bool)
        → cond b (Err TooLarge)
        (whole_request form (long_term who p accepts) challenge method id body) ≡ Ok bytes
        → IsReadAsMade form method (added_to challenge) bytes
    by true is = cc
    by false is =
        whole_read laws method low form who p accepts challenge id body bytes ordinary text is

-- A 401 or a 438 that a server writes is read as the server means it.
use Rattle.std.proofs.Common.{◌≡◌, ◌≤◌, ◌<◌, ◌^◌, ◌+◌, ◌-◌, ◌*◌, ◌/◌, ◌%◌, ℕ, Bool, true, false}
use Rattle.std.proofs.Common.{List, [], ◌∷◌, ◌++◌, length, Option, Some, None, Ok, refl, sym, ◌∙◌}
use Rattle.std.proofs.Common.{ap, arith, subst}
use Rattle.std.specs.Prelude.{cond, map, IsUtf8, ◌==◌, ◌&&◌, ◌||◌, unwrap_or}
use Rattle.std.specs.List.{AllByRecursion}
use Rattle.std.specs.Option.{is_none, is_some, option_and_then, option_map, option_or}
use Rattle.std.proofs.lemmas.Bool.Decides.{nat_tests}
use Rattle.std.specs.declared.net.socket_addr.SocketAddr.{SocketAddr}
use Rattle.byteorder.specs.Endian.{big_bytes}
use Rattle.byteorder.specs.Numbers.{big_number-reads_back}
use Rattle.stun_base.specs.Attributes.{ERROR_CODE, FINGERPRINT, MESSAGE_INTEGRITY}
use Rattle.stun_base.specs.Attributes.{MESSAGE_INTEGRITY_SHA256, NONCE, PASSWORD_ALGORITHMS, REALM}
use Rattle.stun_base.specs.Header.{MAGIC_COOKIE, transaction_id_field, type_field}
use Rattle.stun_base.specs.MessageType.{class_in, class_of, class_of_bits, is_error, method_of}
use Rattle.stun_base.specs.MessageType.{type_number}
use Rattle.stun_base.specs.declared.keys.algorithm.IntegrityAlgorithm.TheVariants.{Sha256}
use Rattle.stun_base.specs.declared.wire.message_type.MessageClass.{MessageClass}
use Rattle.stun_base.specs.declared.wire.message_type.MessageClass.TheVariants as Class
use Rattle.stun_types.specs.Attribute.{TypedValue}
use Rattle.stun_types.specs.ErrorCode.{CodeAndReason, IsError, error_of, error_value}
use Rattle.stun_types.specs.ErrorCodeLaws.{error_of-written}
use Rattle.stun_types.specs.Grammar.{spelled_attribute, spelled_attributes, spelled_message}
use Rattle.stun_types.specs.Integrity.{first_of, verified_algorithm, verified_at}
use Rattle.stun_types.specs.Limits.{TEXT_LIMIT}
use Rattle.stun_types.specs.Message.{IsMessage}
use Rattle.stun_types.specs.PasswordAlgorithms.{password_algorithm_of, spelled_entries}
use Rattle.stun_types.specs.Text.{text_of, text_of-written}
use Rattle.stun_types.specs.Visible.{visible}
use Rattle.stun_types.specs.Walk.{Member, walk, walk_up_to}
use Rattle.stun_types.specs.Writing.{HasOneMore, IsAddable, IsOpen, is_set_apart, length_with}
use Rattle.stun_types.specs.Writing.{with_attribute}
use Rattle.stun_types.proofs.AddingLemmas.{length-spelled_attribute, raised}
use Rattle.stun_types.proofs.MessageLemmas.{refusal-none}
use Rattle.stun_judging.specs.AddedAttribute as added
use Rattle.stun_judging.specs.Additions.{Addition, Page, added_all, growth, page_of}
use Rattle.stun_judging.specs.Algorithms.{algorithms_of, contains}
use Rattle.stun_judging.specs.Reading.{STALE_NONCE, UNAUTHORIZED, is_code}
use Rattle.stun_judging.specs.Joined.{HasAdded, IsTyped, added_members, page_after}
use Rattle.stun_judging.specs.Signed.{Added, HasRoomFor, IsBuilt, IsSmall, IsUnsigned}
use Rattle.stun_judging.specs.Signed.{IsWithinLimits, additions_of, error_attribute}
use Rattle.stun_judging.specs.declared.algorithm_set.AlgorithmSet.{AlgorithmSet}
use Rattle.stun_judging.specs.declared.algorithm_set.AlgorithmSet.TheVariants.{OnlySha1}
use Rattle.stun_judging.specs.declared.algorithm_set.AlgorithmSet.TheVariants.{OnlySha256, Both}
use Rattle.stun_judging.proofs.Growth.{grown_all}
use Rattle.stun_judging.proofs.SignedReading.{typed-additions}
use Rattle.stun_extra.specs.AttributeTypes.{SOFTWARE}
use Rattle.stun_extra.specs.Values.{bytes_of}
use Rattle.stun_extra.specs.declared.fingerprint.Fingerprint.TheVariants.{Right, Absent}
use Rattle.stun_extra.specs.Fingerprint.{fingerprint_attribute, fingerprint_if, fingerprint_in}
use Rattle.stun_exchanges.specs.Agreement.{offered_by}
use Rattle.stun_client.specs.Challenge.{Challenge}
use Rattle.stun_client.specs.Challenges.{by_rule, by_rule_if, list_for}
use Rattle.stun_client.specs.Challenges.{list_or_none}
use Rattle.stun_client.specs.Challenging.{code_in, is_challenge, list_in, nonce_in, realm_in}
use Rattle.stun_client.specs.Judging.{fault_of}
use Rattle.stun_client.specs.Offers.{are_entries, if_entries}
use Rattle.stun_client.specs.Answers.{is_answer_of}
use Rattle.stun_endpoint.specs.Answers.{error_page}
use Rattle.stun_endpoint.specs.Answers.{is_fingerprinted, offered, with_last, with_software}
use Rattle.stun_endpoint.specs.Received.{challenge_answer}
use Rattle.stun_endpoint.specs.Refusals.{code_of}
use Rattle.stun_endpoint.specs.Settings.{Settings}
use Rattle.stun_endpoint.specs.declared.received.Refusal.{Refusal}
use Rattle.stun_endpoint.specs.declared.received.Refusal.TheVariants.{BadRequest, StaleNonce}
use Rattle.stun_endpoint.specs.declared.received.Refusal.TheVariants.{Unauthenticated}
use Rattle.stun_endpoint.specs.declared.received.Refusal.TheVariants.{UnknownAttribute}
use Rattle.stun_exchanges.specs.Exchange.{IsReadAsMeant, IsResponseTo, IsServer, SendsRequired}
use Rattle.stun_exchanges.specs.Exchange.{is_asking}
use Rattle.stun_extra.proofs.FingerprintLemmas.{HasOneMore-fingerprint, IsFree}
use Rattle.stun_extra.proofs.FingerprintLemmas.{fingerprint_in-added, first_of-other}
use Rattle.stun_exchanges.proofs.ChallengeParts.{is_fit, error_for, added_for, added_bytes}
use Rattle.stun_exchanges.proofs.ChallengeParts.{not_protected, few, shown_list, first_code}
use Rattle.stun_exchanges.proofs.ChallengeParts.{first_nonce, first_realm, first_list, no_digest}
use Rattle.stun_exchanges.proofs.ChallengeParts.{no_fingerprint}

-- what the laws of the crates below say of writing
pub record WritingLaws : Type 0 where
  pub begun : (message_type id : ℕ) → message_type < 2 ^ 14
      → IsOpen (spelled_message message_type id []) × (walk (spelled_message message_type id []) ≡ [])
  pub shown : (message : List ℕ) → IsOpen message → visible message ≡ walk message
  pub adds : (message : List ℕ) (attribute : TypedValue) → IsOpen message
      → IsAddable message attribute
      → HasOneMore message (with_attribute message attribute) attribute
  pub opens : (message : List ℕ) (attribute : TypedValue) → IsOpen message
      → IsAddable message attribute → is_set_apart attribute.kind ≡ false
      → IsOpen (with_attribute message attribute)
  pub spelled : (message_type id : ℕ) (attributes : List TypedValue) (attribute : TypedValue)
      → with_attribute (spelled_message message_type id attributes) attribute
      ≡ spelled_message message_type id (attributes ++ attribute ∷ [])
  pub built : (message_type id : ℕ) (error : CodeAndReason) → message_type < 2 ^ 14 → IsError error
      → IsBuilt (spelled_message message_type id (error_attribute error ∷ []))
      (class_of message_type) (cond (is_error (class_of message_type)) (Some error.code) None)
  pub growth_of : (a : Added) → IsSmall a → growth (additions_of a) ≤ 2148
  pub room : (a : Added) (message : List ℕ) (room : ℕ) (class : MessageClass) (error : Option ℕ)
      → IsBuilt message class error → IsSmall a → 2148 ≤ room → HasRoomFor a message room
  pub succeeds : (a : Added) (message : List ℕ) (room : ℕ) → IsUnsigned message
      → IsWithinLimits a → HasRoomFor a message room
      → added_all (additions_of a) (record { bytes = message; room = room })
      ≡ Ok (page_after (additions_of a) (record { bytes = message; room = room }))
  pub has_added : (list : List Addition) (message : List ℕ) (room : ℕ) (page : Page)
      → IsOpen message → AllByRecursion IsTyped list
      → added_all list (record { bytes = message; room = room }) ≡ Ok page
      → HasAdded message list page.bytes

-- ---- the header

-- the type of an error response
module _ (request : List ℕ) where
  abbrev pub method : ℕ
  method = method_of (type_field request)

  abbrev pub kind_of_error : ℕ
  kind_of_error = type_number Class.Error method

  fits_in : kind_of_error < 2 ^ 14
  fits_in = omega arith

  is_of_class : class_of kind_of_error ≡ Class.Error
  is_of_class =
      let bits : kind_of_error / 256 % 2 * 2 + kind_of_error / 16 % 2 ≡ 3 = omega arith in
      ap class_of_bits bits

  method_again : method_of kind_of_error ≡ method
  method_again = omega arith

pub same_number : (n : ℕ) → (n == n) ≡ true
same_number n = grind (arith, nat_tests)

-- ---- the end of the response

-- a message that is open, with these attributes and maybe SOFTWARE
record Stage (message page : List ℕ) (all : List Member) (most : ℕ) : Type 0 where
  is_open : IsOpen message
  type_is : type_field message ≡ type_field page
  id_is : transaction_id_field message ≡ transaction_id_field page
  first : (kind : ℕ) → (SOFTWARE == kind) ≡ false
      → first_of kind (visible message) ≡ first_of kind all
  short : length message ≤ most

-- the whole message
record Whole (has : Bool) (message page : List ℕ) (all : List Member) : Type 0 where
  is_message : IsMessage message
  type_is : type_field message ≡ type_field page
  id_is : transaction_id_field message ≡ transaction_id_field page
  first : (kind : ℕ) → (SOFTWARE == kind) ≡ false → (FINGERPRINT == kind) ≡ false
      → first_of kind (visible message) ≡ first_of kind all
  print : fingerprint_in message ≡ cond has Right Absent

module _ (laws : WritingLaws) (page : List ℕ) (all : List Member) where
  after_software : (o : Option (List ℕ)) → length (unwrap_or o []) ≤ TEXT_LIMIT → (message : List ℕ)
      → Stage message page all 2940 → Stage (with_software o message) page all 4000
  after_software None fits message stage = record {
    is_open = stage.is_open;
    type_is = stage.type_is;
    id_is = stage.id_is;
    first = stage.first;
    short = omega (arith, stage.short);
  }
  after_software (Some text) fits message stage =
      let attribute : TypedValue = record { kind = SOFTWARE; value = text } in
      let addable : IsAddable message attribute = record {
        kind = omega arith;
        value = omega (arith, stage.short, fits);
      } in
      let one = laws.adds message attribute stage.is_open addable in
      let kept = raised message (spelled_attribute attribute) (length_with message (length text))
      stage.is_open.is_message.header.is_whole (omega (arith, stage.short, fits)) in
      record {
        is_open = laws.opens message attribute stage.is_open addable refl;
        type_is = one.type_is ∙ stage.type_is;
        id_is = one.transaction_id_is ∙ stage.id_is;
        first = λ kind software.
            ap (first_of kind) one.visible_is
            ∙ first_of-other kind (visible message) (length message, attribute) software
            ∙ stage.first kind software;
        short = omega (arith, kept.long, length-spelled_attribute attribute, stage.short, fits);
      }

  after_last : (has : Bool) (message : List ℕ) → first_of FINGERPRINT all ≡ None
      → Stage message page all 4000 → Whole has (with_last has message) page all
  after_last true message none stage =
      let free : IsFree message = record {
        is_message = stage.is_open.is_message;
        none = stage.is_open.no_fingerprint;
        short = omega (arith, stage.short);
      } in
      let one = HasOneMore-fingerprint message free in
      record {
        is_message = one.is_message;
        type_is = one.type_is ∙ stage.type_is;
        id_is = one.transaction_id_is ∙ stage.id_is;
        first = λ kind software fingerprint.
            ap (first_of kind) one.visible_is
            ∙ first_of-other kind (visible message) (length message, fingerprint_attribute message)
            fingerprint
            ∙ stage.first kind software;
        print = fingerprint_in-added message free;
      }
  after_last false message none stage = record {
    is_message = stage.is_open.is_message;
    type_is = stage.type_is;
    id_is = stage.id_is;
    first = λ kind software fingerprint. stage.first kind software;
    print = ap (fingerprint_if message) (stage.first FINGERPRINT refl ∙ none);
  }

-- ---- all of it

-- the list of a server is whole entries
entries_of : (set : AlgorithmSet)
    → are_entries (spelled_entries (map password_algorithm_of (algorithms_of set))) ≡ true
unfolding walk_up_to
entries_of OnlySha1 = refl
entries_of OnlySha256 = refl
entries_of Both = refl

-- so it is read as it was written
list_again : (set : AlgorithmSet)
    → list_or_none (option_and_then if_entries (cond (contains Sha256 set)
    (bytes_of PASSWORD_ALGORITHMS (added.password_algorithms (algorithms_of set))) None))
    ≡ offered_by set
list_again set =
    by (contains Sha256 set) (spelled_entries (map password_algorithm_of (algorithms_of set)))
    (entries_of set)
  where
    by : (b : Bool) (list : List ℕ) → are_entries list ≡ true
        → list_or_none (option_and_then if_entries (cond b (Some list) None)) ≡ cond b list []
    by true list whole = ap (λ w. list_or_none (cond w (Some list) None)) whole
    by false list whole = refl

-- a FINGERPRINT that is right, or that is neither there nor required, is no reason to drop a message
pub no_fault : (required has : Bool) → (required ≡ true → has ≡ true)
    → fault_of required (cond has Right Absent) ≡ None
no_fault true true sends = refl
no_fault true false sends = absurd (differ (sends refl))
  where
    differ : false ≡ true → ⊥
    differ is = cc
no_fault false true sends = refl
no_fault false false sends = refl

and_false : (a b : Bool) → (a && b && false) ≡ false
and_false true true = refl
and_false true false = refl
and_false false b = refl

abbrev is_challenge_code : ℕ → Bool
is_challenge_code code = is_code UNAUTHORIZED (Some code) || is_code STALE_NONCE (Some code)

asking_code : (kind : Refusal) → is_asking kind ≡ true
    → is_challenge_code (code_of kind) ≡ true
asking_code BadRequest asks = cc
asking_code Unauthenticated asks = refl
asking_code UnknownAttribute asks = cc
asking_code StaleNonce asks = refl

pub type_again : (message_type id : ℕ) (list : List TypedValue) → message_type < 2 ^ 14
    → type_field (spelled_message message_type id list) ≡ message_type
type_again message_type id list fits =
    big_number-reads_back 2 message_type
    (big_bytes 2 (length (spelled_attributes list)) ++ big_bytes 4 MAGIC_COOKIE ++ big_bytes 12 id
    ++ spelled_attributes list) (omega (arith, fits))

pub id_again : (message_type id : ℕ) → id < 2 ^ 96
    → transaction_id_field (spelled_message message_type id []) ≡ id
id_again message_type id fits = big_number-reads_back 12 id [] fits

pub header_long : (message_type id : ℕ) → length (spelled_message message_type id []) ≡ 20
header_long message_type id = refl

pub error_long : (error : CodeAndReason) → length (error_value error) ≡ 4 + length error.reason
error_long error = omega arith

module _ (laws : WritingLaws) (s : Settings) (fine : IsServer s) (kind : Refusal)
    (asks : is_asking kind ≡ true) (nonce : List ℕ) (text : IsUtf8 nonce)
    (short : length nonce ≤ TEXT_LIMIT) (to : SocketAddr) (request : List ℕ)
    (identified : transaction_id_field request < 2 ^ 96) where
  abbrev id : ℕ
  id = transaction_id_field request

  abbrev empty : List ℕ
  empty = spelled_message (kind_of_error request) id []

  abbrev error : TypedValue
  error = error_attribute (error_for kind)

  abbrev page : List ℕ
  page = with_attribute empty error

  abbrev lists : Bool
  lists = contains Sha256 s.algorithms

  abbrev a : Added
  a = added_for lists s.algorithms nonce s.realm

  abbrev all : List Member
  all = shown_list s.algorithms nonce s.realm (length empty) (error_value (error_for kind)) page lists

  open_empty : IsOpen empty
  open_empty = (laws.begun (kind_of_error request) id (fits_in request)).0

  one : HasOneMore empty page error
  one = laws.adds empty error open_empty (record {
    kind = omega arith;
    value = omega (
      arith,
      header_long (kind_of_error request) id,
      error_long (error_for kind),
      (is_fit kind asks).short,
    );
  })

  built : IsBuilt page (class_of (kind_of_error request))
      (cond (is_error (class_of (kind_of_error request))) (Some (code_of kind)) None)
  built =
      subst (λ (m : List ℕ). IsBuilt m (class_of (kind_of_error request))
      (cond (is_error (class_of (kind_of_error request))) (Some (code_of kind)) None))
      (sym (laws.spelled (kind_of_error request) id [] error))
      (laws.built (kind_of_error request) id (error_for kind) (fits_in request) (is_fit kind asks))

  shows_error : visible page ≡ (length empty, error) ∷ []
  shows_error =
      one.visible_is
      ∙ ap (λ (v : List Member). v ++ (length empty, error) ∷ [])
      (laws.shown empty open_empty ∙ (laws.begun (kind_of_error request) id (fits_in request)).1)

  small : IsSmall a
  small = few lists s.algorithms nonce s.realm short fine.realm_fits

  abbrev start : Page
  start = page_of page

  signed : added_all (additions_of a) start ≡ Ok (page_after (additions_of a) start)
  signed =
      laws.succeeds a page start.room built.unsigned small.texts
      (laws.room a page start.room (class_of (kind_of_error request))
      (cond (is_error (class_of (kind_of_error request))) (Some (code_of kind)) None) built small
      (omega (arith, built.short)))

  abbrev asked : List ℕ
  asked = (page_after (additions_of a) start).bytes

  has : HasAdded page (additions_of a) asked
  has =
      laws.has_added (additions_of a) page start.room (page_after (additions_of a) start)
      built.unsigned.is_open (typed-additions a) signed

  stage : Stage asked page all 2940
  stage = record {
    is_open = has.is_open (not_protected lists s.algorithms nonce s.realm);
    type_is = has.type_is;
    id_is = has.transaction_id_is;
    first = λ kind software. ap (first_of kind)
        (has.visible_is
        ∙ ap (λ (v : List Member). v ++ added_members page (additions_of a)) shows_error);
    short = omega (
      arith,
      built.short,
      laws.growth_of a small,
      grown_all (additions_of a) start (page_after (additions_of a) start)
          built.unsigned.is_open.is_message.header.is_whole signed,
    );
  }

  module _ (has_fingerprint : Bool) where
    abbrev bytes : List ℕ
    bytes = with_last has_fingerprint (with_software s.software asked)

    whole : Whole has_fingerprint bytes page all
    whole =
        after_last laws page all has_fingerprint (with_software s.software asked)
        (no_fingerprint s.algorithms nonce s.realm (length empty) (error_value (error_for kind)) page
        lists)
        (after_software laws page all s.software fine.software_fits asked stage)

    kind_is : type_field bytes ≡ kind_of_error request
    kind_is =
        whole.type_is ∙ one.type_is ∙ type_again (kind_of_error request) id [] (fits_in request)

    class_is : class_in bytes ≡ Class.Error
    class_is = ap class_of kind_is ∙ is_of_class request

    method_is : method_of (type_field bytes) ≡ method request
    method_is = ap method_of kind_is ∙ method_again request

    id_is : transaction_id_field bytes ≡ id
    id_is =
        whole.id_is ∙ one.transaction_id_is ∙ id_again (kind_of_error request) id identified

    code_is : code_in bytes ≡ Some (code_of kind)
    code_is =
        ap (λ c. cond (is_error c) (option_map (λ (e : CodeAndReason). e.code)
        (option_and_then (λ (m : Member). error_of m.1) (first_of ERROR_CODE (visible bytes)))) None)
        class_is
        ∙ ap (λ o. option_map (λ (e : CodeAndReason). e.code)
        (option_and_then (λ (m : Member). error_of m.1) o)) (whole.first ERROR_CODE refl refl)
        ∙ ap (option_map (λ (e : CodeAndReason). e.code))
        (first_code s.algorithms nonce s.realm (length empty) (error_value (error_for kind)) page
        error_of lists ∙ error_of-written (error_for kind) (is_fit kind asks))

    realm_is : realm_in bytes ≡ Some s.realm
    realm_is =
        ap (option_and_then (λ (m : Member). text_of REALM TEXT_LIMIT m.1))
        (whole.first REALM refl refl)
        ∙ first_realm s.algorithms nonce s.realm (length empty) (error_value (error_for kind)) page
        (text_of REALM TEXT_LIMIT) lists
        ∙ text_of-written REALM TEXT_LIMIT s.realm (fine.realm_text, fine.realm_fits)

    nonce_is : nonce_in bytes ≡ Some nonce
    nonce_is =
        ap (option_and_then (λ (m : Member). text_of NONCE TEXT_LIMIT m.1))
        (whole.first NONCE refl refl)
        ∙ first_nonce s.algorithms nonce s.realm (length empty) (error_value (error_for kind)) page
        (text_of NONCE TEXT_LIMIT) lists
        ∙ text_of-written NONCE TEXT_LIMIT nonce (text, short)

    list_is : list_in bytes ≡ option_and_then if_entries (cond lists
        (bytes_of PASSWORD_ALGORITHMS (added.password_algorithms (algorithms_of s.algorithms))) None)
    list_is =
        ap (λ o. option_and_then if_entries
        (option_and_then (λ (m : Member). bytes_of PASSWORD_ALGORITHMS m.1) o))
        (whole.first PASSWORD_ALGORITHMS refl refl)
        ∙ ap (option_and_then if_entries)
        (first_list s.algorithms nonce s.realm (length empty) (error_value (error_for kind)) page
        (bytes_of PASSWORD_ALGORITHMS) lists)

    unsigned_is : (key : List ℕ) → verified_algorithm bytes key ≡ None
    unsigned_is key =
        let stronger = whole.first MESSAGE_INTEGRITY_SHA256 refl refl in
        let weaker = whole.first MESSAGE_INTEGRITY refl refl in
        ap (option_and_then (verified_at (λ _. key) bytes))
        ((λ i. option_or (stronger i) (weaker i))
        ∙ no_digest s.algorithms nonce s.realm (length empty) (error_value (error_for kind)) page
        lists)

    asks_is : is_challenge bytes ≡ true
    asks_is =
        ap (λ o. is_code UNAUTHORIZED o || is_code STALE_NONCE o) code_is
        ∙ asking_code kind asks

    own_list : list_or_none (list_in bytes) ≡ offered_by s.algorithms
    own_list = ap list_or_none list_is ∙ list_again s.algorithms

    list_for_is : (before : Option Challenge)
        → list_for before bytes ≡ offered_by s.algorithms
    list_for_is None = own_list
    list_for_is (Some c) =
        ap (λ b. cond b c.offered (list_or_none (list_in bytes)))
        (ap (λ v. is_code STALE_NONCE (code_in bytes) && is_none (list_in bytes) && is_some v)
        (unsigned_is c.key)
        ∙ and_false (is_code STALE_NONCE (code_in bytes)) (is_none (list_in bytes)))
        ∙ own_list

    pub responds : (required : Bool) → (required ≡ true → has_fingerprint ≡ true)
        → IsResponseTo required request bytes
    responds required sends = record {
      message = refusal-none bytes whole.is_message;
      whole = ap (fault_of required) whole.print ∙ no_fault required has_fingerprint sends;
      id = id_is;
      answers =
          ap (λ c. is_answer_of (method request) c bytes) class_is
          ∙ ap (λ m. m == method request) method_is
          ∙ same_number (method request);
    }

    pub is_meant : IsReadAsMeant s kind nonce bytes
    is_meant = record {
      asks = asks_is;
      code = code_is;
      read = λ p who before.
          ap (λ b. cond b (by_rule_if p who (realm_in bytes) (nonce_in bytes)
          (list_for before bytes)) None) asks_is
          ∙ ap (λ r. by_rule_if p who r (nonce_in bytes) (list_for before bytes)) realm_is
          ∙ ap (λ n. by_rule_if p who (Some s.realm) n (list_for before bytes)) nonce_is
          ∙ ap (by_rule p who s.realm nonce) (list_for_is before);
    }

  read_as_meant : (required : Bool) (response : List ℕ) (has_fingerprint : Bool)
      → (required ≡ true → has_fingerprint ≡ true)
      → response ≡ with_last has_fingerprint (with_software s.software asked)
      → IsResponseTo required request response × IsReadAsMeant s kind nonce response
  read_as_meant required response has_fingerprint sends is =
      subst (λ (b : List ℕ). IsResponseTo required request b × IsReadAsMeant s kind nonce b) (sym is)
      (responds has_fingerprint required sends, is_meant has_fingerprint)

  -- the response is put together of these parts
  written : (challenge_answer s kind nonce to request).bytes
      ≡ with_last (is_fingerprinted request) (with_software s.software asked)
  unfolding challenge_answer error_page
  written =
      ap (λ p. with_last (is_fingerprinted request) (with_software s.software p))
      (sym (added_bytes lists s.algorithms nonce s.realm start))

  pub challenge_read : (required : Bool) → SendsRequired required request
      → let bytes = (challenge_answer s kind nonce to request).bytes in
      IsResponseTo required request bytes × IsReadAsMeant s kind nonce bytes
  challenge_read required sends =
      read_as_meant required (challenge_answer s kind nonce to request).bytes
      (is_fingerprinted request) sends written

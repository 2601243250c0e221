-- What is read of a signed message is what signing added.
use Rattle.std.proofs.Common.{◌≡◌, ℕ, ◌<◌, ◌≤◌, ◌^◌, true, false, List, []}
use Rattle.std.proofs.Common.{◌∷◌, length, refl, sym, ◌∙◌, ap, subst, arith}
use Rattle.std.specs.Prelude.{Option, Some, None, Ok, map, nat_lt, ◌==◌, if◌then◌else◌, IsUtf8}
use Rattle.std.specs.List.{AllByRecursion}
use Rattle.std.specs.Option.{IfSome, is_some, option_and_then, option_map, option_or}
use Rattle.stun_base.specs.Attributes.{ERROR_CODE, NONCE, PASSWORD_ALGORITHM}
use Rattle.stun_base.specs.Attributes.{PASSWORD_ALGORITHMS, REALM, USERHASH, USERNAME}
use Rattle.stun_base.specs.MessageType.{class_of, class_in, is_error}
use Rattle.stun_base.specs.declared.keys.algorithm.IntegrityAlgorithm.{IntegrityAlgorithm}
use Rattle.stun_base.specs.declared.keys.algorithm.IntegrityAlgorithm.TheVariants.{Sha1, Sha256}
use Rattle.stun_base.specs.declared.wire.message_type.MessageClass.{MessageClass}
use Rattle.stun_types.specs.Attribute.{TypedValue}
use Rattle.stun_types.specs.ErrorCode.{CodeAndReason, error_of}
use Rattle.stun_types.specs.Integrity.{verified_algorithm}
use Rattle.stun_types.specs.PasswordAlgorithms.{password_algorithm_in, password_algorithms_in}
use Rattle.stun_types.specs.PasswordAlgorithms.{password_algorithms_in-written, integrity_of}
use Rattle.stun_types.specs.PasswordAlgorithms.{password_algorithm_of, spelled_entries}
use Rattle.stun_types.specs.PasswordAlgorithms.{spelled_entry}
use Rattle.stun_types.specs.Text.{text_of, text_of-written}
use Rattle.stun_types.specs.Userhash.{hash_of, hash_of-written}
use Rattle.stun_types.specs.Visible.{has_kind, visible}
use Rattle.stun_types.specs.Walk.{Member, walk}
use Rattle.stun_types.specs.Writing.{IsOpen, is_set_apart}
use Rattle.stun_judging.specs.AddedAttribute.{password_algorithm, password_algorithms}
use Rattle.stun_judging.specs.Additions.{Addition, attribute, integrity, Page, added_all}
use Rattle.stun_judging.specs.Additions.{is_text_too_long}
use Rattle.stun_judging.specs.Joined.{IsReadBack, IsTyped, Protection}
use Rattle.stun_judging.specs.Joined.{added_last, last_value, protection_in}
use Rattle.stun_judging.specs.Reading.{error_code, has_visible_integrity, last, last_of, reading_of}
use Rattle.stun_judging.specs.Signed.{Added, IsBuilt, IsText, IsUnsigned}
use Rattle.stun_judging.specs.Signed.{IsWithinLimits, ReadsAs, additions_of, if_there}
use Rattle.stun_judging.proofs.JoinedLemmas.{IsShort, WritingLaws, all_short}
use Rattle.stun_judging.proofs.JoinedLemmas.{has_added, not_above, or_none}
use Rattle.stun_judging.proofs.JoinedReading.{or_nothing, read_back}
use Rattle.stun_judging.proofs.ReadingLemmas.{is_some-cond, last_of-cons}

-- an attribute of a type
abbrev pub typed_as : ℕ → List ℕ → TypedValue
typed_as kind value = record { kind = kind; value = value }

-- additions of another type are passed
passed : {A : Type 0} (kind own : ℕ) (value : A → List ℕ) (o : Option A) (others : List Addition)
    → (own == kind) ≡ false
    → added_last kind (if_there (λ x. attribute (typed_as own (value x))) o others)
    ≡ added_last kind others
passed kind own value None others differs = refl
passed kind own value (Some x) others differs =
    ap (λ same.
    option_or (added_last kind others) (if same then Some (typed_as own (value x)) else None))
    differs ∙ or_nothing (added_last kind others)

-- the last of a type, where none of it follows
here : {A : Type 0} (kind : ℕ) (value : A → List ℕ) (o : Option A) (others : List Addition)
    → (kind == kind) ≡ true → added_last kind others ≡ None
    → added_last kind (if_there (λ x. attribute (typed_as kind (value x))) o others)
    ≡ option_map (λ x. typed_as kind (value x)) o
here kind value None others same none = none
here kind value (Some x) others same none =
    ap (λ found.
    option_or found (if kind == kind then Some (typed_as kind (value x)) else None)) none
    ∙ ap (λ same. if same then Some (typed_as kind (value x)) else None) same

-- the additions from each field on
abbrev pub text : List ℕ → List ℕ
text bytes = bytes

abbrev pub listing : List IntegrityAlgorithm → List ℕ
listing list = spelled_entries (map password_algorithm_of list)

abbrev pub entry : IntegrityAlgorithm → List ℕ
entry algorithm = spelled_entry (password_algorithm_of algorithm)

abbrev pub from_integrity : Added → List Addition
from_integrity a = if_there (λ (p : Protection). integrity p.algorithm p.key) a.integrity []

abbrev pub from_algorithm : Added → List Addition
from_algorithm a =
    if_there (λ x. attribute (typed_as PASSWORD_ALGORITHM (entry x))) a.algorithm (from_integrity a)

abbrev pub from_algorithms : Added → List Addition
from_algorithms a =
    if_there (λ x. attribute (typed_as PASSWORD_ALGORITHMS (listing x))) a.algorithms
    (from_algorithm a)

abbrev pub from_userhash : Added → List Addition
from_userhash a =
    if_there (λ x. attribute (typed_as USERHASH (text x))) a.userhash (from_algorithms a)

abbrev pub from_username : Added → List Addition
from_username a =
    if_there (λ x. attribute (typed_as USERNAME (text x))) a.username (from_userhash a)

abbrev pub from_realm : Added → List Addition
from_realm a = if_there (λ x. attribute (typed_as REALM (text x))) a.realm (from_username a)

abbrev pub from_nonce : Added → List Addition
from_nonce a = if_there (λ x. attribute (typed_as NONCE (text x))) a.nonce (from_realm a)

-- none of a type follows
none_integrity : (kind : ℕ) (a : Added) → added_last kind (from_integrity a) ≡ None
none_integrity kind a =
    elim a.integrity as (λ (o : Option Protection).
    added_last kind (if_there (λ (p : Protection). integrity p.algorithm p.key) o []) ≡ None) [
      | None ↦ refl
      | Some p ↦ refl
    ]

none_algorithm : (kind : ℕ) (a : Added) → (PASSWORD_ALGORITHM == kind) ≡ false
    → added_last kind (from_algorithm a) ≡ None
none_algorithm kind a algorithm =
    passed kind PASSWORD_ALGORITHM entry a.algorithm (from_integrity a) algorithm
    ∙ none_integrity kind a

none_algorithms : (kind : ℕ) (a : Added) → (PASSWORD_ALGORITHM == kind) ≡ false
    → (PASSWORD_ALGORITHMS == kind) ≡ false → added_last kind (from_algorithms a) ≡ None
none_algorithms kind a algorithm algorithms =
    passed kind PASSWORD_ALGORITHMS listing a.algorithms (from_algorithm a) algorithms
    ∙ none_algorithm kind a algorithm

none_userhash : (kind : ℕ) (a : Added) → (PASSWORD_ALGORITHM == kind) ≡ false
    → (PASSWORD_ALGORITHMS == kind) ≡ false → (USERHASH == kind) ≡ false
    → added_last kind (from_userhash a) ≡ None
none_userhash kind a algorithm algorithms userhash =
    passed kind USERHASH text a.userhash (from_algorithms a) userhash
    ∙ none_algorithms kind a algorithm algorithms

-- the last of each type
last-algorithm : (a : Added)
    → added_last PASSWORD_ALGORITHM (additions_of a) ≡ option_map password_algorithm a.algorithm
last-algorithm a =
    passed PASSWORD_ALGORITHM NONCE text a.nonce (from_realm a) refl
    ∙ (passed PASSWORD_ALGORITHM REALM text a.realm (from_username a) refl
    ∙ (passed PASSWORD_ALGORITHM USERNAME text a.username (from_userhash a) refl
    ∙ (passed PASSWORD_ALGORITHM USERHASH text a.userhash (from_algorithms a) refl
    ∙ (passed PASSWORD_ALGORITHM PASSWORD_ALGORITHMS listing a.algorithms (from_algorithm a) refl
    ∙ here PASSWORD_ALGORITHM entry a.algorithm (from_integrity a) refl
    (none_integrity PASSWORD_ALGORITHM a)))))

last-algorithms : (a : Added)
    → added_last PASSWORD_ALGORITHMS (additions_of a) ≡ option_map password_algorithms a.algorithms
last-algorithms a =
    passed PASSWORD_ALGORITHMS NONCE text a.nonce (from_realm a) refl
    ∙ (passed PASSWORD_ALGORITHMS REALM text a.realm (from_username a) refl
    ∙ (passed PASSWORD_ALGORITHMS USERNAME text a.username (from_userhash a) refl
    ∙ (passed PASSWORD_ALGORITHMS USERHASH text a.userhash (from_algorithms a) refl
    ∙ here PASSWORD_ALGORITHMS listing a.algorithms (from_algorithm a) refl
    (none_algorithm PASSWORD_ALGORITHMS a refl))))

last-userhash : (a : Added)
    → added_last USERHASH (additions_of a) ≡ option_map (typed_as USERHASH) a.userhash
last-userhash a =
    passed USERHASH NONCE text a.nonce (from_realm a) refl
    ∙ (passed USERHASH REALM text a.realm (from_username a) refl
    ∙ (passed USERHASH USERNAME text a.username (from_userhash a) refl
    ∙ here USERHASH text a.userhash (from_algorithms a) refl
    (none_algorithms USERHASH a refl refl)))

last-username : (a : Added)
    → added_last USERNAME (additions_of a) ≡ option_map (typed_as USERNAME) a.username
last-username a =
    passed USERNAME NONCE text a.nonce (from_realm a) refl
    ∙ (passed USERNAME REALM text a.realm (from_username a) refl
    ∙ here USERNAME text a.username (from_userhash a) refl
    (none_userhash USERNAME a refl refl refl))

last-realm : (a : Added) → added_last REALM (additions_of a) ≡ option_map (typed_as REALM) a.realm
last-realm a =
    passed REALM NONCE text a.nonce (from_realm a) refl
    ∙ here REALM text a.realm (from_username a) refl
    (passed REALM USERNAME text a.username (from_userhash a) refl
    ∙ none_userhash REALM a refl refl refl)

last-nonce : (a : Added) → added_last NONCE (additions_of a) ≡ option_map (typed_as NONCE) a.nonce
last-nonce a =
    here NONCE text a.nonce (from_realm a) refl
    (passed NONCE REALM text a.realm (from_username a) refl
    ∙ (passed NONCE USERNAME text a.username (from_userhash a) refl
    ∙ none_userhash NONCE a refl refl refl))

last-error : (a : Added) → added_last ERROR_CODE (additions_of a) ≡ None
last-error a =
    passed ERROR_CODE NONCE text a.nonce (from_realm a) refl
    ∙ (passed ERROR_CODE REALM text a.realm (from_username a) refl
    ∙ (passed ERROR_CODE USERNAME text a.username (from_userhash a) refl
    ∙ none_userhash ERROR_CODE a refl refl refl))

-- the digest
unprotected : {A : Type 0} (own : ℕ) (value : A → List ℕ) (o : Option A) (others : List Addition)
    → protection_in (if_there (λ x. attribute (typed_as own (value x))) o others)
    ≡ protection_in others
unprotected own value None others = refl
unprotected own value (Some x) others = refl

protection-integrity : (o : Option Protection)
    → protection_in (if_there (λ (p : Protection). integrity p.algorithm p.key) o []) ≡ o
protection-integrity None = refl
protection-integrity (Some p) = refl

pub protection-additions : (a : Added) → protection_in (additions_of a) ≡ a.integrity
protection-additions a =
    unprotected NONCE text a.nonce (from_realm a)
    ∙ (unprotected REALM text a.realm (from_username a)
    ∙ (unprotected USERNAME text a.username (from_userhash a)
    ∙ (unprotected USERHASH text a.userhash (from_algorithms a)
    ∙ (unprotected PASSWORD_ALGORITHMS listing a.algorithms (from_algorithm a)
    ∙ (unprotected PASSWORD_ALGORITHM entry a.algorithm (from_integrity a)
    ∙ protection-integrity a.integrity)))))

-- the types of all have 16 bits
typed_if_there : {A : Type 0} (own : ℕ) (value : A → List ℕ) (o : Option A) (others : List Addition)
    → own < 2 ^ 16 → AllByRecursion IsTyped others
    → AllByRecursion IsTyped (if_there (λ x. attribute (typed_as own (value x))) o others)
typed_if_there own value None others small all = all
typed_if_there own value (Some x) others small all = (small, all)

typed-integrity : (o : Option Protection)
    → AllByRecursion IsTyped (if_there (λ (p : Protection). integrity p.algorithm p.key) o [])
typed-integrity None = tt
typed-integrity (Some p) = (tt, tt)

pub typed-additions : (a : Added) → AllByRecursion IsTyped (additions_of a)
typed-additions a =
    typed_if_there NONCE text a.nonce (from_realm a) (omega arith)
    (typed_if_there REALM text a.realm (from_username a) (omega arith)
    (typed_if_there USERNAME text a.username (from_userhash a) (omega arith)
    (typed_if_there USERHASH text a.userhash (from_algorithms a) (omega arith)
    (typed_if_there PASSWORD_ALGORITHMS listing a.algorithms (from_algorithm a) (omega arith)
    (typed_if_there PASSWORD_ALGORITHM entry a.algorithm (from_integrity a) (omega arith)
    (typed-integrity a.integrity))))))

-- ---- what an attribute of a type reads as

pub by_value : {A : Type 0} (reading : TypedValue → Option A) (found : Option Member)
    → option_and_then (λ (m : Member). reading m.1) found
    ≡ option_and_then reading (option_map (λ (m : Member). m.1) found)
by_value reading None = refl
by_value reading (Some m) = refl

-- a type that is not among attributes has no last one
none_last : (kind : ℕ) (members : List Member) → has_kind kind members ≡ false
    → last_of kind members ≡ None
none_last kind [] none = refl
none_last kind (m ∷ members) none =
    let parts = or_none (m.1.kind == kind) (has_kind kind members) none in
    last_of-cons kind m members ∙ rw (parts.0, none_last kind members parts.1) refl

pub none_before : WritingLaws → (kind : ℕ) (message : List ℕ) → IsOpen message
    → has_kind kind (walk message) ≡ false → last_value kind message ≡ None
none_before laws kind message is_open none =
    ap (option_map (λ (m : Member). m.1))
    (ap (last_of kind) (laws.shown message is_open) ∙ none_last kind (walk message) none)

-- an attribute that was not there before is read as what was added
pub read_added : {A : Type 0} (reading : TypedValue → Option A) (kind : ℕ) (message : List ℕ)
    (list : List Addition) (bytes : List ℕ) (o : Option TypedValue)
    → IsReadBack message list bytes → is_set_apart kind ≡ false → last_value kind message ≡ None
    → added_last kind list ≡ o
    → last reading kind bytes ≡ option_and_then reading o
read_added reading kind message list bytes o back apart none is =
    by_value reading (last_of kind (visible bytes))
    ∙ ap (option_and_then reading)
    (back kind apart
    ∙ (ap (option_or (added_last kind list)) none ∙ (or_nothing (added_last kind list) ∙ is)))

-- texts, hash and algorithms that are written are read again
text_again : (kind most : ℕ) (o : Option (List ℕ))
    → IfSome o (λ bytes. IsUtf8 bytes × (length bytes ≤ most))
    → option_and_then (text_of kind most) (option_map (typed_as kind) o) ≡ o
text_again kind most None fits = refl
text_again kind most (Some bytes) fits = text_of-written kind most bytes fits

hash_again : (o : Option (List ℕ)) → IfSome o (λ hash. length hash ≡ 32)
    → option_and_then hash_of (option_map (typed_as USERHASH) o) ≡ o
hash_again None fits = refl
hash_again (Some hash) fits = hash_of-written hash fits

integrity_again : (list : List IntegrityAlgorithm)
    → map integrity_of (map password_algorithm_of list) ≡ list
integrity_again [] = refl
integrity_again (Sha1 ∷ list) = ap (λ others. Sha1 ∷ others) (integrity_again list)
integrity_again (Sha256 ∷ list) = ap (λ others. Sha256 ∷ others) (integrity_again list)

list_again : (o : Option (List IntegrityAlgorithm))
    → option_map (map integrity_of)
    (option_and_then password_algorithms_in (option_map password_algorithms o)) ≡ o
list_again None = refl
list_again (Some list) =
    ap (option_map (map integrity_of))
    (password_algorithms_in-written (map password_algorithm_of list) tt)
    ∙ ap (λ xs. Some xs) (integrity_again list)

pub algorithm_again : (o : Option IntegrityAlgorithm)
    → option_map integrity_of
    (option_and_then password_algorithm_in (option_map password_algorithm o)) ≡ o
algorithm_again None = refl
algorithm_again (Some Sha1) = refl
algorithm_again (Some Sha256) = refl

-- ---- what was written is within its limits

short_there : {A : Type 0} (own : ℕ) (value : A → List ℕ) (o : Option A) (others : List Addition)
    → AllByRecursion IsShort (if_there (λ x. attribute (typed_as own (value x))) o others)
    → IfSome o (λ x. is_text_too_long (typed_as own (value x)) ≡ false)
    × AllByRecursion IsShort others
short_there own value None others all = (tt, all)
short_there own value (Some x) others all = (all.0, all.1)

within-nonce : (o : Option (List ℕ))
    → IfSome o (λ x. is_text_too_long (typed_as NONCE (text x)) ≡ false)
    → IfSome o (λ bytes. length bytes ≤ 763)
within-nonce None short = tt
within-nonce (Some bytes) short = not_above 763 (length bytes) short

within-realm : (o : Option (List ℕ))
    → IfSome o (λ x. is_text_too_long (typed_as REALM (text x)) ≡ false)
    → IfSome o (λ bytes. length bytes ≤ 763)
within-realm None short = tt
within-realm (Some bytes) short = not_above 763 (length bytes) short

within-username : (o : Option (List ℕ))
    → IfSome o (λ x. is_text_too_long (typed_as USERNAME (text x)) ≡ false)
    → IfSome o (λ bytes. length bytes ≤ 513)
within-username None short = tt
within-username (Some bytes) short =
    not_above 513 (length bytes) (or_none (nat_lt 513 (length bytes)) false short).0

pub written-within : (a : Added) (page done : Page) → added_all (additions_of a) page ≡ Ok done
    → IsWithinLimits a
written-within a page done is =
    let nonce =
    short_there NONCE text a.nonce (from_realm a) (all_short (additions_of a) page done is) in
    let realm = short_there REALM text a.realm (from_username a) nonce.1 in
    let username = short_there USERNAME text a.username (from_userhash a) realm.1 in
    record {
      nonce = within-nonce a.nonce nonce.0;
      realm = within-realm a.realm realm.0;
      username = within-username a.username username.0;
    }

both_there : {A : Type 0} (o : Option A) (P Q : A → Type 0) → IfSome o P → IfSome o Q
    → IfSome o (λ x. P x × Q x)
both_there None P Q p q = tt
both_there (Some x) P Q p q = (p, q)

-- ---- the whole reading
pub reads_as : WritingLaws → (a : Added) (message : List ℕ) (room : ℕ) (page : Page)
    → IsUnsigned message → IsText a
    → added_all (additions_of a) (record { bytes = message; room = room }) ≡ Ok page
    → ReadsAs (class_in message) (error_code message) a (reading_of page.bytes)
unfolding reading_of
reads_as laws a message room page unsigned texts done =
    let bytes = page.bytes in
    let list = additions_of a in
    let within = written-within a (record { bytes = message; room = room }) page done in
    let is_open = unsigned.is_open in
    let added = has_added laws list message room page is_open (typed-additions a) done in
    let back = read_back message list bytes added in
    let none = unsigned.none in
    let protection = protection-additions a in
    let same_class : class_in bytes ≡ class_in message = ap class_of added.type_is in
    let same_error : last error_of ERROR_CODE bytes ≡ last error_of ERROR_CODE message =
    by_value error_of (last_of ERROR_CODE (visible bytes))
    ∙ (ap (option_and_then error_of)
    (back ERROR_CODE refl
    ∙ ap (λ found. option_or found (last_value ERROR_CODE message)) (last-error a))
    ∙ sym (by_value error_of (last_of ERROR_CODE (visible message)))) in
    record {
      class_is = same_class;
      error_is = λ i. if is_error (same_class i)
          then option_map (λ (e : CodeAndReason). e.code) (same_error i) else None;
      realm_is =
          read_added (text_of REALM 763) REALM message list bytes
          (option_map (typed_as REALM) a.realm) back refl
          (none_before laws REALM message is_open none.1.0) (last-realm a)
          ∙ text_again REALM 763 a.realm
          (both_there a.realm IsUtf8 (λ bytes. length bytes ≤ 763) texts.realm within.realm);
      nonce_is =
          read_added (text_of NONCE 763) NONCE message list bytes
          (option_map (typed_as NONCE) a.nonce) back refl
          (none_before laws NONCE message is_open none.0) (last-nonce a)
          ∙ text_again NONCE 763 a.nonce
          (both_there a.nonce IsUtf8 (λ bytes. length bytes ≤ 763) texts.nonce within.nonce);
      username_is =
          read_added (text_of USERNAME 513) USERNAME message list bytes
          (option_map (typed_as USERNAME) a.username) back refl
          (none_before laws USERNAME message is_open none.1.1.0) (last-username a)
          ∙ text_again USERNAME 513 a.username
          (both_there a.username IsUtf8 (λ bytes. length bytes ≤ 513) texts.username
          within.username);
      userhash_is =
          read_added hash_of USERHASH message list bytes (option_map (typed_as USERHASH) a.userhash)
          back refl
          (none_before laws USERHASH message is_open none.1.1.1.0) (last-userhash a)
          ∙ hash_again a.userhash texts.userhash;
      algorithms_are =
          ap (option_map (map integrity_of))
          (read_added password_algorithms_in PASSWORD_ALGORITHMS message list bytes
          (option_map password_algorithms a.algorithms) back refl
          (none_before laws PASSWORD_ALGORITHMS message is_open none.1.1.1.1.0) (last-algorithms a))
          ∙ list_again a.algorithms;
      algorithm_is =
          ap (option_map integrity_of)
          (read_added password_algorithm_in PASSWORD_ALGORITHM message list bytes
          (option_map password_algorithm a.algorithm) back refl
          (none_before laws PASSWORD_ALGORITHM message is_open none.1.1.1.1.1.0) (last-algorithm a))
          ∙ algorithm_again a.algorithm;
      integrity_is = is_some-cond (has_visible_integrity bytes) (verified_algorithm bytes)
          ∙ (added.integrity_is ∙ ap is_some protection);
      digest_verifies = λ p is.
          let has : has_visible_integrity bytes ≡ true = added.integrity_is
          ∙ ap is_some (protection ∙ is) in
          ap (λ holds.
          option_and_then (λ (verify : List ℕ → Option IntegrityAlgorithm). verify p.key)
          (if holds then Some (verified_algorithm bytes) else None)) has
          ∙ added.digest_verifies p (protection ∙ is);
    }

-- of a message that was built, class and error code are what it was built with
pub reads_built : (a : Added) (message : List ℕ) (class : MessageClass) (error : Option ℕ)
    (page : Page) → IsBuilt message class error
    → ReadsAs (class_in message) (error_code message) a (reading_of page.bytes)
    → ReadsAs class error a (reading_of page.bytes)
reads_built a message class error page built reads =
    subst (λ (e : Option ℕ). ReadsAs class e a (reading_of page.bytes)) built.error_is
    (subst (λ (k : MessageClass). ReadsAs k (error_code message) a (reading_of page.bytes))
    built.class_is reads)

-- What additions leave, one after another: each adds its attribute, and nothing is added after a
-- digest.
use Rattle.std.proofs.Common.{◌≡◌, ℕ, ◌-◌, ◌≤◌, Bool, true, false, List, [], ◌∷◌}
use Rattle.std.proofs.Common.{◌++◌, length, Ok, refl, sym, ◌∙◌, ap, subst, arith}
use Rattle.std.specs.Prelude.{Option, Some, None, nat_lt, find, ◌==◌, ◌||◌, if◌then◌else◌}
use Rattle.std.specs.List.{AllByRecursion}
use Rattle.std.specs.Option.{is_some}
use Rattle.std.proofs.lemmas.List.{append-nil, append_assoc}
use Rattle.std.proofs.lemmas.List.Folds.{find-append, list_any-append}
use Rattle.stun_base.specs.Algorithm.{digest_length}
use Rattle.stun_base.specs.code.Algorithm.{length-digest}
use Rattle.stun_base.specs.Attributes.{MESSAGE_INTEGRITY, MESSAGE_INTEGRITY_SHA256}
use Rattle.stun_base.specs.declared.keys.algorithm.IntegrityAlgorithm.{IntegrityAlgorithm}
use Rattle.stun_base.specs.declared.keys.algorithm.IntegrityAlgorithm.TheVariants.{Sha1, Sha256}
use Rattle.stun_base.specs.declared.wire.error.StunWriteError.{StunWriteError}
use Rattle.stun_base.specs.declared.wire.error.StunWriteError.TheVariants.{NotAllowed}
use Rattle.stun_base.specs.declared.wire.error.StunWriteError.TheVariants.{MessageIntegrityExists}
use Rattle.stun_base.specs.declared.wire.error.StunWriteError.TheVariants.{AttributeExists}
use Rattle.stun_base.specs.declared.wire.error.StunWriteError.TheVariants.{TooLarge, TooSmall}
use Rattle.stun_types.specs.Attribute.{TypedValue, attribute_length}
use Rattle.stun_types.specs.Integrity.{is_integrity, verified_algorithm}
use Rattle.stun_types.specs.Visible.{has_kind, visible}
use Rattle.stun_types.specs.Walk.{Member, walk}
use Rattle.stun_types.specs.Writing.{HasOneMore, IsAddable, IsOpen, attribute_refusal}
use Rattle.stun_types.specs.Writing.{covered_at_end, has_integrity as has_integrity_attribute}
use Rattle.stun_types.specs.Writing.{integrity_attribute, integrity_kind, is_set_apart}
use Rattle.stun_types.specs.Writing.{length_with, max_length, signing_refusal, size_refusal}
use Rattle.stun_types.specs.Writing.{with_attribute, with_integrity}
use Rattle.stun_judging.specs.Additions.{Addition, attribute, integrity, Page, added_all}
use Rattle.stun_judging.specs.Additions.{added_one, after, growth_of, is_text_too_long}
use Rattle.stun_judging.specs.Additions.{addition_refusal, page_unless_refused, with_addition}
use Rattle.stun_judging.specs.Joined.{HasAdded, IsTyped, Protection, added_members}

-- what writing one attribute does
pub record WritingLaws : Type 0 where
  pub shown : (message : List ℕ) → IsOpen message → visible message ≡ walk message
  pub added : (message : List ℕ) (a : TypedValue) → IsOpen message → IsAddable message a
      → HasOneMore message (with_attribute message a) a
  pub opened : (message : List ℕ) (a : TypedValue) → IsOpen message → IsAddable message a
      → is_set_apart a.kind ≡ false → IsOpen (with_attribute message a)
  pub stands_signed : (message : List ℕ) (algorithm : IntegrityAlgorithm) (key : List ℕ)
      → IsOpen message
      → length_with message (digest_length algorithm) ≤ max_length
      → verified_algorithm (with_integrity message algorithm key) key ≡ Some algorithm
  pub signed : (message : List ℕ) (algorithm : IntegrityAlgorithm) (key : List ℕ) → IsOpen message
      → length_with message (digest_length algorithm) ≤ max_length
      → HasOneMore message (with_integrity message algorithm key)
      (integrity_attribute message algorithm key)

-- a test that refuses does not hold where nothing is refused
unrefused : {E : Type 0} (refuses : Bool) (reason : E) (rest : Option E)
    → (if refuses then Some reason else rest) ≡ None → (refuses ≡ false) × (rest ≡ None)
unrefused true reason rest none = absurd (cc)
unrefused false reason rest none = (refl, none)

pub not_above : (a b : ℕ) → nat_lt a b ≡ false → b ≤ a
not_above a b none = grind (arith, none)

pub or_none : (a b : Bool) → (a || b) ≡ false → (a ≡ false) × (b ≡ false)
or_none false b none = (refl, none)
or_none true b none = absurd (cc)

-- a value that is not refused fits
fitting : (message : List ℕ) (room n : ℕ) → size_refusal message room n ≡ None
    → length_with message n ≤ max_length
fitting message room n none =
    let short =
    unrefused (nat_lt max_length (length_with message n)) TooLarge
    (if nat_lt room (attribute_length n) then Some TooSmall else None) none in
    not_above max_length (length_with message n) short.0

-- and has room
roomy : (message : List ℕ) (room n : ℕ) → size_refusal message room n ≡ None
    → attribute_length n ≤ room
roomy message room n none =
    let short =
    unrefused (nat_lt max_length (length_with message n)) TooLarge
    (if nat_lt room (attribute_length n) then Some TooSmall else None) none in
    not_above room (attribute_length n)
    (unrefused (nat_lt room (attribute_length n)) TooSmall None short.1).0

-- what holds of an attribute that is not refused
pub record IsTaken (message : List ℕ) (room : ℕ) (a : TypedValue) : Type 0 where
  pub short : is_text_too_long a ≡ false
  pub apart : is_set_apart a.kind ≡ false
  pub unsigned : has_integrity_attribute message ≡ false
  pub fresh : has_kind a.kind (walk message) ≡ false
  pub fits : length_with message (length a.value) ≤ max_length
  pub enough : attribute_length (length a.value) ≤ room

pub taken : (message : List ℕ) (room : ℕ) (a : TypedValue)
    → addition_refusal (attribute a) (record { bytes = message; room = room }) ≡ None
    → IsTaken message room a
taken message room a none =
    let n = length a.value in
    let size = size_refusal message room n in
    let fresh : Option StunWriteError = if has_kind a.kind (walk message)
    then Some (AttributeExists (record { 0 = a.kind })) else size in
    let unsigned : Option StunWriteError = if has_integrity_attribute message
    then Some MessageIntegrityExists else fresh in
    let long = unrefused (is_text_too_long a) TooLarge
    (attribute_refusal message room a.kind n) none in
    let apart = unrefused (is_set_apart a.kind) NotAllowed unsigned long.1 in
    let signed = unrefused (has_integrity_attribute message) MessageIntegrityExists fresh apart.1 in
    let exists =
    unrefused (has_kind a.kind (walk message)) (AttributeExists (record { 0 = a.kind })) size
    signed.1 in
    record {
      short = long.0;
      apart = apart.0;
      unsigned = signed.0;
      fresh = exists.0;
      fits = fitting message room n exists.1;
      enough = roomy message room n exists.1;
    }

-- a digest that is not refused
pub record IsTakenDigest (message : List ℕ) (room : ℕ)
    (algorithm : IntegrityAlgorithm) : Type 0 where
  pub unsigned : has_integrity_attribute message ≡ false
  pub fits : length_with message (digest_length algorithm) ≤ max_length
  pub enough : attribute_length (digest_length algorithm) ≤ room

pub taken_digest : (message : List ℕ) (room : ℕ) (algorithm : IntegrityAlgorithm)
    → signing_refusal message room algorithm ≡ None → IsTakenDigest message room algorithm
taken_digest message room algorithm none =
    let size = size_refusal message room (digest_length algorithm) in
    let signed = unrefused (has_integrity_attribute message) MessageIntegrityExists size none in
    record {
      unsigned = signed.0;
      fits = fitting message room (digest_length algorithm) signed.1;
      enough = roomy message room (digest_length algorithm) signed.1;
    }

-- what a success says of its first addition: it is not refused, and the others succeed after it
pub record FirstIsAdded (addition : Addition) (others : List Addition)
    (page done : Page) : Type 0 where
  pub accepted : addition_refusal addition page ≡ None
  pub rest :
      added_all others
      (record {
        bytes = with_addition addition page.bytes;
        room = page.room - growth_of addition;
      })
      ≡ Ok done

pub first_added : (addition : Addition) (others : List Addition) (page done : Page)
    → added_all (addition ∷ others) page ≡ Ok done → FirstIsAdded addition others page done
unfolding added_one
first_added addition others page done is =
    let next : Page =
    record { bytes = with_addition addition page.bytes; room = page.room - growth_of addition } in
    elim (addition_refusal addition page) as (λ refused. addition_refusal addition page ≡ refused
    → after (page_unless_refused refused next) (added_all others) ≡ Ok done
    → FirstIsAdded addition others page done) [
      | None ↦ λ accepted is. record { accepted = accepted; rest = is }
      | Some reason ↦ λ refused is. absurd (cc)
    ] refl is

-- nothing is added after a digest
refused_behind : (addition : Addition) (message : List ℕ) (room : ℕ)
    → has_integrity_attribute message ≡ true
    → addition_refusal addition (record { bytes = message; room = room }) ≡ None → ⊥
refused_behind (attribute a) message room signed none =
    let unsigned = (taken message room a none).unsigned in cc
refused_behind (integrity algorithm key) message room signed none =
    let unsigned = (taken_digest message room algorithm none).unsigned in cc

all_refused_behind : (addition : Addition) (others : List Addition) (message : List ℕ)
    (room : ℕ) (page : Page) → has_integrity_attribute message ≡ true
    → added_all (addition ∷ others) (record { bytes = message; room = room }) ≡ Ok page → ⊥
all_refused_behind addition others message room page signed done =
    let here : Page = record { bytes = message; room = room } in
    refused_behind addition message room signed
    (first_added addition others here page done).accepted

-- the integrity attribute is there once it is added
signed_has : (message longer : List ℕ) (algorithm : IntegrityAlgorithm) (value : List ℕ)
    → walk longer
    ≡ walk message ++ (length message, record { kind = integrity_kind algorithm; value = value })
    ∷ [] → IsOpen message → has_integrity_attribute longer ≡ true
signed_has message longer Sha1 value walked is_open =
    let last : Member = (length message, record { kind = MESSAGE_INTEGRITY; value = value }) in
    let none =
    or_none (has_kind MESSAGE_INTEGRITY (walk message))
    (has_kind MESSAGE_INTEGRITY_SHA256 (walk message)) is_open.no_integrity in
    let weaker =
    list_any-append (λ (m : Member). m.1.kind == MESSAGE_INTEGRITY) (walk message) (last ∷ []) in
    rw (walked, weaker, none.0) refl
signed_has message longer Sha256 value walked is_open =
    let last : Member =
    (length message, record { kind = MESSAGE_INTEGRITY_SHA256; value = value }) in
    let none =
    or_none (has_kind MESSAGE_INTEGRITY (walk message))
    (has_kind MESSAGE_INTEGRITY_SHA256 (walk message)) is_open.no_integrity in
    let weaker =
    list_any-append (λ (m : Member). m.1.kind == MESSAGE_INTEGRITY) (walk message) (last ∷ []) in
    let stronger =
    list_any-append (λ (m : Member). m.1.kind == MESSAGE_INTEGRITY_SHA256) (walk message)
    (last ∷ []) in
    rw (walked, weaker, stronger, none.0, none.1) refl

-- where no attribute has one of the two types, none is found
none_found : (members : List Member) → has_kind MESSAGE_INTEGRITY members ≡ false
    → has_kind MESSAGE_INTEGRITY_SHA256 members ≡ false
    → find (λ (m : Member). is_integrity m.1) members ≡ None
none_found [] weaker stronger = refl
none_found (m ∷ members) weaker stronger =
    let weak =
    or_none (m.1.kind == MESSAGE_INTEGRITY) (has_kind MESSAGE_INTEGRITY members) weaker in
    let strong =
    or_none (m.1.kind == MESSAGE_INTEGRITY_SHA256) (has_kind MESSAGE_INTEGRITY_SHA256 members)
    stronger in
    rw (weak.0, strong.0) (none_found members weak.1 strong.1)

none_open : WritingLaws → (message : List ℕ) → IsOpen message
    → find (λ (m : Member). is_integrity m.1) (visible message) ≡ None
none_open laws message is_open =
    let none =
    or_none (has_kind MESSAGE_INTEGRITY (walk message))
    (has_kind MESSAGE_INTEGRITY_SHA256 (walk message)) is_open.no_integrity in
    ap (find (λ (m : Member). is_integrity m.1)) (laws.shown message is_open)
    ∙ none_found (walk message) none.0 none.1

-- the integrity attribute that is written is well formed
well_formed : (message : List ℕ) (algorithm : IntegrityAlgorithm) (key : List ℕ)
    → is_integrity (integrity_attribute message algorithm key) ≡ true
well_formed message Sha1 key = rw (length-digest Sha1 key (covered_at_end message Sha1)) refl
well_formed message Sha256 key = rw (length-digest Sha256 key (covered_at_end message Sha256)) refl

-- nothing added
nothing : WritingLaws → (message : List ℕ) → IsOpen message → HasAdded message [] message
nothing laws message is_open = record {
  is_message = is_open.is_message;
  type_is = refl;
  transaction_id_is = refl;
  visible_is = sym (append-nil (visible message));
  integrity_is = ap is_some (none_open laws message is_open);
  is_open = λ none. is_open;
  digest_verifies = λ p some. absurd (cc);
}

-- one attribute, and then others
attribute_first : (message longer : List ℕ) (a : TypedValue) (others : List Addition)
    → HasOneMore message (with_attribute message a) a
    → HasAdded (with_attribute message a) others longer
    → HasAdded message (attribute a ∷ others) longer
attribute_first message longer a others one rest = record {
  is_message = rest.is_message;
  type_is = rest.type_is ∙ one.type_is;
  transaction_id_is = rest.transaction_id_is ∙ one.transaction_id_is;
  visible_is = rest.visible_is
      ∙ (ap (λ ms. ms ++ added_members (with_attribute message a) others) one.visible_is
      ∙ append_assoc (visible message) ((length message, a) ∷ [])
      (added_members (with_attribute message a) others));
  integrity_is = rest.integrity_is;
  is_open = rest.is_open;
  digest_verifies = rest.digest_verifies;
}

-- a digest at the end
digest_last : WritingLaws → (message : List ℕ) (algorithm : IntegrityAlgorithm) (key : List ℕ)
    → IsOpen message → length_with message (digest_length algorithm) ≤ max_length
    → HasAdded message (integrity algorithm key ∷ []) (with_integrity message algorithm key)
digest_last laws message algorithm key is_open fits =
    let one = laws.signed message algorithm key is_open fits in
    let last : Member = (length message, integrity_attribute message algorithm key) in
    let stood = laws.stands_signed message algorithm key is_open fits in
    let found : find (λ (m : Member). is_integrity m.1)
    (visible (with_integrity message algorithm key)) ≡ Some last =
    ap (find (λ (m : Member). is_integrity m.1)) one.visible_is
    ∙ (find-append (λ (m : Member). is_integrity m.1) (visible message) (last ∷ [])
    ∙ rw (none_open laws message is_open, well_formed message algorithm key) refl) in
    record {
      is_message = one.is_message;
      type_is = one.type_is;
      transaction_id_is = one.transaction_id_is;
      visible_is = one.visible_is;
      integrity_is = ap is_some found;
      is_open = λ none. absurd (cc);
      digest_verifies = λ p is.
          let same : record { algorithm = algorithm; key = key } ≡ p =
          (let h : Some (record { algorithm = algorithm; key = key }) ≡ Some p = is in cc) in
          subst (λ (q : Protection). verified_algorithm (with_integrity message algorithm key) q.key
          ≡ Some q.algorithm) same stood;
    }

-- no addition succeeds after a digest
pub behind_digest : WritingLaws → (algorithm : IntegrityAlgorithm) (key : List ℕ)
    (other : Addition) (others : List Addition) (message : List ℕ) (room : ℕ) (page : Page)
    → IsOpen message
    → added_all (integrity algorithm key ∷ other ∷ others)
    (record { bytes = message; room = room }) ≡ Ok page → ⊥
behind_digest laws algorithm key other others message room page is_open done =
    let here : Page = record { bytes = message; room = room } in
    let first = first_added (integrity algorithm key) (other ∷ others) here page done in
    let one =
    laws.signed message algorithm key is_open
    (taken_digest message room algorithm first.accepted).fits in
    let signed =
    signed_has message (with_integrity message algorithm key) algorithm
    (integrity_attribute message algorithm key).value one.walk_is is_open in
    all_refused_behind other others (with_integrity message algorithm key)
    (room - growth_of (integrity algorithm key)) page signed first.rest

-- what successful additions leave
pub has_added : WritingLaws → (list : List Addition) (message : List ℕ) (room : ℕ) (page : Page)
    → IsOpen message → AllByRecursion IsTyped list
    → added_all list (record { bytes = message; room = room }) ≡ Ok page
    → HasAdded message list page.bytes
has_added laws [] message room page is_open typed done =
    let same : record { bytes = message; room = room } ≡ page = cc in
    subst (λ (p : Page). HasAdded message [] p.bytes) same (nothing laws message is_open)
has_added laws (attribute a ∷ others) message room page is_open typed done =
    let here : Page = record { bytes = message; room = room } in
    let first = first_added (attribute a) others here page done in
    let facts = taken message room a first.accepted in
    let addable : IsAddable message a = record { kind = typed.0; value = facts.fits } in
    attribute_first message page.bytes a others (laws.added message a is_open addable)
    (has_added laws others (with_attribute message a) (room - growth_of (attribute a)) page
    (laws.opened message a is_open addable facts.apart) typed.1 first.rest)
has_added laws (integrity algorithm key ∷ []) message room page is_open typed done =
    let here : Page = record { bytes = message; room = room } in
    let next : Page =
    record {
      bytes = with_integrity message algorithm key;
      room = room - growth_of (integrity algorithm key);
    } in
    let first = first_added (integrity algorithm key) [] here page done in
    let same : next ≡ page = let h : added_all [] next ≡ Ok page = first.rest in cc in
    subst (λ (p : Page). HasAdded message (integrity algorithm key ∷ []) p.bytes) same
    (digest_last laws message algorithm key is_open
    (taken_digest message room algorithm first.accepted).fits)
has_added laws (integrity algorithm key ∷ other ∷ others) message room page is_open typed done =
    absurd (behind_digest laws algorithm key other others message room page is_open done)

-- a text that is added is within its limit
abbrev pub IsShort : Addition → Type 0
IsShort (attribute a) = is_text_too_long a ≡ false
IsShort (integrity algorithm key) = Unit {0}

short_one : (addition : Addition) (page : Page) → addition_refusal addition page ≡ None
    → IsShort addition
short_one (attribute a) page accepted = (taken page.bytes page.room a accepted).short
short_one (integrity algorithm key) page accepted = tt

pub all_short : (list : List Addition) (page done : Page) → added_all list page ≡ Ok done
    → AllByRecursion IsShort list
all_short [] page done is = tt
all_short (addition ∷ others) page done is =
    let first = first_added addition others page done is in (
      short_one addition page first.accepted,
      all_short others _ done first.rest,
    )

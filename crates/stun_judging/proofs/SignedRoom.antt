-- Signing succeeds where there is room for what it adds.
use Rattle.std.proofs.Common.{◌≡◌, ℕ, ◌+◌, ◌-◌, ◌≤◌, ◌<◌, ◌^◌, Bool, false, List}
use Rattle.std.proofs.Common.{[], ◌∷◌, ◌++◌, length, Ok, refl, ◌∙◌, ap, arith}
use Rattle.std.specs.Prelude.{Option, Some, None, nat_lt, sum_by, ◌==◌, if◌then◌else◌}
use Rattle.std.specs.List.{AllByRecursion}
use Rattle.std.specs.Option.{IfSome}
use Rattle.std.proofs.lemmas.List.Folds.{list_any-append}
use Rattle.std.proofs.lemmas.List.Sums.{sum_by-append, sum_by-cons}
use Rattle.stun_base.specs.Algorithm.{digest_length}
use Rattle.stun_base.specs.Attributes.{NONCE, PASSWORD_ALGORITHM, PASSWORD_ALGORITHMS}
use Rattle.stun_base.specs.Attributes.{REALM, USERHASH, USERNAME}
use Rattle.stun_base.specs.declared.wire.error.StunWriteError.{StunWriteError}
use Rattle.stun_base.specs.declared.wire.error.StunWriteError.TheVariants.{NotAllowed}
use Rattle.stun_base.specs.declared.wire.error.StunWriteError.TheVariants.{MessageIntegrityExists}
use Rattle.stun_base.specs.declared.wire.error.StunWriteError.TheVariants.{AttributeExists}
use Rattle.stun_base.specs.declared.wire.error.StunWriteError.TheVariants.{TooLarge, TooSmall}
use Rattle.stun_types.specs.Attribute.{TypedValue, attribute_length}
use Rattle.stun_types.specs.Message.{IsMessage}
use Rattle.stun_types.specs.Visible.{has_kind}
use Rattle.stun_types.specs.Walk.{Member, walk}
use Rattle.stun_types.specs.Writing.{HasOneMore, IsAddable, IsOpen}
use Rattle.stun_types.specs.Writing.{has_integrity as has_integrity_attribute, is_set_apart}
use Rattle.stun_types.specs.Writing.{length_with, max_length, signing_refusal, size_refusal}
use Rattle.stun_types.specs.Writing.{with_attribute, with_integrity}
use Rattle.stun_judging.specs.Additions.{Addition, attribute, integrity, Page}
use Rattle.stun_judging.specs.Additions.{added_all, added_one, after, growth, growth_of}
use Rattle.stun_judging.specs.Additions.{is_text_too_long, addition_refusal, page_unless_refused}
use Rattle.stun_judging.specs.Joined.{Protection, page_after}
use Rattle.stun_judging.specs.Signed.{Added, HasRoomFor, IsSignable, IsUnsigned, IsWithinLimits}
use Rattle.stun_judging.specs.Signed.{added_kinds, additions_of, if_there, kinds_in}
use Rattle.stun_judging.proofs.JoinedLemmas.{WritingLaws}
use Rattle.stun_judging.proofs.SignedReading.{entry, from_algorithm, from_algorithms}
use Rattle.stun_judging.proofs.SignedReading.{from_integrity, from_realm, from_userhash}
use Rattle.stun_judging.proofs.SignedReading.{from_username, listing, text, typed_as}

-- additions that succeed
abbrev Succeeds : List Addition → List ℕ → ℕ → Type 0
Succeeds list message room =
    added_all list (record { bytes = message; room = room })
    ≡ Ok (page_after list (record { bytes = message; room = room }))

-- what additions find: room and field for all of them, and none of their types
pub record IsReady (message : List ℕ) (room : ℕ) (list : List Addition) : Type 0 where
  pub is_open : IsOpen message
  pub fresh : AllByRecursion (λ kind. has_kind kind (walk message) ≡ false) (kinds_in list)
  pub field : length message - 20 + growth list ≤ 65532
  pub room_is : growth list ≤ room

-- a test that does not refuse is passed
allowed : {E : Type 0} (refuses : Bool) (reason : E) (rest : Option E) → refuses ≡ false
    → rest ≡ None → (if refuses then Some reason else rest) ≡ None
allowed refuses reason rest passes none = ap (λ b. if b then Some reason else rest) passes ∙ none

below : (a b : ℕ) → b ≤ a → nat_lt a b ≡ false
below a b within = grind (arith, within)

fitting : (message : List ℕ) (room n : ℕ) → length message - 20 + attribute_length n ≤ 65532
    → attribute_length n ≤ room → size_refusal message room n ≡ None
fitting message room n field enough =
    allowed (nat_lt max_length (length_with message n)) TooLarge
    (if nat_lt room (attribute_length n) then Some TooSmall else None)
    (below 65532 (length message - 20 + attribute_length n) field)
    (allowed (nat_lt room (attribute_length n)) TooSmall None
    (below room (attribute_length n) enough) refl)

-- an attribute more takes its bytes
pub length-one_more : (before after : List ℕ) (a : TypedValue) → IsMessage before
    → HasOneMore before after a → length after ≡ length before + attribute_length (length a.value)
length-one_more before after a is_message one =
    let count = λ (m : Member). attribute_length (length m.1.value) in
    let walked = ap (λ ms. sum_by count ms) one.walk_is in
    let both = sum_by-append count (walk before) ((length before, a) ∷ []) in
    omega (arith, one.is_message.filled, is_message.filled, walked, both)

-- the other types are still not there
still_fresh : (message longer : List ℕ) (a : TypedValue) (kinds : List ℕ)
    → walk longer ≡ walk message ++ (length message, a) ∷ []
    → AllByRecursion (λ kind. has_kind kind (walk message) ≡ false) kinds
    → AllByRecursion (λ kind. (a.kind == kind) ≡ false) kinds
    → AllByRecursion (λ kind. has_kind kind (walk longer) ≡ false) kinds
still_fresh message longer a [] walked fresh other = tt
still_fresh message longer a (kind ∷ kinds) walked fresh other =
    let both =
    list_any-append (λ (m : Member). m.1.kind == kind) (walk message)
    ((length message, a) ∷ []) in (
      rw (walked, both, fresh.0, other.0) refl,
      still_fresh message longer a kinds walked fresh.1 other.1,
    )

-- one attribute, if it is there, and then the others
step : WritingLaws
    → {A : Type 0} (own : ℕ) (value : A → List ℕ) (o : Option A) (others : List Addition)
    (message : List ℕ) (room : ℕ)
    → IsReady message room (if_there (λ x. attribute (typed_as own (value x))) o others)
    → own < 2 ^ 16 → is_set_apart own ≡ false
    → AllByRecursion (λ kind. (own == kind) ≡ false) (kinds_in others)
    → IfSome o (λ x. is_text_too_long (typed_as own (value x)) ≡ false)
    → ((m : List ℕ) (r : ℕ) → IsReady m r others → Succeeds others m r)
    → Succeeds (if_there (λ x. attribute (typed_as own (value x))) o others) message room
unfolding added_one
step laws own value None others message room ready small apart other short rest =
    rest message room ready
step laws own value (Some x) others message room ready small apart other short rest =
    let a : TypedValue = typed_as own (value x) in
    let n = length (value x) in
    let sum = sum_by-cons growth_of (attribute a) others in
    let field : length message - 20 + attribute_length n ≤ 65532 =
    omega (arith, ready.field, sum) in
    let enough : attribute_length n ≤ room = omega (arith, ready.room_is, sum) in
    let size = size_refusal message room n in
    let none = fitting message room n field enough in
    let fresh : Option StunWriteError = if has_kind own (walk message)
    then Some (AttributeExists (record { 0 = own })) else size in
    let unsigned : Option StunWriteError = if has_integrity_attribute message
    then Some MessageIntegrityExists else fresh in
    let accepted : addition_refusal (attribute a) (record { bytes = message; room = room }) ≡ None =
    allowed (is_text_too_long a) TooLarge
    (if is_set_apart own then Some NotAllowed else unsigned) short
    (allowed (is_set_apart own) NotAllowed unsigned apart
    (allowed (has_integrity_attribute message) MessageIntegrityExists fresh
    ready.is_open.no_integrity
    (allowed (has_kind own (walk message)) (AttributeExists (record { 0 = own })) size ready.fresh.0
    none))) in
    let addable : IsAddable message a = record { kind = small; value = field } in
    let longer = with_attribute message a in
    let left = room - attribute_length n in
    let one = laws.added message a ready.is_open addable in
    let long = length-one_more message longer a ready.is_open.is_message one in
    let header = ready.is_open.is_message.header.is_whole in
    let next : Page = record { bytes = longer; room = left } in
    ap (λ refused. after (page_unless_refused refused next) (added_all others)) accepted
    ∙ rest longer left (record {
      is_open = laws.opened message a ready.is_open addable apart;
      fresh = still_fresh message longer a (kinds_in others) one.walk_is ready.fresh.1 other;
      field = omega (arith, ready.field, sum, long, header);
      room_is = omega (arith, ready.room_is, sum);
    })

-- the digest, if there is one
last_step : (o : Option Protection) (message : List ℕ) (room : ℕ)
    → IsReady message room (if_there (λ (p : Protection). integrity p.algorithm p.key) o [])
    → Succeeds (if_there (λ (p : Protection). integrity p.algorithm p.key) o []) message room
unfolding added_one
last_step None message room ready = refl
last_step (Some p) message room ready =
    let n = digest_length p.algorithm in
    let sum = sum_by-cons growth_of (integrity p.algorithm p.key) [] in
    let size = size_refusal message room n in
    let accepted : signing_refusal message room p.algorithm ≡ None =
    allowed (has_integrity_attribute message) MessageIntegrityExists size ready.is_open.no_integrity
    (fitting message room n (omega (arith, ready.field, sum))
    (omega (arith, ready.room_is, sum))) in
    let next : Page =
    record { bytes = with_integrity message p.algorithm p.key; room = room - attribute_length n } in
    ap (λ refused. after (page_unless_refused refused next) (added_all [])) accepted

-- texts within their limits
short_nonce : (o : Option (List ℕ)) → IfSome o (λ bytes. length bytes ≤ 763)
    → IfSome o (λ x. is_text_too_long (typed_as NONCE (text x)) ≡ false)
short_nonce None fits = tt
short_nonce (Some bytes) fits = below 763 (length bytes) fits

short_realm : (o : Option (List ℕ)) → IfSome o (λ bytes. length bytes ≤ 763)
    → IfSome o (λ x. is_text_too_long (typed_as REALM (text x)) ≡ false)
short_realm None fits = tt
short_realm (Some bytes) fits = below 763 (length bytes) fits

short_username : (o : Option (List ℕ)) → IfSome o (λ bytes. length bytes ≤ 513)
    → IfSome o (λ x. is_text_too_long (typed_as USERNAME (text x)) ≡ false)
short_username None fits = tt
short_username (Some bytes) fits = rw (below 513 (length bytes) fits) refl

short_other : {A : Type 0} (own : ℕ) (value : A → List ℕ) (o : Option A) → (own == USERNAME) ≡ false
    → (own == REALM) ≡ false → (own == NONCE) ≡ false
    → IfSome o (λ x. is_text_too_long (typed_as own (value x)) ≡ false)
short_other own value None username realm nonce = tt
short_other own value (Some x) username realm nonce = rw (username, realm, nonce) refl

-- what holds of the type of an attribute, if it is there, and of the types of the others
there : {A : Type 0} (P : ℕ → Type 0) (own : ℕ) (value : A → List ℕ) (o : Option A)
    (others : List Addition) → P own → AllByRecursion P (kinds_in others)
    → AllByRecursion P (kinds_in (if_there (λ x. attribute (typed_as own (value x))) o others))
there P own value None others holds rest = rest
there P own value (Some x) others holds rest = (holds, rest)

module _ (P : ℕ → Type 0) (a : Added) where
  all-integrity : AllByRecursion P (kinds_in (from_integrity a))
  all-integrity =
      elim a.integrity as (λ (o : Option Protection).
      AllByRecursion P
      (kinds_in (if_there (λ (p : Protection). integrity p.algorithm p.key) o []))) [
        | None ↦ tt
        | Some p ↦ tt
      ]

  all-algorithm : P PASSWORD_ALGORITHM → AllByRecursion P (kinds_in (from_algorithm a))
  all-algorithm algorithm =
      there P PASSWORD_ALGORITHM entry a.algorithm (from_integrity a) algorithm all-integrity

  all-algorithms : P PASSWORD_ALGORITHMS → P PASSWORD_ALGORITHM
      → AllByRecursion P (kinds_in (from_algorithms a))
  all-algorithms algorithms algorithm =
      there P PASSWORD_ALGORITHMS listing a.algorithms (from_algorithm a) algorithms
      (all-algorithm algorithm)

  all-userhash : P USERHASH → P PASSWORD_ALGORITHMS → P PASSWORD_ALGORITHM
      → AllByRecursion P (kinds_in (from_userhash a))
  all-userhash userhash algorithms algorithm =
      there P USERHASH text a.userhash (from_algorithms a) userhash
      (all-algorithms algorithms algorithm)

  all-username : P USERNAME → P USERHASH → P PASSWORD_ALGORITHMS → P PASSWORD_ALGORITHM
      → AllByRecursion P (kinds_in (from_username a))
  all-username username userhash algorithms algorithm =
      there P USERNAME text a.username (from_userhash a) username
      (all-userhash userhash algorithms algorithm)

  all-realm : P REALM → P USERNAME → P USERHASH → P PASSWORD_ALGORITHMS → P PASSWORD_ALGORITHM
      → AllByRecursion P (kinds_in (from_realm a))
  all-realm realm username userhash algorithms algorithm =
      there P REALM text a.realm (from_username a) realm
      (all-username username userhash algorithms algorithm)

-- the attributes one after another, and the digest
pub signable_signed : WritingLaws → (a : Added) (message : List ℕ) (room : ℕ)
    → IsSignable a message room → Succeeds (additions_of a) message room
signable_signed laws a message room signable =
    step laws NONCE text a.nonce (from_realm a) message room
    (record {
      is_open = signable.is_open;
      fresh = signable.none_there;
      field = signable.has_room.field;
      room_is = signable.has_room.enough;
    })
    (omega arith) refl (all-realm (λ kind. (NONCE == kind) ≡ false) a refl refl refl refl refl)
    (short_nonce a.nonce signable.texts.nonce)
    (λ m r ready. step laws REALM text a.realm (from_username a) m r ready
    (omega arith) refl (all-username (λ kind. (REALM == kind) ≡ false) a refl refl refl refl)
    (short_realm a.realm signable.texts.realm)
    (λ m r ready. step laws USERNAME text a.username (from_userhash a) m r ready
    (omega arith) refl (all-userhash (λ kind. (USERNAME == kind) ≡ false) a refl refl refl)
    (short_username a.username signable.texts.username)
    (λ m r ready. step laws USERHASH text a.userhash (from_algorithms a) m r ready
    (omega arith) refl (all-algorithms (λ kind. (USERHASH == kind) ≡ false) a refl refl)
    (short_other USERHASH text a.userhash refl refl refl)
    (λ m r ready. step laws PASSWORD_ALGORITHMS listing a.algorithms (from_algorithm a) m r ready
    (omega arith) refl (all-algorithm (λ kind. (PASSWORD_ALGORITHMS == kind) ≡ false) a refl)
    (short_other PASSWORD_ALGORITHMS listing a.algorithms refl refl refl)
    (λ m r ready. step laws PASSWORD_ALGORITHM entry a.algorithm (from_integrity a) m r ready
    (omega arith) refl (all-integrity (λ kind. (PASSWORD_ALGORITHM == kind) ≡ false) a)
    (short_other PASSWORD_ALGORITHM entry a.algorithm refl refl refl)
    (λ m r ready. last_step a.integrity m r ready))))))

-- a message that has none of the attributes that signing adds has none of those that it adds here
pub unsigned_signable : (a : Added) (message : List ℕ) (room : ℕ) → IsUnsigned message
    → IsWithinLimits a → HasRoomFor a message room → IsSignable a message room
unsigned_signable a message room unsigned limits has_room =
    let none : AllByRecursion (λ kind. has_kind kind (walk message) ≡ false) added_kinds =
    unsigned.none in
    record {
      is_open = unsigned.is_open;
      none_there =
          there (λ kind. has_kind kind (walk message) ≡ false) NONCE text a.nonce (from_realm a)
          none.0
          (all-realm (λ kind. has_kind kind (walk message) ≡ false) a none.1.0 none.1.1.0
          none.1.1.1.0 none.1.1.1.1.0 none.1.1.1.1.1.0);
      texts = limits;
      has_room = has_room;
    }

pub signing_succeeds : WritingLaws → (a : Added) (message : List ℕ) (room : ℕ) → IsUnsigned message
    → IsWithinLimits a → HasRoomFor a message room
    → Succeeds (additions_of a) message room
signing_succeeds laws a message room unsigned limits has_room =
    signable_signed laws a message room (unsigned_signable a message room unsigned limits has_room)

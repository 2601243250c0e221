-- What an attribute that is added does to a message: its header, its walk and the attributes that
-- count.
use Rattle.std.proofs.Common.{◌≡◌, ℕ, zero, suc, ◌+◌, ◌-◌, ◌*◌, ◌≤◌, ◌<◌, ◌^◌, Bool, true}
use Rattle.std.proofs.Common.{false, cond, List, [], ◌∷◌, ◌++◌, length, drop, refl, sym}
use Rattle.std.proofs.Common.{◌∙◌, ap, subst, replicate, arith, length-drop, length-append}
use Rattle.std.specs.Prelude.{nat_lt, filter, ◌||◌, ◌==◌}
use Rattle.std.specs.List.{AllByRecursion}
use Rattle.std.proofs.lemmas.Grind.{common_steps, flat_map-append}
use Rattle.std.proofs.lemmas.List.{append-nil, drop-drop, drop-append-le}
use Rattle.std.proofs.lemmas.List.{take-append-le, length-replicate, drop_all}
use Rattle.std.proofs.lemmas.List.Elements.{filter-append}
use Rattle.std.proofs.lemmas.List.Sums.{sum_by-cons, sum_by-append}
use Rattle.byteorder.specs.Numbers.{big_from-append, big_number-reads_back}
use Rattle.stun_base.specs.Attributes.{MESSAGE_INTEGRITY, MESSAGE_INTEGRITY_SHA256, FINGERPRINT}
use Rattle.stun_base.specs.Header.{HEADER_LENGTH, type_field, length_field}
use Rattle.stun_base.specs.Header.{cookie_field, transaction_id_field}
use Rattle.stun_types.specs.Attribute.{TypedValue, padded_length, attribute_length}
use Rattle.stun_types.specs.Attribute.{has_attribute, first_attribute, kind_field}
use Rattle.stun_types.specs.Grammar.{BeginsWith, type_length_value, spelled_message}
use Rattle.stun_types.specs.Grammar.{spelled_attribute, spelled_attributes}
use Rattle.stun_types.specs.Message.{IsMessage, with_length}
use Rattle.stun_types.specs.Visible.{before, is_visible, has_kind, visible}
use Rattle.stun_types.specs.Walk.{Member, next_place, walk_up_to, walk_from, walk}
use Rattle.stun_types.specs.Walk.{attributes_length}
use Rattle.stun_types.specs.code.Walk.{IsInside}
use Rattle.stun_types.specs.Writing.{HasOneMore, IsAddable, IsOpen}
use Rattle.stun_types.specs.Writing.{is_set_apart, length_with, with_attribute}
use Rattle.stun_types.proofs.GrammarLemmas.{finds_what_is_written, read_again}
use Rattle.stun_types.proofs.IntegrityLemmas.{walk_up_to-within}
use Rattle.stun_types.proofs.VisibleLemmas.{has_kind-append}
use Rattle.stun_types.proofs.HeaderLemmas.{fields_of, is_stun-fields}
use Rattle.stun_types.proofs.WalkLemmas.{walk_from-step, walk_from-end, whole_within}

-- an attribute at the front is the same whatever follows it
pub first_attribute-append : (bytes tail : List ℕ) → has_attribute bytes ≡ true
    → (has_attribute (bytes ++ tail) ≡ true)
    × (first_attribute (bytes ++ tail) ≡ first_attribute bytes)
first_attribute-append [] tail whole = cc
first_attribute-append (x ∷ []) tail whole = cc
first_attribute-append (x ∷ y ∷ []) tail whole = cc
first_attribute-append (x ∷ y ∷ z ∷ []) tail whole = cc
first_attribute-append (x ∷ y ∷ z ∷ w ∷ bytes) tail whole =
    let n = z * 256 + (w * 1 + 0) in
    let long : length (bytes ++ tail) ≡ length bytes + length tail = length-append bytes tail in
    let fits : n ≤ length bytes = grind (arith, common_steps) in
    let still : has_attribute (x ∷ y ∷ z ∷ w ∷ bytes ++ tail) ≡ true =
    grind (arith, common_steps, long) in (
      still,
      λ i. record {
        kind = kind_field (x ∷ y ∷ z ∷ w ∷ bytes);
        value = take-append-le n bytes tail fits i;
      },
    )

-- a walk to the end goes on in bytes that go on
pub walk_up_to-extended : (most place : ℕ) (bytes longer tail : List ℕ)
    → drop place longer ≡ drop place bytes ++ tail
    → place + attributes_length (walk_up_to most place bytes) ≡ length bytes
    → walk_from place longer ≡ walk_up_to most place bytes ++ walk_from (length bytes) longer
unfolding walk_up_to
walk_up_to-extended zero place bytes longer tail same filled =
    let end : place ≡ length bytes = omega (arith, filled) in ap (λ p. walk_from p longer) end
walk_up_to-extended (suc most) place bytes longer tail same filled =
    let m : Member = (place, first_attribute (drop place bytes)) in
    let others = walk_up_to most (next_place place bytes) bytes in
    let n = attribute_length (length (first_attribute (drop place bytes)).value) in
    let ih = walk_up_to-extended most (next_place place bytes) bytes longer tail in
    let first = sum_by-cons (λ n. attribute_length (length n.1.value)) m others in
    elim (has_attribute (drop place bytes)) as (λ whole. has_attribute (drop place bytes) ≡ whole
    → place + attributes_length (cond whole (m ∷ others) []) ≡ length bytes
    → walk_from place longer ≡ cond whole (m ∷ others) [] ++ walk_from (length bytes) longer) [
      | true ↦ λ whole filled.
          let again = first_attribute-append (drop place bytes) tail whole in
          let here : has_attribute (drop place longer) ≡ true = ap has_attribute same ∙ again.0 in
          let attribute_is : first_attribute (drop place longer)
          ≡ first_attribute (drop place bytes) = ap first_attribute same ∙ again.1 in
          let within = whole_within place bytes whole in
          let short : n ≤ length (drop place bytes) =
          omega (arith, within, length-drop place bytes) in
          let behind : drop (next_place place bytes) longer
          ≡ drop (next_place place bytes) bytes ++ tail =
          sym (drop-drop n place longer)
          ∙ (ap (drop n) same
          ∙ (drop-append-le n (drop place bytes) tail short
          ∙ ap (λ xs. xs ++ tail) (drop-drop n place bytes))) in
          let rest = ih behind (omega (arith, filled, first)) in
          let step = walk_from-step place longer here in
          let moved : (place, first_attribute (drop place longer))
          ∷ walk_from (next_place place longer) longer
          ≡ m ∷ walk_from (next_place place bytes) longer =
          λ i. (place, attribute_is i)
          ∷ walk_from (place + attribute_length (length (attribute_is i).value)) longer in
          step ∙ (moved ∙ ap (λ ms. m ∷ ms) rest)
      | false ↦ λ none filled.
          let end : place ≡ length bytes = omega (arith, filled) in ap (λ p. walk_from p longer) end
    ] refl filled

-- the bytes of a written attribute
pub length-spelled_attribute : (attribute : TypedValue)
    → length (spelled_attribute attribute) ≡ attribute_length (length attribute.value)
length-spelled_attribute attribute = simp (length-append, length-replicate) (omega arith)

-- an attribute that was written last is at its place, and nothing after it
walk_from-added : (attribute : TypedValue) (place : ℕ) (longer : List ℕ) → attribute.kind < 2 ^ 16
    → length attribute.value < 2 ^ 16
    → drop place longer ≡ spelled_attribute attribute
    → walk_from place longer ≡ (place, attribute) ∷ []
walk_from-added attribute place longer kind_fits value_fits stands =
    let n = length attribute.value in
    let padding : List ℕ = replicate (padded_length n - n) 0 in
    let begins : BeginsWith attribute padding [] (drop place longer) = record {
      spelled = stands ∙ sym (append-nil (type_length_value attribute ++ padding));
      padded = rw length-replicate (omega arith);
      kind = kind_fits;
      value = value_fits;
    } in
    let again = read_again attribute padding [] (drop place longer) begins in
    let step = walk_from-step place longer again.whole in
    let behind : drop (next_place place longer) longer ≡ [] =
    sym (drop-drop (attribute_length (length (first_attribute (drop place longer)).value)) place
    longer)
    ∙ (ap (λ (a : TypedValue). drop (attribute_length (length a.value)) (drop place longer))
    again.attribute_is ∙ again.rest_is) in
    let end = walk_from-end (next_place place longer) longer (rw behind refl) in
    step ∙ (λ i. (place, again.attribute_is i) ∷ end i)

-- what a message keeps when its length field is set and bytes are appended
pub record IsRaised (message tail longer : List ℕ) (n : ℕ) : Type 0 where
  pub type_is : type_field longer ≡ type_field message
  pub cookie_is : cookie_field longer ≡ cookie_field message
  pub transaction_id_is : transaction_id_field longer ≡ transaction_id_field message
  pub length_is : length_field longer ≡ n
  pub behind : drop 20 longer ≡ drop 20 message ++ tail
  pub long : length longer ≡ length message + length tail

pub raised : (message tail : List ℕ) (n : ℕ) → 20 ≤ length message → n < 2 ^ 16
    → IsRaised message tail (with_length message n ++ tail) n
raised [] tail n long fits = absurd (omega (arith, long))
raised (x ∷ []) tail n long fits = absurd (omega (arith, long))
raised (x ∷ y ∷ []) tail n long fits = absurd (omega (arith, long))
raised (x ∷ y ∷ z ∷ []) tail n long fits = absurd (omega (arith, long))
raised (x ∷ y ∷ z ∷ w ∷ rest) tail n long fits =
    let sixteen : 16 ≤ length rest = omega (arith, long) in
    let sum = length-append rest tail in
    let id : drop 4 (rest ++ tail) ≡ drop 4 rest ++ tail =
    drop-append-le 4 rest tail (omega arith) in
    record {
      type_is = refl;
      cookie_is = big_from-append 4 rest tail (omega arith);
      transaction_id_is =
          rw id (big_from-append 12 (drop 4 rest) tail (omega (arith, length-drop 4 rest)));
      length_is = big_number-reads_back 2 n (rest ++ tail) fits;
      behind = drop-append-le 16 rest tail sixteen;
      long = omega (arith, sum);
    }

-- the walk goes to the end of a message
pub walk-added : (message : List ℕ) (attribute : TypedValue) → IsMessage message
    → IsAddable message attribute
    → walk (with_attribute message attribute) ≡ walk message ++ (length message, attribute) ∷ []
walk-added message attribute is_message addable =
    let n = length_with message (length attribute.value) in
    let longer = with_attribute message attribute in
    let whole = is_message.header.is_whole in
    let fits : n < 2 ^ 16 = omega (arith, addable.value) in
    let kept = raised message (spelled_attribute attribute) n whole fits in
    let count : length attribute.value < 2 ^ 16 = omega (arith, addable.value) in
    let m = length message - 20 in
    let sum : 20 + m ≡ length message = omega (arith, whole) in
    let none : drop (length message) message ≡ [] =
    drop_all (length message) message (omega arith) in
    let at : drop (length message) longer ≡ spelled_attribute attribute =
    ap (λ p. drop p longer) (sym sum) ∙ (sym (drop-drop m 20 longer) ∙ (ap (drop m) kept.behind
    ∙ (drop-append-le m (drop 20 message) (spelled_attribute attribute)
    (omega (arith, length-drop 20 message))
    ∙ ap (λ xs. xs ++ spelled_attribute attribute)
    (drop-drop m 20 message ∙ (ap (λ p. drop p message) sum ∙ none))))) in
    walk_up_to-extended (length message) 20 message longer (spelled_attribute attribute) kept.behind
    is_message.filled
    ∙ ap (λ ms. walk message ++ ms)
    (walk_from-added attribute (length message) longer addable.kind count at)

-- it is a message
pub IsMessage-added : (message : List ℕ) (attribute : TypedValue) → IsMessage message
    → IsAddable message attribute → IsMessage (with_attribute message attribute)
IsMessage-added message attribute is_message addable =
    let n = length_with message (length attribute.value) in
    let whole = is_message.header.is_whole in
    let before = fields_of message is_message.header.fields in
    let fits : n < 2 ^ 16 = omega (arith, addable.value) in
    let kept = raised message (spelled_attribute attribute) n whole fits in
    let count = length-spelled_attribute attribute in
    let walked = ap attributes_length (walk-added message attribute is_message addable) in
    let both =
    sum_by-append (λ (n : Member). attribute_length (length n.1.value)) (walk message)
    ((length message, attribute) ∷ []) in
    record {
      header = record {
        is_whole = omega (arith, whole, kept.long);
        fields = is_stun-fields (with_attribute message attribute) (record {
          top_bits = omega (arith, kept.type_is, before.top_bits);
          cookie = kept.cookie_is ∙ before.cookie;
          aligned = omega (arith, kept.length_is, is_message.stated, before.aligned);
        });
      };
      stated = omega (arith, kept.length_is, kept.long, count, whole);
      filled = omega (arith, walked, both, kept.long, count, is_message.filled);
    }

-- neither of two tests passes
pub or_none : (a b : Bool) → (a || b) ≡ false → (a ≡ false) × (b ≡ false)
or_none false b none = (refl, none)
or_none true b none = cc

-- a type that is not among attributes is not among those before a place
pub has_kind-before : (kind place : ℕ) (members : List Member) → has_kind kind members ≡ false
    → has_kind kind (before place members) ≡ false
has_kind-before kind place [] none = refl
has_kind-before kind place (m ∷ members) none =
    let parts = or_none (m.1.kind == kind) (has_kind kind members) none in
    let rest = has_kind-before kind place members parts.1 in
    elim (nat_lt m.0 place) as (λ earlier.
    has_kind kind (cond earlier (m ∷ before place members) (before place members)) ≡ false) [
      | true ↦ rw (parts.0, rest) refl
      | false ↦ rest
    ]

-- none of these attributes hides those after it
pub record HideNone (members : List Member) : Type 0 where
  pub integrity : has_kind MESSAGE_INTEGRITY members ≡ false
  pub integrity_sha256 : has_kind MESSAGE_INTEGRITY_SHA256 members ≡ false
  pub fingerprint : has_kind FINGERPRINT members ≡ false

pub HideNone-open : (message : List ℕ) → IsOpen message → HideNone (walk message)
HideNone-open message is_open =
    let parts =
    or_none (has_kind MESSAGE_INTEGRITY (walk message))
    (has_kind MESSAGE_INTEGRITY_SHA256 (walk message)) is_open.no_integrity in
    record { integrity = parts.0; integrity_sha256 = parts.1; fingerprint = is_open.no_fingerprint }

-- where nothing before it hides it, an attribute counts
is_visible-shown : (members : List Member) (m : Member) → HideNone (before m.0 members)
    → is_visible members m ≡ true
is_visible-shown members m shown =
    rw (shown.integrity, shown.integrity_sha256, shown.fingerprint) refl

HideNone-before : (place : ℕ) (members : List Member) → HideNone members
    → HideNone (before place members)
HideNone-before place members none = record {
  integrity = has_kind-before MESSAGE_INTEGRITY place members none.integrity;
  integrity_sha256 = has_kind-before MESSAGE_INTEGRITY_SHA256 place members none.integrity_sha256;
  fingerprint = has_kind-before FINGERPRINT place members none.fingerprint;
}

-- one more attribute does not hide what is at its place or before
is_visible-added : (members : List Member) (last m : Member) → HideNone members → m.0 ≤ last.0
    → is_visible (members ++ last ∷ []) m ≡ true
is_visible-added members last m none earlier =
    let later : nat_lt last.0 m.0 ≡ false = grind arith in
    let same : before m.0 (members ++ last ∷ []) ≡ before m.0 members =
    filter-append (λ n. nat_lt n.0 m.0) members (last ∷ [])
    ∙ rw later (append-nil (before m.0 members)) in
    is_visible-shown (members ++ last ∷ []) m
    (subst HideNone (sym same) (HideNone-before m.0 members none))

-- a filter keeps what passes its test
filter-all : {X : Type 0} (P : X → Type 0) (test : X → Bool) (xs : List X) → AllByRecursion P xs
    → ((x : X) → P x → test x ≡ true) → filter test xs ≡ xs
filter-all P test [] all passes = refl
filter-all P test (x ∷ xs) all passes =
    rw (passes x all.0) (ap (λ ys. x ∷ ys) (filter-all P test xs all.1 passes))

-- all attributes of an open message count
pub visible-open : (message : List ℕ) → IsOpen message → visible message ≡ walk message
unfolding visible
visible-open message is_open =
    let none = HideNone-open message is_open in
    filter-all (IsInside message) (is_visible (walk message)) (walk message)
    (walk_up_to-within (length message) HEADER_LENGTH message (omega arith))
    (λ m within. is_visible-shown (walk message) m (HideNone-before m.0 (walk message) none))

-- and so does one that is added
visible-added : (message longer : List ℕ) (attribute : TypedValue) → IsOpen message
    → walk longer ≡ walk message ++ (length message, attribute) ∷ []
    → visible longer ≡ visible message ++ (length message, attribute) ∷ []
unfolding visible
visible-added message longer attribute is_open walked =
    let members = walk message in
    let last : Member = (length message, attribute) in
    let none = HideNone-open message is_open in
    let test = is_visible (members ++ last ∷ []) in
    let earlier =
    filter-all (IsInside message) test members
    (walk_up_to-within (length message) HEADER_LENGTH message (omega arith))
    (λ m within. is_visible-added members last m none (omega (arith, within.whole))) in
    let last_counts : test last ≡ true = is_visible-added members last last none (omega arith) in
    ap (λ ms. filter (is_visible ms) ms) walked
    ∙ (filter-append test members (last ∷ [])
    ∙ rw (earlier, last_counts, visible-open message is_open) refl)

-- reading finds what it found before, and the attribute that was added
pub HasOneMore-added : (message : List ℕ) (attribute : TypedValue) → IsOpen message
    → IsAddable message attribute → HasOneMore message (with_attribute message attribute) attribute
HasOneMore-added message attribute is_open addable =
    let is_message = is_open.is_message in
    let n = length_with message (length attribute.value) in
    let fits : n < 2 ^ 16 = omega (arith, addable.value) in
    let kept = raised message (spelled_attribute attribute) n is_message.header.is_whole fits in
    let walked = walk-added message attribute is_message addable in
    record {
      is_message = IsMessage-added message attribute is_message addable;
      type_is = kept.type_is;
      transaction_id_is = kept.transaction_id_is;
      walk_is = walked;
      visible_is =
          visible-added message (with_attribute message attribute) attribute is_open walked;
    }

-- an attribute of another type leaves a message open
pub IsOpen-added : (message : List ℕ) (attribute : TypedValue) → IsOpen message
    → IsAddable message attribute → is_set_apart attribute.kind ≡ false
    → IsOpen (with_attribute message attribute)
IsOpen-added message attribute is_open addable other =
    let none = HideNone-open message is_open in
    let last : Member = (length message, attribute) in
    let walked = walk-added message attribute is_open.is_message addable in
    let kinds =
    or_none (attribute.kind == MESSAGE_INTEGRITY || attribute.kind == MESSAGE_INTEGRITY_SHA256)
    (attribute.kind == FINGERPRINT) other in
    let integrities =
    or_none (attribute.kind == MESSAGE_INTEGRITY) (attribute.kind == MESSAGE_INTEGRITY_SHA256)
    kinds.0 in
    record {
      is_message = IsMessage-added message attribute is_open.is_message addable;
      no_integrity =
          rw (
            walked,
            has_kind-append MESSAGE_INTEGRITY (walk message) last,
            has_kind-append MESSAGE_INTEGRITY_SHA256 (walk message) last,
            none.integrity,
            none.integrity_sha256,
            integrities.0,
            integrities.1,
          ) refl;
      no_fingerprint =
          rw (
            walked,
            has_kind-append FINGERPRINT (walk message) last,
            none.fingerprint,
            kinds.1,
          ) refl;
    }

-- a message that was only written is written so with one attribute more
pub with_attribute-spelled_message : (message_type transaction_id : ℕ)
    (attributes : List TypedValue)
    (attribute : TypedValue)
    → with_attribute (spelled_message message_type transaction_id attributes) attribute
    ≡ spelled_message message_type transaction_id (attributes ++ attribute ∷ [])
with_attribute-spelled_message message_type transaction_id attributes attribute =
    let behind = spelled_attributes attributes in
    let more : spelled_attributes (attributes ++ attribute ∷ [])
    ≡ behind ++ spelled_attribute attribute =
    flat_map-append spelled_attribute attributes (attribute ∷ [])
    ∙ ap (λ xs. behind ++ xs) (append-nil (spelled_attribute attribute)) in
    let count = length-spelled_attribute attribute in
    let sum : length_with (spelled_message message_type transaction_id attributes)
    (length attribute.value)
    ≡ length (behind ++ spelled_attribute attribute) =
    omega (arith, count, length-append behind (spelled_attribute attribute)) in
    rw (more, sum) refl

-- a message without attributes is open
pub IsOpen-spelled_message : (message_type transaction_id : ℕ) → message_type < 2 ^ 14
    → IsOpen (spelled_message message_type transaction_id [])
    × (walk (spelled_message message_type transaction_id []) ≡ [])
IsOpen-spelled_message message_type transaction_id fits =
    let message = spelled_message message_type transaction_id [] in
    let written = finds_what_is_written message_type transaction_id [] fits tt (omega arith) in
    let none : walk message ≡ [] = walk_from-end HEADER_LENGTH message refl in (
      record { is_message = written.0; no_integrity = rw none refl; no_fingerprint = rw none refl },
      none,
    )

-- The answer to a request with types that are not known, part by part.
use Rattle.std.proofs.Common.{◌≡◌, ◌≤◌, ◌<◌, ◌+◌, ◌*◌, ℕ, true, false, pos}
use Rattle.std.proofs.Common.{List, [], ◌∷◌, ◌++◌, length, length-append, take}
use Rattle.std.proofs.Common.{drop, append_assoc, refl, sym, ap, ◌∙◌, arith}
use Rattle.std.specs.Prelude.{nat_lt, Ok, Err}
use Rattle.std.proofs.lemmas.List.{append-nil, drop-drop, drop_at, take_at}
use Rattle.byteorder.specs.Endian.{big_bytes}
use Rattle.stun_base.specs.Header.{MAGIC_COOKIE, transaction_id_field, type_field}
use Rattle.stun_base.specs.MessageType.{method_of, type_number}
use Rattle.stun_base.specs.declared.wire.attribute_type.AttributeType.{AttributeType}
use Rattle.stun_base.specs.declared.wire.message_type.MessageClass.TheVariants.{Error}
use Rattle.stun_types.specs.Attribute.{attribute_length}
use Rattle.stun_types.specs.Grammar.{spelled_message, spelled_attribute}
use Rattle.stun_types.specs.Message.{with_length}
use Rattle.stun_types.specs.Writing.{empty_answer, length_with, with_attribute}
use Rattle.stun_types.proofs.AddingLemmas.{length-spelled_attribute}
use Rattle.stun_extra.specs.Unknown.{spelled_types, unknown_attribute_error}
use Rattle.stun_numbers.specs.declared.refusal.Refusal.TheVariants.{BufferTooSmall}
use Rattle.stun_numbers.specs.Buffers.{buffer_after, within_room}
use Rattle.stun_c.specs.Answers.{written_number}
use Rattle.stun_c.specs.Extra.{refused_front, types_attribute, unknown_answer}
use Rattle.stun_c.proofs.Lengths.{length-with_attribute}

-- a header takes 20 bytes
length-begun : (request : List ℕ) → length (empty_answer Error request) ≡ 20
length-begun request = refl

-- the front of a buffer, its header and then its error
pub front_written : (request out begun written : List ℕ)
    → begun ≡ empty_answer Error request ++ drop 20 out
    → written ≡ with_attribute (take 20 begun) unknown_attribute_error ++ drop 48 begun
    → written ≡ refused_front request ++ drop 48 out
unfolding refused_front
front_written request out begun written is_begun is_written =
    let header = empty_answer Error request in
    let front : take 20 begun ≡ header = ap (take 20) is_begun
    ∙ take_at header (drop 20 out) 20 (length-begun request) in
    let behind : drop 20 begun ≡ drop 20 out = ap (drop 20) is_begun
    ∙ drop_at header (drop 20 out) 20 (length-begun request) in
    let rest : drop 48 begun ≡ drop 48 out = sym (drop-drop 28 20 begun)
    ∙ (ap (drop 28) behind ∙ drop-drop 28 20 out) in
    is_written ∙ (λ i. with_attribute (front i) unknown_attribute_error ++ rest i)

length-front : (request : List ℕ) → length (refused_front request) ≡ 48
unfolding refused_front
length-front request = refl

-- each type takes 2 bytes
pub length_spelled : (types : List AttributeType) → length (spelled_types types) ≡ 2 * length types
length_spelled [] = refl
length_spelled (kind ∷ types) = omega (arith, length_spelled types)

-- a length field that is raised, and the types after the front
pub types_written : (count : ℕ) (out raised written : List ℕ) (types : List AttributeType)
    → count ≡ length types
    → raised ≡ with_length (take 48 out) (length_with (take 48 out) (2 * count))
    → written ≡ spelled_attribute (types_attribute types)
    ++ drop (attribute_length (2 * count)) (drop 48 out)
    → raised ++ written ≡ with_attribute (take 48 out) (types_attribute types)
    ++ drop (48 + attribute_length (2 * count)) out
types_written count out raised written types is is_raised is_written =
    let front = take 48 out in
    let n = attribute_length (2 * count) in
    let size : length (spelled_types types) ≡ 2 * count = length_spelled types
    ∙ ap (λ n. 2 * n) (sym is) in
    let whole : raised ≡ with_length front (length_with front (length (spelled_types types))) =
    is_raised ∙ ap (λ k. with_length front (length_with front k)) (sym size) in
    (λ i. whole i
    ++ (is_written ∙ (λ j. spelled_attribute (types_attribute types) ++ drop-drop n 48 out j)) i)
    ∙ sym (append_assoc (with_length front (length_with front (length (spelled_types types))))
    (spelled_attribute (types_attribute types)) (drop (48 + n) out))

-- a whole answer has its front and its types
pub length-answer : (request : List ℕ) (types : List AttributeType) (count : ℕ)
    → count ≡ length types
    → length (unknown_answer request types) ≡ 48 + attribute_length (2 * count)
unfolding unknown_answer
length-answer request types count is =
    let long : 20 ≤ length (refused_front request) = omega (arith, length-front request) in
    let size : length (spelled_types types) ≡ 2 * count = length_spelled types
    ∙ ap (λ n. 2 * n) (sym is) in
    length-with_attribute (refused_front request) (types_attribute types) long
    ∙ (λ i. length-front request i + attribute_length (size i))

-- bytes that fit
within_room_ok : (bytes : List ℕ) (room : ℕ) → length bytes ≤ room
    → within_room (Ok bytes) room ≡ Ok bytes
within_room_ok bytes room fits = let wide : nat_lt room (length bytes) ≡ false =
    grind arith in rw wide refl

within_room_small : (bytes : List ℕ) (room : ℕ) → room < length bytes
    → within_room (Ok bytes) room ≡ Err BufferTooSmall
within_room_small bytes room short = let narrow : nat_lt room (length bytes) ≡ true =
    grind arith in rw narrow refl

-- the buffer and the number afterwards, where the answer fits and where it does not
pub answer_written : (request out front written : List ℕ) (types : List AttributeType) (count : ℕ)
    → count ≡ length types
    → front ≡ refused_front request ++ drop 48 out
    → written ≡ with_attribute (take 48 front) (types_attribute types)
    ++ drop (48 + attribute_length (2 * count)) front
    → 48 + attribute_length (2 * count) ≤ length out
    → written ≡ buffer_after (within_room (Ok (unknown_answer request types)) (length out)) out
unfolding unknown_answer
answer_written request out front written types count is is_front is_written room =
    let size = length-answer request types count is in
    let n = attribute_length (2 * count) in
    let begins : take 48 front ≡ refused_front request = ap (take 48) is_front
    ∙ take_at (refused_front request) (drop 48 out) 48 (length-front request) in
    let behind : drop 48 front ≡ drop 48 out = ap (drop 48) is_front
    ∙ drop_at (refused_front request) (drop 48 out) 48 (length-front request) in
    let rest : drop (48 + n) front ≡ drop (48 + n) out = sym (drop-drop n 48 front)
    ∙ (ap (drop n) behind ∙ drop-drop n 48 out) in
    is_written
    ∙ ((λ i. with_attribute (begins i) (types_attribute types) ++ rest i)
    ∙ ((λ i. unknown_answer request types ++ drop (sym size i) out)
    ∙ sym (ap (λ made. buffer_after made out)
    (within_room_ok (unknown_answer request types) (length out) (omega (arith, size, room))))))

pub answer_number : (request : List ℕ) (types : List AttributeType) (count room : ℕ)
    → count ≡ length types
    → 48 + attribute_length (2 * count) ≤ room
    → written_number (within_room (Ok (unknown_answer request types)) room)
    ≡ pos (48 + attribute_length (2 * count))
answer_number request types count room is fits =
    let size = length-answer request types count is in
    ap written_number
    (within_room_ok (unknown_answer request types) room (omega (arith, size, fits)))
    ∙ ap pos size

pub answer_refused : (request : List ℕ) (types : List AttributeType) (count room : ℕ)
    → count ≡ length types
    → room < 48 + attribute_length (2 * count)
    → within_room (Ok (unknown_answer request types)) room ≡ Err BufferTooSmall
answer_refused request types count room is short =
    within_room_small (unknown_answer request types) room
    (omega (arith, length-answer request types count is, short))

-- the answer is spelled as any message with these two attributes
pub answer_spelled : (request : List ℕ) (types : List AttributeType)
    → unknown_answer request types
    ≡ spelled_message (type_number Error (method_of (type_field request)))
    (transaction_id_field request)
    (unknown_attribute_error ∷ types_attribute types ∷ [])
unfolding unknown_answer refused_front
answer_spelled request types =
    let error = spelled_attribute unknown_attribute_error in
    let value = spelled_attribute (types_attribute types) in
    let one : value ++ [] ≡ value = append-nil value in
    let whole : length value ≡ attribute_length (length (spelled_types types)) =
    length-spelled_attribute (types_attribute types) in
    let total : length (error ++ (value ++ []))
    ≡ 28 + attribute_length (length (spelled_types types)) =
    ap (λ v. length (error ++ v)) one ∙ (length-append error value ∙ ap (λ n. 28 + n) whole) in
    λ i. big_bytes 2 (type_number Error (method_of (type_field request)))
    ++ big_bytes 2 (sym total i) ++ big_bytes 4 MAGIC_COOKIE
    ++ big_bytes 12 (transaction_id_field request) ++ (error ++ sym one i)

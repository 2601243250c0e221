-- The bytes of a request have its method and its transaction ID.
use Rattle.std.proofs.Common.{◌≡◌, ◌∙◌, ◌-◌, ◌<◌, ◌≤◌, ◌^◌, ◌++◌, ◌∷◌, [], ℕ, zero, suc, List}
use Rattle.std.proofs.Common.{Option, Ok, arith, drop, length, length-append, refl}
use Rattle.std.specs.Int.{byte_at, bytes_high_first}
use Rattle.std.specs.List.{slice_index}
use Rattle.std.proofs.Math.Nat.{mod-lt}
use Rattle.std.proofs.lemmas.List.{drop-append-le, length-drop}
use Rattle.byteorder.specs.Endian.{big_bytes}
use Rattle.byteorder.specs.Numbers.{big_from-append, big_from-lt, big_number-reads_back}
use Rattle.sha1.specs.Sha1.{digest_bytes, sha1}
use Rattle.stun_base.specs.Header.{MAGIC_COOKIE, transaction_id_field, type_field}
use Rattle.stun_base.specs.Hmac.{hmac}
use Rattle.stun_base.specs.MessageType.{method_of, type_number}
use Rattle.stun_base.specs.declared.wire.message_type.MessageClass.TheVariants.{Request}
use Rattle.stun_types.specs.Attribute.{TypedValue}
use Rattle.stun_types.specs.Grammar.{spelled_attribute, spelled_attributes}
use Rattle.stun_types.specs.Message.{with_length}
use Rattle.stun_types.specs.Writing.{empty_message, with_attribute}
use Rattle.stun_client.specs.Challenges.{Answered}
use Rattle.stun_client.specs.Ids.{id_of}
use Rattle.stun_client.specs.Judging.{Identity}
use Rattle.stun_client_endpoint.specs.Bodies.{Body}
use Rattle.stun_client_endpoint.specs.Written.{Form, request_bytes}
use Rattle.stun_client_endpoint.proofs.StepLemmas.{request_has}

-- ---- bytes

abbrev AreSmall : List ℕ → Type 0
AreSmall xs = (k : ℕ) → slice_index xs k < 256

small_cons : (x : ℕ) (xs : List ℕ) → x < 256 → AreSmall xs → AreSmall (x ∷ xs)
small_cons x xs one others = by
  where
    by : (k : ℕ) → slice_index (x ∷ xs) k < 256
    by zero = one
    by (suc k) = others k

small_append : (xs ys : List ℕ) → AreSmall xs → AreSmall ys → AreSmall (xs ++ ys)
small_append [] ys one other = other
small_append (x ∷ xs) ys one other =
    small_cons x (xs ++ ys) (one zero) (small_append xs ys (λ j. one (suc j)) other)

small_byte : (n x : ℕ) → byte_at n x < 256
small_byte zero x = mod-lt x (omega arith)
small_byte (suc n) x = mod-lt _ (omega arith)

small_bytes : (n x : ℕ) → AreSmall (bytes_high_first n x)
small_bytes zero x = λ k. omega arith
small_bytes (suc n) x =
    small_cons (byte_at n x) (bytes_high_first n x) (small_byte n x) (small_bytes n x)

small_digest : (words : List ℕ) (n : ℕ) → AreSmall (digest_bytes words n)
unfolding digest_bytes
small_digest words zero = λ k. omega arith
small_digest words (suc n) =
    small_append (digest_bytes words n) (bytes_high_first 4 (slice_index words n))
    (small_digest words n) (small_bytes 4 (slice_index words n))

small_hmac : (key text : List ℕ) → AreSmall (hmac sha1 key text)
unfolding hmac sha1
small_hmac key text = small_digest _ 5

-- an ID has 96 bits
pub id_fits : (seed : List ℕ) (number : ℕ) → id_of seed number < 256 ^ 12
id_fits seed number = big_from-lt 0 12 (hmac sha1 seed (bytes_high_first 8 number)) (small_hmac seed _)

-- ---- the type and the ID of a message

-- a message with a header, this transaction ID and this type
pub record HasHead (head : ℕ × ℕ) (page : List ℕ) : Type 0 where
  pub long : 20 ≤ length page
  pub has : transaction_id_field page ≡ head.0
  pub type_is : type_field page ≡ head.1

raised : (head : ℕ × ℕ) (message tail : List ℕ) (n : ℕ) → HasHead head message
    → HasHead head (with_length message n ++ tail)
raised head [] tail n is = absurd (omega (arith, is.long))
raised head (x ∷ []) tail n is = absurd (omega (arith, is.long))
raised head (x ∷ y ∷ []) tail n is = absurd (omega (arith, is.long))
raised head (x ∷ y ∷ z ∷ []) tail n is = absurd (omega (arith, is.long))
raised head (x ∷ y ∷ z ∷ w ∷ rest) tail n is =
    let sixteen : 16 ≤ length rest = omega (arith, is.long) in
    let sum = length-append rest tail in
    let behind : drop 4 (rest ++ tail) ≡ drop 4 rest ++ tail =
    drop-append-le 4 rest tail (omega arith) in
    record {
      long = omega (arith, sum);
      has = rw behind (big_from-append 12 (drop 4 rest) tail (omega (arith, length-drop 4 rest)))
          ∙ is.has;
      type_is = is.type_is;
    }

with_attribute_has : (head : ℕ × ℕ) (message : List ℕ) (a : TypedValue) → HasHead head message
    → HasHead head (with_attribute message a)
with_attribute_has head message a is = raised head message (spelled_attribute a) _ is

-- the head of a request before its attributes
abbrev pub head_of : List ℕ → ℕ → ℕ → ℕ × ℕ
head_of seed number method = (
  id_of seed number,
  type_field (empty_message Request method (id_of seed number)),
)

begun_has : (seed : List ℕ) (number method : ℕ)
    → HasHead (head_of seed number method) (empty_message Request method (id_of seed number))
begun_has seed number method = record {
  long = omega arith;
  has = big_number-reads_back 12 (id_of seed number) [] (id_fits seed number);
  type_is = refl;
}

-- ---- the bytes of a request

request_head : (form : Form) (identity : Identity) (challenge : Option Answered)
    (method number : ℕ) (seed : List ℕ) (body : Body) (bytes : List ℕ)
    → request_bytes form identity challenge method (id_of seed number) body ≡ Ok bytes
    → HasHead (head_of seed number method) bytes
request_head form identity challenge method number seed body bytes =
    let head = head_of seed number method in
    request_has (HasHead head) (with_attribute_has head) form identity challenge method
    (id_of seed number) body bytes (begun_has seed number method)

-- the bytes of a request have the transaction ID that they are written for
pub request_id : (form : Form) (identity : Identity) (challenge : Option Answered)
    (method number : ℕ) (seed : List ℕ) (body : Body) (bytes : List ℕ)
    → request_bytes form identity challenge method (id_of seed number) body ≡ Ok bytes
    → transaction_id_field bytes ≡ id_of seed number
request_id form identity challenge method number seed body bytes is =
    (request_head form identity challenge method number seed body bytes is).has

-- and the type of a request with its method
pub request_type : (form : Form) (identity : Identity) (challenge : Option Answered)
    (method number : ℕ) (seed : List ℕ) (body : Body) (bytes : List ℕ) → method < 4096
    → request_bytes form identity challenge method (id_of seed number) body ≡ Ok bytes
    → type_field bytes ≡ type_number Request method
request_type form identity challenge method number seed body bytes low is =
    (request_head form identity challenge method number seed body bytes is).type_is
    ∙ big_number-reads_back 2 (type_number Request method)
    (big_bytes 2 (length (spelled_attributes [])) ++ big_bytes 4 MAGIC_COOKIE
    ++ big_bytes 12 (id_of seed number) ++ spelled_attributes []) (omega (arith, low))

-- the method of such a type
pub method_again : (method : ℕ) → method < 4096 → method_of (type_number Request method) ≡ method
method_again method low = omega (arith, low)

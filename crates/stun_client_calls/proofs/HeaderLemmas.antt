-- The bytes of a request begin with a header of its transaction ID.
use Rattle.std.proofs.Common.{◌≡◌, ◌∙◌, ◌-◌, ◌<◌, ◌≤◌, ◌^◌, ◌%◌, ◌++◌, ◌∷◌, [], ℕ, List, Option, Ok}
use Rattle.std.proofs.Common.{arith, drop, length, length-append, refl}
use Rattle.std.proofs.lemmas.List.{drop-append-le, length-drop}
use Rattle.byteorder.specs.Endian.{big_bytes}
use Rattle.byteorder.specs.Numbers.{big_from-append, big_number-reads_back}
use Rattle.stun_base.specs.Header.{MAGIC_COOKIE, cookie_field, length_field}
use Rattle.stun_base.specs.Header.{transaction_id_field, type_field}
use Rattle.stun_base.specs.MessageType.{type_number}
use Rattle.stun_base.specs.declared.wire.message_type.MessageClass.TheVariants.{Request}
use Rattle.stun_types.specs.Attribute.{TypedValue}
use Rattle.stun_types.specs.Grammar.{spelled_attribute, spelled_attributes}
use Rattle.stun_types.specs.Message.{with_length}
use Rattle.stun_types.specs.Writing.{empty_message, length_with, with_attribute}
use Rattle.stun_types.proofs.AddingLemmas.{length-spelled_attribute}
use Rattle.stun_types.proofs.HeaderLemmas.{is_stun-fields}
use Rattle.stun_agent.specs.Transactions.{IsRequestOf}
use Rattle.stun_client.specs.Challenges.{Answered}
use Rattle.stun_client.specs.Ids.{id_of}
use Rattle.stun_client.specs.Judging.{Identity}
use Rattle.stun_client_endpoint.specs.Bodies.{Body}
use Rattle.stun_client_endpoint.specs.Written.{Form, request_bytes}
use Rattle.stun_client_endpoint.proofs.StepLemmas.{request_has}
use Rattle.stun_client_endpoint.proofs.WrittenLemmas.{request_id}

-- a whole number of words, the first of which are a header, with this transaction ID if that fits
record IsHeaded (id : ℕ) (page : List ℕ) : Type 0 where
  long : 20 ≤ length page
  whole : length page % 4 ≡ 0
  top_bits : type_field page < 2 ^ 14
  cookie : cookie_field page ≡ MAGIC_COOKIE
  aligned : length_field page % 4 ≡ 0
  id_is : id < 256 ^ 12 → transaction_id_field page ≡ id

raised : (id : ℕ) (page tail : List ℕ) (n : ℕ) → n % 4 ≡ 0 → length tail % 4 ≡ 0 → IsHeaded id page
    → IsHeaded id (with_length page n ++ tail)
raised id [] tail n four words is = absurd (omega (arith, is.long))
raised id (x ∷ []) tail n four words is = absurd (omega (arith, is.long))
raised id (x ∷ y ∷ []) tail n four words is = absurd (omega (arith, is.long))
raised id (x ∷ y ∷ z ∷ []) tail n four words is = absurd (omega (arith, is.long))
raised id (x ∷ y ∷ z ∷ w ∷ rest) tail n four words is =
    let sixteen : 16 ≤ length rest = omega (arith, is.long) in
    let sum = length-append rest tail in
    let behind : drop 4 (rest ++ tail) ≡ drop 4 rest ++ tail =
    drop-append-le 4 rest tail (omega arith) in
    record {
      long = omega (arith, sum);
      whole = omega (arith, sum, words, is.whole);
      top_bits = is.top_bits;
      cookie = big_from-append 4 rest tail (omega arith) ∙ is.cookie;
      aligned = omega (arith, four);
      id_is =
          λ fits.
          rw behind (big_from-append 12 (drop 4 rest) tail (omega (arith, length-drop 4 rest)))
          ∙ is.id_is fits;
    }

added : (id : ℕ) (page : List ℕ) (a : TypedValue) → IsHeaded id page
    → IsHeaded id (with_attribute page a)
added id page a is =
    let count = length-spelled_attribute a in
    raised id page (spelled_attribute a) (length_with page (length a.value))
    (omega (arith, is.whole, is.long)) (omega (arith, count)) is

begun : (method id : ℕ) → method < 4096 → IsHeaded id (empty_message Request method id)
begun method id low = record {
  long = omega arith;
  whole = refl;
  top_bits =
      let reads =
      big_number-reads_back 2 (type_number Request method)
      (big_bytes 2 (length (spelled_attributes [])) ++ big_bytes 4 MAGIC_COOKIE
      ++ big_bytes 12 id ++ spelled_attributes []) (omega (arith, low)) in
      omega (arith, reads, low);
  cookie =
      big_number-reads_back 4 MAGIC_COOKIE (big_bytes 12 id ++ spelled_attributes []) (omega arith);
  aligned = refl;
  id_is = λ fits. big_number-reads_back 12 id [] fits;
}

-- ---- the bytes of a request

headed : (form : Form) (identity : Identity) (challenge : Option Answered)
    (method id : ℕ) (body : Body) (bytes : List ℕ) → method < 4096
    → request_bytes form identity challenge method id body ≡ Ok bytes → IsHeaded id bytes
headed form identity challenge method id body bytes low =
    request_has (IsHeaded id) (added id) form identity challenge method id body bytes
    (begun method id low)

-- the bytes of a request are those of a request with the ID that they are written for
pub is_request_with : (form : Form) (identity : Identity) (challenge : Option Answered)
    (method id : ℕ) (body : Body) (bytes : List ℕ) → method < 4096 → id < 256 ^ 12
    → request_bytes form identity challenge method id body ≡ Ok bytes → IsRequestOf id bytes
is_request_with form identity challenge method id body bytes low fits is =
    let has = headed form identity challenge method id body bytes low is in
    record {
      header = record {
        is_whole = has.long;
        fields = is_stun-fields bytes (record {
          top_bits = has.top_bits;
          cookie = has.cookie;
          aligned = has.aligned;
        });
      };
      id_is = has.id_is fits;
    }

-- the same of an ID that is derived from a seed
pub is_request : (form : Form) (identity : Identity) (challenge : Option Answered)
    (method number : ℕ) (seed : List ℕ) (body : Body) (bytes : List ℕ) → method < 4096
    → request_bytes form identity challenge method (id_of seed number) body ≡ Ok bytes
    → IsRequestOf (id_of seed number) bytes
is_request form identity challenge method number seed body bytes low is =
    let has = headed form identity challenge method (id_of seed number) body bytes low is in
    record {
      header = record {
        is_whole = has.long;
        fields = is_stun-fields bytes (record {
          top_bits = has.top_bits;
          cookie = has.cookie;
          aligned = has.aligned;
        });
      };
      id_is = request_id form identity challenge method number seed body bytes is;
    }

-- A success is a page, and so is what a server answers to a Binding request.
use Rattle.std.proofs.Common.{◌≡◌, ◌≤◌, ◌<◌, ◌^◌, ◌+◌, ◌*◌, ◌/◌, ◌%◌, ℕ, Bool, true, false}
use Rattle.std.proofs.Common.{List, [], ◌∷◌, length, Some, refl, ◌∙◌, ap, arith}
use Rattle.std.specs.Prelude.{cond, ◌==◌, ◌||◌, None}
use Rattle.std.specs.Option.{option_and_then, option_map}
use Rattle.std.specs.Net.Addr.{ipv4_octets, ipv6_octets, ipv6_segments, low_octets}
use Rattle.std.specs.Net.Socket.{socket_ip, socket_port}
use Rattle.std.specs.declared.net.ip_addr.IpAddr.{IpAddr}
use Rattle.std.specs.declared.net.ip_addr.IpAddr.TheVariants.{V4, V6}
use Rattle.std.specs.declared.net.socket_addr.SocketAddr.{SocketAddr}
use Rattle.stun_base.specs.Attributes.{ERROR_CODE}
use Rattle.stun_base.specs.Header.{transaction_id_field, type_field}
use Rattle.stun_base.specs.MessageType.{class_in, class_of, class_of_bits, is_error, method_of}
use Rattle.stun_base.specs.MessageType.{type_number}
use Rattle.stun_base.specs.declared.wire.message_type.MessageClass.TheVariants as Class
use Rattle.stun_types.specs.Attribute.{TypedValue}
use Rattle.stun_types.specs.ErrorCode.{CodeAndReason, error_of}
use Rattle.stun_types.specs.Grammar.{spelled_attribute, spelled_message}
use Rattle.stun_types.specs.Integrity.{first_of}
use Rattle.stun_types.specs.Visible.{visible}
use Rattle.stun_types.specs.Walk.{Member, walk}
use Rattle.stun_types.specs.Writing.{HasOneMore, IsAddable, IsOpen, length_with, with_attribute}
use Rattle.stun_types.specs.XorMappedAddress.{XoredAddress, xor_bytes, xor_key}
use Rattle.stun_types.proofs.AddingLemmas.{length-spelled_attribute, raised}
use Rattle.stun_judging.specs.Reading.{STALE_NONCE, UNAUTHORIZED, is_code}
use Rattle.stun_extra.specs.CanonicalAddress.{is_mapped, mapped_address, xored_canonical}
use Rattle.stun_exchanges.specs.Agreement.{IsSignedAnswer}
use Rattle.stun_client.specs.Answers.{is_answer_of}
use Rattle.stun_endpoint.specs.Answers.{Signature, binding_page}
use Rattle.stun_endpoint.specs.Received.{responding_of}
use Rattle.stun_endpoint.specs.Responding.{binding_by}
use Rattle.stun_endpoint.specs.Settings.{Settings}
use Rattle.stun_exchanges.specs.Exchange.{IsPage, IsResponseTo, IsServer, SendsRequired}
use Rattle.stun_exchanges.proofs.ChallengeLemmas.{header_long, id_again, same_number, type_again}
use Rattle.stun_exchanges.proofs.SealedLemmas.{SealingLaws, sealed_answer}

-- ---- a success

pub success_is_page : (request page : List ℕ) → IsOpen page → class_in page ≡ Class.Success
    → method_of (type_field page) ≡ method_of (type_field request)
    → transaction_id_field page ≡ transaction_id_field request → length page ≤ 60000
    → IsPage request page
success_is_page request page is_open class_is method_is id_is short =
    let method = method_of (type_field request) in
    record {
      is_open = is_open;
      id = id_is;
      answers =
          ap (λ c. is_answer_of method c page) class_is
          ∙ ap (λ m. m == method) method_is
          ∙ same_number method;
      final =
          ap (λ c. is_code UNAUTHORIZED (cond (is_error c) (option_map (λ (e : CodeAndReason). e.code)
          (option_and_then (λ (m : Member). error_of m.1) (first_of ERROR_CODE (visible page)))) None)
          || is_code STALE_NONCE (cond (is_error c) (option_map (λ (e : CodeAndReason). e.code)
          (option_and_then (λ (m : Member). error_of m.1) (first_of ERROR_CODE (visible page)))) None))
          class_is;
      short = short;
    }

-- ---- an address

short_xor : (xs key : List ℕ) → length (xor_bytes xs key) ≤ length key
short_xor [] key = omega arith
short_xor (x ∷ xs) [] = omega arith
short_xor (x ∷ xs) (k ∷ ks) = omega (arith, short_xor xs ks)

key_long : (id : ℕ) → length (xor_key id) ≡ 16
key_long id = refl

octets_short : (ip : IpAddr) (port id : ℕ) → length ((xored_canonical ip port id).octets) ≤ 16
octets_short (V4 ip) port id = omega (arith, short_xor (ipv4_octets ip) (xor_key id), key_long id)
octets_short (V6 ip) port id =
    by (is_mapped (ipv6_segments ip)) _ _
    (omega (arith, short_xor (low_octets ip) (xor_key id), key_long id))
    (omega (arith, short_xor (ipv6_octets ip) (xor_key id), key_long id))
  where
    by : (b : Bool) (one other : XoredAddress) → length one.octets ≤ 16 → length other.octets ≤ 16
        → length ((cond b one other).octets) ≤ 16
    by true one other first second = first
    by false one other first second = second

address_short : (from : SocketAddr) (request : List ℕ)
    → length ((mapped_address from request).value) ≤ 20
address_short from request =
    omega (arith, octets_short (socket_ip from) (socket_port from) (transaction_id_field request))

-- ---- the server's own answer

module _ (laws : SealingLaws)
    (begun : (message_type id : ℕ) → message_type < 2 ^ 14
    → IsOpen (spelled_message message_type id []) × (walk (spelled_message message_type id []) ≡ []))
    (from : SocketAddr) (request : List ℕ) (identified : transaction_id_field request < 2 ^ 96) where
  abbrev method : ℕ
  method = method_of (type_field request)

  abbrev id : ℕ
  id = transaction_id_field request

  abbrev kind_of_success : ℕ
  kind_of_success = type_number Class.Success method

  fits_in : kind_of_success < 2 ^ 14
  fits_in = omega arith

  is_of_class : class_of kind_of_success ≡ Class.Success
  is_of_class =
      let bits : kind_of_success / 256 % 2 * 2 + kind_of_success / 16 % 2 ≡ 2 = omega arith in
      ap class_of_bits bits

  method_again : method_of kind_of_success ≡ method
  method_again = omega arith

  abbrev empty : List ℕ
  empty = spelled_message kind_of_success id []

  abbrev attribute : TypedValue
  attribute = mapped_address from request

  abbrev page : List ℕ
  page = with_attribute empty attribute

  open_empty : IsOpen empty
  open_empty = (begun kind_of_success id fits_in).0

  addable : IsAddable empty attribute
  addable = record {
    kind = omega arith;
    value = omega (arith, header_long kind_of_success id, address_short from request);
  }

  one : HasOneMore empty page attribute
  one = laws.adds empty attribute open_empty addable

  kind_is : type_field page ≡ kind_of_success
  kind_is = one.type_is ∙ type_again kind_of_success id [] fits_in

  page_short : length page ≤ 60000
  page_short =
      let kept = raised empty (spelled_attribute attribute)
      (length_with empty (length attribute.value)) open_empty.is_message.header.is_whole
      (omega (arith, header_long kind_of_success id, address_short from request)) in
      omega (
        arith,
        kept.long,
        length-spelled_attribute attribute,
        header_long kind_of_success id,
        address_short from request,
      )

  answer_is_page : IsPage request page
  answer_is_page =
      success_is_page request page (laws.opens empty attribute open_empty addable refl)
      (ap class_of kind_is ∙ is_of_class) (ap method_of kind_is ∙ method_again)
      (one.transaction_id_is ∙ id_again kind_of_success id identified) page_short

  pub binding_signed : (s : Settings) (by : Signature) (required : Bool) → IsServer s
      → SendsRequired required request
      → let response = (binding_by (responding_of s) (Some by) from request).bytes in
      IsResponseTo required request response × IsSignedAnswer required response by.key by.algorithm
  unfolding binding_by binding_page
  binding_signed s by required fine sends =
      sealed_answer laws s by required request page fine answer_is_page sends

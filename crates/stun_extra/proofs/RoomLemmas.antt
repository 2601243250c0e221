-- What can be added to a message that is open and not too long.
use Rattle.std.proofs.Common.{◌≡◌, ◌≤◌, ◌<◌, ◌^◌, ◌+◌, ◌-◌, ℕ, Bool, true, false, List, []}
use Rattle.std.proofs.Common.{◌∷◌, ◌++◌, length, length-append, Option, Some, None, refl, ◌∙◌}
use Rattle.std.proofs.Common.{ap, arith, cond}
use Rattle.std.specs.Prelude.{nat_lt, ◌==◌, ◌||◌}
use Rattle.std.specs.Net.Addr.{ipv4_octets, ipv6_octets, ipv6_segments, low_octets}
use Rattle.std.specs.declared.net.ip_addr.IpAddr.{IpAddr}
use Rattle.std.specs.declared.net.ip_addr.IpAddr.TheVariants.{V4, V6}
use Rattle.std.proofs.lemmas.Bool.{le-ltb}
use Rattle.std.proofs.lemmas.List.Folds.{list_any-append}
use Rattle.stun_base.specs.Algorithm.{digest_length}
use Rattle.stun_base.specs.code.Algorithm.{length-digest}
use Rattle.stun_base.specs.Attributes.{FINGERPRINT}
use Rattle.stun_base.specs.declared.keys.algorithm.IntegrityAlgorithm.{IntegrityAlgorithm}
use Rattle.stun_base.specs.declared.keys.algorithm.IntegrityAlgorithm.TheVariants.{Sha1, Sha256}
use Rattle.stun_base.specs.declared.wire.attribute_type.AttributeType.{AttributeType}
use Rattle.stun_base.specs.declared.wire.error.StunWriteError.TheVariants.{AttributeExists}
use Rattle.stun_base.specs.declared.wire.error.StunWriteError.TheVariants.{MessageIntegrityExists}
use Rattle.stun_base.specs.declared.wire.error.StunWriteError.TheVariants.{TooLarge, TooSmall}
use Rattle.stun_types.specs.Attribute.{TypedValue, attribute_length}
use Rattle.stun_types.specs.Grammar.{spelled_attribute}
use Rattle.stun_types.specs.Limits.{LENGTH_LIMIT, max_length}
use Rattle.stun_types.specs.Message.{with_length}
use Rattle.stun_types.specs.Visible.{has_kind}
use Rattle.stun_types.specs.Walk.{Member, walk}
use Rattle.stun_types.specs.Writing.{IsOpen, covered_at_end, has_integrity, integrity_attribute}
use Rattle.stun_types.specs.Writing.{length_with}
use Rattle.stun_types.specs.Writing.{signing_refusal, size_refusal, with_attribute, with_integrity}
use Rattle.stun_types.specs.XorMappedAddress.{XoredAddress, xor_bytes, xor_key}
use Rattle.stun_types.proofs.AddingLemmas.{length-spelled_attribute}
use Rattle.stun_types.proofs.SigningLemmas.{HasOneMore-signed, length-with_length}
use Rattle.stun_types.proofs.VisibleLemmas.{visible-few}
use Rattle.stun_extra.specs.CanonicalAddress.{is_mapped, xored_canonical}
use Rattle.stun_extra.specs.Fingerprint.{fingerprint_refusal}
use Rattle.stun_extra.specs.Unknown.{unknown_types}
use Rattle.stun_extra.proofs.UnknownLemmas.{unknown_types-few}

-- ---- lengths

pub length_grown : (page : List ℕ) (a : TypedValue) → 20 ≤ length page
    → length (with_attribute page a) ≡ length page + attribute_length (length a.value)
length_grown page a header =
    let n = length_with page (length a.value) in
    let sum = length-append (with_length page n) (spelled_attribute a) in
    omega (arith, sum, length-with_length page n header, length-spelled_attribute a)

digest_short : (algorithm : IntegrityAlgorithm) → digest_length algorithm ≤ 32
digest_short Sha1 = omega arith
digest_short Sha256 = omega arith

length_signed : (page : List ℕ) (algorithm : IntegrityAlgorithm) (key : List ℕ)
    → 20 ≤ length page → length (with_integrity page algorithm key) ≤ length page + 36
length_signed page algorithm key header =
    omega (
      arith,
      length_grown page (integrity_attribute page algorithm key) header,
      length-digest algorithm key (covered_at_end page algorithm),
      digest_short algorithm,
    )

-- a message does not have more types that are not understood
pub few_unknown : (known : List AttributeType) (bytes : List ℕ) → length bytes ≤ LENGTH_LIMIT
    → length (unknown_types known bytes) < 2 ^ 14
few_unknown known bytes short =
    omega (arith, visible-few bytes, unknown_types-few known bytes, short)

short_xor : (xs key : List ℕ) → length (xor_bytes xs key) ≤ length key
short_xor [] key = omega arith
short_xor (x ∷ xs) [] = omega arith
short_xor (x ∷ xs) (k ∷ ks) = omega (arith, short_xor xs ks)

key_long : (id : ℕ) → length (xor_key id) ≡ 16
key_long id = refl

-- an address has few bytes
pub octets_short : (ip : IpAddr) (port id : ℕ) → length ((xored_canonical ip port id).octets) ≤ 16
octets_short (V4 ip) port id = omega (arith, short_xor (ipv4_octets ip) (xor_key id), key_long id)
octets_short (V6 ip) port id =
    by (is_mapped (ipv6_segments ip)) _ _
    (omega (arith, short_xor (low_octets ip) (xor_key id), key_long id))
    (omega (arith, short_xor (ipv6_octets ip) (xor_key id), key_long id))
  where
    by : (b : Bool) (one other : XoredAddress) → length one.octets ≤ 16 → length other.octets ≤ 16
        → length ((cond b one other).octets) ≤ 16
    by true one other first second = first
    by false one other first second = second

-- ---- what is not refused

-- a refusal for a reason that does not hold is one for the other reasons
pub allowed : {E : Type 0} (refuses : Bool) (reason : E) (rest : Option E) → refuses ≡ false
    → rest ≡ None → cond refuses (Some reason) rest ≡ None
allowed refuses reason rest passes none = ap (λ b. cond b (Some reason) rest) passes ∙ none

-- an attribute that is not too long
pub sized : (page : List ℕ) (n : ℕ) → 20 ≤ length page → length page + attribute_length n ≤ LENGTH_LIMIT
    → size_refusal page (LENGTH_LIMIT - length page) n ≡ None
sized page n header fits =
    allowed (nat_lt max_length (length_with page n)) TooLarge
    (cond (nat_lt (LENGTH_LIMIT - length page) (attribute_length n)) (Some TooSmall) None)
    (le-ltb max_length (length_with page n) (omega (arith, fits, header)))
    (allowed (nat_lt (LENGTH_LIMIT - length page) (attribute_length n)) TooSmall None
    (le-ltb (LENGTH_LIMIT - length page) (attribute_length n) (omega (arith, fits))) refl)

-- a signature of an open message
pub open_signs : (page : List ℕ) (algorithm : IntegrityAlgorithm) → IsOpen page
    → length page ≤ 65000 → signing_refusal page (LENGTH_LIMIT - length page) algorithm ≡ None
open_signs page algorithm is_open short =
    allowed (has_integrity page) MessageIntegrityExists
    (size_refusal page (LENGTH_LIMIT - length page) (digest_length algorithm)) is_open.no_integrity
    (sized page (digest_length algorithm) is_open.is_message.header.is_whole
    (omega (arith, short, digest_short algorithm)))

last_fits : (page : List ℕ) → has_kind FINGERPRINT (walk page) ≡ false → 20 ≤ length page
    → length page ≤ 65500 → fingerprint_refusal page (LENGTH_LIMIT - length page) ≡ None
last_fits page none header short =
    allowed (has_kind FINGERPRINT (walk page)) (AttributeExists (record { 0 = FINGERPRINT }))
    (size_refusal page (LENGTH_LIMIT - length page) 4) none
    (sized page 4 header (omega (arith, short)))

-- FINGERPRINT, without a signature
pub open_ends : (page : List ℕ) → IsOpen page → length page ≤ 65000
    → fingerprint_refusal page (LENGTH_LIMIT - length page) ≡ None
open_ends page is_open short =
    last_fits page is_open.no_fingerprint is_open.is_message.header.is_whole
    (omega (arith, short))

-- an attribute of a type is not there because of one of another type
pub still_none : (kind place : ℕ) (members : List Member) (a : TypedValue)
    → has_kind kind members ≡ false → (a.kind == kind) ≡ false
    → has_kind kind (members ++ (place, a) ∷ []) ≡ false
still_none kind place members a none other =
    list_any-append (λ (m : Member). m.1.kind == kind) members ((place, a) ∷ [])
    ∙ (ap (λ b. b || ((a.kind == kind) || false)) none ∙ ap (λ b. b || false) other)

other_kind : (page : List ℕ) (algorithm : IntegrityAlgorithm) (key : List ℕ)
    → ((integrity_attribute page algorithm key).kind == FINGERPRINT) ≡ false
other_kind page Sha1 key = refl
other_kind page Sha256 key = refl

-- FINGERPRINT, after a signature
pub signed_ends : (page : List ℕ) (algorithm : IntegrityAlgorithm) (key : List ℕ) → IsOpen page
    → length page ≤ 65000
    → fingerprint_refusal (with_integrity page algorithm key)
    (LENGTH_LIMIT - length (with_integrity page algorithm key)) ≡ None
signed_ends page algorithm key is_open short =
    let header = is_open.is_message.header.is_whole in
    let attribute = integrity_attribute page algorithm key in
    let one = HasOneMore-signed page algorithm key is_open
    (omega (arith, short, digest_short algorithm)) in
    last_fits (with_integrity page algorithm key)
    (ap (has_kind FINGERPRINT) one.walk_is
    ∙ still_none FINGERPRINT (length page) (walk page) attribute is_open.no_fingerprint
    (other_kind page algorithm key))
    one.is_message.header.is_whole
    (omega (arith, length_signed page algorithm key header, short))

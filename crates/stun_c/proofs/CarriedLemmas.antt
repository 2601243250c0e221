-- What a call in C returns is what the library makes of the same arguments, or a refusal.
use Rattle.std.proofs.Common.{◌≡◌, ◌⊎◌, inl, inr, ℕ, ℤ, pos, List, [], ◌++◌, Bool, true, false}
use Rattle.std.proofs.Common.{eqb-true, Option, Some, None, length, refl, sym, ◌∙◌, ap, arith, Ok, Err}
use Rattle.std.specs.Prelude.{◌≢◌, ◌==◌, ◌-◌, ◌&&◌, ◌||◌, not, drop, take, if◌then◌else◌, nat_lt}
use Rattle.std.specs.Prelude.{nat_abs}
use Rattle.std.specs.Option.{option_or}
use Rattle.std.specs.Str.{is_utf8}
use Rattle.std.specs.declared.result.Result.{Result}
use Rattle.stun_base.specs.Attributes.{XOR_MAPPED_ADDRESS}
use Rattle.stun_base.specs.declared.keys.algorithm.IntegrityAlgorithm.{IntegrityAlgorithm}
use Rattle.stun_base.specs.declared.wire.error.StunParseError.{StunParseError}
use Rattle.stun_base.specs.declared.wire.error.ValidateError.{ValidateError}
use Rattle.stun_types.specs.Attribute.{TypedValue}
use Rattle.stun_types.specs.ErrorCode.{CodeAndReason}
use Rattle.stun_types.specs.Writing.{is_set_apart, with_attribute}
use Rattle.stun_types.specs.XorMappedAddress.{XoredAddress, xor_bytes, xor_key, xor_port, xored_of}
use Rattle.stun_extra.specs.declared.fingerprint.Fingerprint.{Fingerprint}
use Rattle.stun_extra.specs.declared.fingerprint.Fingerprint.TheVariants.{Absent, Misplaced, Right}
use Rattle.stun_extra.specs.declared.fingerprint.Fingerprint.TheVariants.{Wrong}
use Rattle.stun_numbers.specs.Algorithms.{algorithm_number}
use Rattle.stun_numbers.specs.Messages.{base_refusal}
use Rattle.stun_numbers.specs.Refusals.{message_refusal, refusal_number, refusal_of_parse, refusal_or}
use Rattle.stun_numbers.specs.declared.refusal.Refusal.{Refusal}
use Rattle.stun_numbers.specs.declared.refusal.Refusal.TheVariants as r
use Rattle.stun_c.specs.Answers.{Writes, integrity_number, parse_number, unless_no_message}
use Rattle.stun_c.specs.Codes.{refusal_of_verdict}
use Rattle.stun_c.specs.Extra.{fingerprint_number}
use Rattle.stun_c.specs.Reading.{as_text, code_number, header_after, header_in, octets_shown}
use Rattle.stun_c.specs.Reading.{port_after, shown_octets, sized_value, unless_malformed}
use Rattle.stun_c.specs.Turn.{attribute_number}
use Rattle.stun_c.specs.Writing.{added_attribute, added_number, adding_refusal, fit_refusal}
use Rattle.stun_c.specs.Writing.{is_size, shows_kind}
use Rattle.stun_c.specs.declared.header.Header.{Header}

-- ---- numbers

-- no refusal has the number of a success
pub negative : {A : Type 0} (refusal : Refusal) (n : ℕ) → refusal_number refusal ≡ pos n → A
negative r.Truncated n h = cc
negative r.NotStun n h = cc
negative r.TooLarge n h = cc
negative r.NoIntegrity n h = cc
negative r.MalformedIntegrity n h = cc
negative r.IntegrityFailed n h = cc
negative r.BadArgument n h = cc
negative r.NotText n h = cc
negative r.TextTooLong n h = cc
negative r.BufferTooSmall n h = cc
negative r.NotAllowed n h = cc
negative r.Closed n h = cc
negative r.AttributeExists n h = cc
negative r.MessageTooLong n h = cc
negative r.MissingAttribute n h = cc
negative r.MalformedAttribute n h = cc
negative r.OutOfMemory n h = cc
negative r.EmptyHandle n h = cc
negative r.FullHandle n h = cc
negative r.AlreadyInProgress n h = cc
negative r.ProtocolViolation n h = cc
negative r.Unauthorized n h = cc
negative r.BadRequest n h = cc
negative r.StaleNonce n h = cc
negative r.UnsupportedFeature n h = cc
negative r.NoWait n h = cc
negative r.TooManyAddresses n h = cc
negative r.CannotSign n h = cc
negative r.WrongHandle n h = cc

pub same_number : (m n : ℕ) → pos m ≡ pos n → n ≡ m
same_number m n h = sym (ap nat_abs h)

pub told : (o : Option StunParseError) (m n : ℕ) → unless_no_message o (pos m) ≡ pos n
    → (o ≡ None) × (n ≡ m)
told None m n h = (refl, same_number m n h)
told (Some error) m n h = negative (refusal_of_parse error) n h

by_digest : (found : Option IntegrityAlgorithm) (why : ValidateError) (n : ℕ)
    → integrity_number found why ≡ pos n
    → (algorithm : IntegrityAlgorithm) × (found ≡ Some algorithm) × (n ≡ algorithm_number algorithm)
by_digest (Some algorithm) why n h =
    (algorithm, refl, same_number (algorithm_number algorithm) n h)
by_digest None why n h = negative (refusal_of_verdict why) n h

pub verified : (o : Option StunParseError) (found : Option IntegrityAlgorithm) (why : ValidateError)
    (n : ℕ) → unless_no_message o (integrity_number found why) ≡ pos n
    → (algorithm : IntegrityAlgorithm) × (o ≡ None) × (found ≡ Some algorithm)
    × (n ≡ algorithm_number algorithm)
verified None found why n h =
    let one = by_digest found why n h in (one.0, refl, one.1, one.2)
verified (Some error) found why n h = negative (refusal_of_parse error) n h

pub parsed : (o : Option StunParseError) → parse_number o ≡ pos 0 → o ≡ None
parsed None h = refl
parsed (Some error) h = negative (refusal_of_parse error) 0 h

pub right : (o : Option StunParseError) (f : Fingerprint)
    → unless_no_message o (pos (fingerprint_number f)) ≡ pos 1 → (o ≡ None) × (f ≡ Right)
right None Right h = (refl, refl)
right None Absent h = let wrong : 0 ≡ 1 = ap nat_abs h in absurd (omega (arith, wrong))
right None Wrong h = let wrong : 2 ≡ 1 = ap nat_abs h in absurd (omega (arith, wrong))
right None Misplaced h = let wrong : 3 ≡ 1 = ap nat_abs h in absurd (omega (arith, wrong))
right (Some error) f h = negative (refusal_of_parse error) 1 h

-- ---- what is made

abbrev IsResult : {V : Type 0} → Result V Refusal → V → Type 0
IsResult r v = r ≡ Ok v

pub same_bytes : {V : Type 0} (v w : V) → IsResult (Ok v) w → w ≡ v
same_bytes v w h = cc

pub passed : {V : Type 0} (o : Option Refusal) (made : Result V Refusal) (v : V)
    → refusal_or o made ≡ Ok v → made ≡ Ok v
passed None made v h = h
passed (Some refusal) made v h = cc

pub once : {V : Type 0} (o : Option Refusal) (value v : V)
    → refusal_or o (Ok value) ≡ Ok v → v ≡ value
once o value v h = same_bytes value v (passed o (Ok value) v h)

-- what is made if a test holds, or unless it does
pub if-so : {V : Type 0} (b : Bool) (made : Result V Refusal) (why : Refusal) (v : V)
    → (if b then made else Err why) ≡ Ok v → made ≡ Ok v
if-so true made why v h = h
if-so false made why v h = cc

pub when : {V : Type 0} (b : Bool) (value : V) (why : Refusal) (v : V)
    → (if b then Ok value else Err why) ≡ Ok v → v ≡ value
when b value why v h = same_bytes value v (if-so b (Ok value) why v h)

pub unless : {V : Type 0} (b : Bool) (made : Result V Refusal) (why : Refusal) (v : V)
    → (if b then Err why else made) ≡ Ok v → made ≡ Ok v
unless true made why v h = cc
unless false made why v h = h

pub unless-value : {V : Type 0} (b : Bool) (value : V) (why : Refusal) (v : V)
    → (if b then Err why else Ok value) ≡ Ok v → v ≡ value
unless-value b value why v h = same_bytes value v (unless b (Ok value) why v h)

pub added : (buffer : List ℕ) (count attribute : ℕ) (value bytes : List ℕ)
    → added_attribute buffer count attribute value ≡ Ok bytes
    → bytes ≡ with_attribute (take count buffer) (record { kind = attribute; value = value })
added buffer count attribute value bytes =
    once (adding_refusal buffer count attribute (length value))
    (with_attribute (take count buffer) (record { kind = attribute; value = value })) bytes

pub numbered : (buffer : List ℕ) (count attribute : ℕ) (value bytes : List ℕ)
    → added_number buffer count attribute value ≡ Ok bytes
    → bytes ≡ with_attribute (take count buffer) (record { kind = attribute; value = value })
numbered buffer count attribute value bytes h =
    added buffer count attribute value bytes
    (if-so (nat_lt attribute 65536) (added_attribute buffer count attribute value) r.BadArgument
    bytes h)

-- what may repeat is refused for its message or its room alone
pub again : (o p : Option Refusal) (bytes : List ℕ) → o ≡ None → p ≡ None
    → refusal_or (option_or o p) (Ok bytes) ≡ Ok bytes
again None None bytes base fits = refl
again None (Some why) bytes base fits = cc
again (Some why) p bytes base fits = cc

differ : (m n : ℕ) (b : Bool) → (m == n) ≡ b → m ≢ n → b ≡ false
differ m n true is other = absurd (other (eqb-true m n is))
differ m n false is other = refl

-- what may not repeat is refused, if nothing else is refused before
refused_once : (o p : Option Refusal) (a b apart shown : Bool) (bytes : List ℕ) → a ≡ false
    → b ≡ false → shown ≡ true
    → refusal_or (option_or o (if apart then Some r.NotAllowed
    else if not (a || b) && shown then Some r.AttributeExists else p)) (Ok bytes) ≢ Ok bytes
refused_once (Some why) p a b apart shown bytes one two is h = cc
refused_once None p true b apart shown bytes one two is h = cc
refused_once None p false true apart shown bytes one two is h = cc
refused_once None p false false true shown bytes one two is h = cc
refused_once None p false false false true bytes one two is h = cc
refused_once None p false false false false bytes one two is h = cc

pub shown_once : (buffer : List ℕ) (count attribute : ℕ) (value bytes : List ℕ)
    → attribute ≢ 0x0012 → attribute ≢ 0x0016 → shows_kind attribute (take count buffer) ≡ true
    → added_number buffer count attribute value ≢ Ok bytes
shown_once buffer count attribute value bytes peer relayed shown h =
    let made = with_attribute (take count buffer) (record { kind = attribute; value = value }) in
    let added' = if-so (nat_lt attribute 65536) (added_attribute buffer count attribute value)
    r.BadArgument bytes h in
    let same = added buffer count attribute value bytes added' in
    refused_once (base_refusal buffer count)
    (fit_refusal (take count buffer) (length buffer - count) (length value))
    (attribute == 0x0012) (attribute == 0x0016) (is_set_apart attribute)
    (shows_kind attribute (take count buffer)) made
    (differ attribute 0x0012 _ refl peer) (differ attribute 0x0016 _ refl relayed) shown
    (added' ∙ ap Ok same)

pub written : (made : Result (List ℕ) Refusal) (before after : List ℕ) (result : ℤ)
    → Writes made before result after
    → ((bytes : List ℕ) × (rest : List ℕ) × (made ≡ Ok bytes) × (result ≡ pos (length bytes))
    × (after ≡ bytes ++ rest)) ⊎ (after ≡ before)
written (Ok bytes) before after result h =
    inl (bytes, drop (length bytes) before, refl, h.answer, h.written)
written (Err refusal) before after result h = inr h.written

pub answered : (is_request : Bool) (none : Bool) (answer bytes : List ℕ)
    → (if is_request then (if none then Ok [] else Ok answer) else Err r.BadArgument) ≡ Ok bytes
    → (bytes ≡ []) ⊎ (bytes ≡ answer)
answered false none answer bytes h = cc
answered true true answer bytes h = inl (same_bytes [] bytes h)
answered true false answer bytes h = inr (same_bytes answer bytes h)

-- ---- what is read

pub headed : (o : Option StunParseError) (bytes : List ℕ) (header : Header)
    → unless_no_message o (pos 0) ≡ pos 0 → header_after o bytes header ≡ header_in bytes
headed None bytes header h = refl
headed (Some error) bytes header h = negative (refusal_of_parse error) 0 h

pub identified : (o : Option StunParseError) (bytes id : List ℕ)
    → refusal_or (message_refusal o) (Ok (take 12 (drop 8 bytes))) ≡ Ok id
    → (o ≡ None) × (id ≡ take 12 (drop 8 bytes))
identified None bytes id h = (refl, same_bytes (take 12 (drop 8 bytes)) id h)
identified (Some error) bytes id h = cc

code_of_error : (e : Result CodeAndReason StunParseError) (n : ℕ) → code_number e ≡ pos n
    → (error : CodeAndReason) × (e ≡ Ok error) × (n ≡ error.code)
code_of_error (Ok error) n h = (error, refl, same_number error.code n h)
code_of_error (Err why) n h = negative (refusal_of_parse why) n h

pub coded : (o : Option StunParseError) (e : Result CodeAndReason StunParseError) (n : ℕ)
    → unless_no_message o (code_number e) ≡ pos n
    → (error : CodeAndReason) × (e ≡ Ok error) × (n ≡ error.code)
coded None e n h = code_of_error e n h
coded (Some error) e n h = negative (refusal_of_parse error) n h

pub shown : (o : Option Refusal) (a : Result XoredAddress StunParseError) (id : ℕ)
    (octets : List ℕ) (port : ℕ) → refusal_or o (shown_octets a id) ≡ Ok octets
    → (address : XoredAddress) × (a ≡ Ok address) × (octets ≡ xor_bytes address.octets (xor_key id))
    × (port_after (refusal_or o (shown_octets a id)) a port ≡ xor_port address.port)
shown None (Ok address) id octets port h =
    (address, refl, same_bytes (xor_bytes address.octets (xor_key id)) octets h, refl)
shown None (Err why) id octets port h = cc
shown (Some refusal) a id octets port h = cc

the_number : (x : Result ℕ StunParseError) (n : ℕ) → attribute_number x ≡ pos n → x ≡ Ok n
the_number (Ok m) n h = ap Ok (ap nat_abs h)
the_number (Err why) n h = negative (refusal_of_parse why) n h

pub number_read : (o : Option StunParseError) (x : Result ℕ StunParseError) (n : ℕ)
    → unless_no_message o (attribute_number x) ≡ pos n → x ≡ Ok n
number_read None x n h = the_number x n h
number_read (Some error) x n h = negative (refusal_of_parse error) n h

-- ---- at an offset

pub sized : (wrong : Bool) (found value : List ℕ)
    → (if wrong then Err r.BadArgument else sized_value found) ≡ Ok value
    → (if wrong then Err r.BadArgument else Ok found) ≡ Ok value
sized true found value h = cc
sized false found value h =
    ap Ok (sym (when (is_size (length found)) found r.MalformedAttribute value h))

is_text : (good : Bool) (value text : List ℕ) → is_utf8 value ≡ good
    → (if good then Ok value else Err r.NotText) ≡ Ok text
    → IsResult (Ok value) text × (is_utf8 text ≡ true)
is_text true value text is h = (h, ap is_utf8 (same_bytes value text h) ∙ is)
is_text false value text is h = cc

pub text_read : (x : Result (List ℕ) Refusal) (text : List ℕ) → as_text x ≡ Ok text
    → (x ≡ Ok text) × (is_utf8 text ≡ true)
text_read (Ok value) text h = is_text (is_utf8 value) value text refl h
text_read (Err refusal) text h = cc

by_form : (o : Option XoredAddress) (value : List ℕ) (id : ℕ) (octets : List ℕ)
    → xored_of (record { kind = XOR_MAPPED_ADDRESS; value = value }) ≡ o
    → octets_shown (unless_malformed o) id ≡ Ok octets
    → (a : XoredAddress) × (unless_malformed o ≡ Ok a)
    × ((v : List ℕ) × IsResult (Ok value) v
    × (xored_of (record { kind = XOR_MAPPED_ADDRESS; value = v }) ≡ Some a))
    × (octets ≡ xor_bytes a.octets (xor_key id))
by_form None value id octets is h = cc
by_form (Some a) value id octets is h =
    (a, refl, (value, refl, is), same_bytes (xor_bytes a.octets (xor_key id)) octets h)

pub address_read : (wrong : Bool) (found : TypedValue) (id : ℕ) (octets : List ℕ)
    → octets_shown (if wrong then Err r.BadArgument else unless_malformed
    (xored_of (record { kind = XOR_MAPPED_ADDRESS; value = found.value }))) id ≡ Ok octets
    → (a : XoredAddress)
    × ((if wrong then Err r.BadArgument else unless_malformed
    (xored_of (record { kind = XOR_MAPPED_ADDRESS; value = found.value }))) ≡ Ok a)
    × ((v : List ℕ) × ((if wrong then Err r.BadArgument else Ok found.value) ≡ Ok v)
    × (xored_of (record { kind = XOR_MAPPED_ADDRESS; value = v }) ≡ Some a))
    × (octets ≡ xor_bytes a.octets (xor_key id))
address_read true found id octets h = cc
address_read false found id octets h =
    by_form (xored_of (record { kind = XOR_MAPPED_ADDRESS; value = found.value })) found.value id
    octets refl h

-- The values of the attributes with which TURN reports errors: ADDRESS-ERROR-CODE and ICMP (RFC
-- 8656, sections 18.12 and 18.13), byte by byte. Reserved bits are zero when written, and ignored
-- when read.
use Rattle.std.specs.Prelude.{◌≡◌, ◌<◌, ◌^◌, ℕ, ◌+◌, ◌*◌, ◌/◌, ◌%◌, Bool, List, [], ◌∷◌, ◌++◌}
use Rattle.std.specs.Prelude.{length, drop, slice_index, nat_eq, Option, Some, None, Result, Ok}
use Rattle.std.specs.Prelude.{Err, ◌==◌, ◌&&◌, ◌||◌, nat_le, if◌then◌else◌}
use Rattle.std.specs.Ordering.{on, eq_of_both}
use Rattle.std.specs.Cmp.{IsEquivalence, on_equiv, and_equiv, nat_eq_equiv}
use Rattle.std.proofs.Common.{arith, rules}
use Rattle.byteorder.specs.Endian.{big_bytes, big_number}
use Rattle.byteorder.specs.Numbers.{big_number-reads_back}
use Rattle.stun_base.specs.declared.wire.error.StunWriteError.{StunWriteError}
use Rattle.stun_base.specs.declared.wire.error.StunWriteError.TheVariants.{NotAllowed}
use Rattle.stun_base.specs.Attributes.{ERROR_CODE}
use Rattle.stun_types.specs.Attribute.{TypedValue}
use Rattle.stun_types.specs.Equality.{same_error, same_error_equivalence}
use Rattle.stun_types.specs.ErrorCode.{CODE_LENGTH, CodeAndReason, IsError, error_of, error_value}
use Rattle.stun_types.specs.ErrorCodeLaws.{error_of-written}
use Rattle.stun_attributes.specs.AttributeTypes.{ADDRESS_ERROR_CODE, ICMP}
use Rattle.stun_attributes.specs.Turn.{family_number, numbered_family}
use Rattle.stun_attributes.specs.declared.address_family.AddressFamily.{AddressFamily}
use Rattle.stun_attributes.specs.declared.address_family.AddressFamily.TheVariants.{Ipv4, Ipv6}

-- the error for one family of addresses: why a server has not allocated such an address
pub record AddressError : Type 0 where
  pub family : AddressFamily
  pub error : CodeAndReason

-- an error that can be written
abbrev pub IsAddressError : AddressError → Type 0
IsAddressError address = IsError address.error

-- two errors have the same family, code and reason
abbrev pub same_address_error : AddressError → AddressError → Bool
same_address_error =
    eq_of_both (on (λ (a : AddressError). family_number a.family) nat_eq)
    (on (λ (a : AddressError). a.error) same_error)

-- `same_address_error` is an equivalence
pub same_address_error_equivalence : IsEquivalence same_address_error
same_address_error_equivalence =
    and_equiv (on_equiv (λ (a : AddressError). family_number a.family) nat_eq_equiv)
    (on_equiv (λ (a : AddressError). a.error) same_error_equivalence)

-- ADDRESS-ERROR-CODE (section 18.12): the number of the family takes the place of the first byte of
-- an ERROR-CODE, which is reserved there. Then follow, as in ERROR-CODE, 13 reserved bits, class,
-- number and reason phrase
abbrev pub address_error_value : AddressError → List ℕ
address_error_value address = family_number address.family ∷ drop 1 (error_value address.error)

-- the error with a family, a code and a reason, if all of them are present
abbrev pub address_error_with : Option AddressFamily → Option CodeAndReason → Option AddressError
address_error_with (Some family) (Some error) = Some (record { family = family; error = error })
address_error_with (Some family) None = None
address_error_with None error = None

-- the error in an attribute of this type: code and reason are read as those of ERROR-CODE
abbrev pub address_error_of : TypedValue → Option AddressError
address_error_of attribute =
    if attribute.kind == ADDRESS_ERROR_CODE && nat_le CODE_LENGTH (length attribute.value)
    then
    address_error_with (numbered_family (slice_index attribute.value 0))
    (error_of (record { kind = ERROR_CODE; value = attribute.value }))
    else None

-- what an ICMP message reported: its type, its code, and 32 bits of data
pub record IcmpReport : Type 0 where
  pub icmp_type : ℕ
  pub code : ℕ
  pub error_data : ℕ

-- each part fits into its bits: 7 for the type, 9 for the code, and 32 for the data
pub record IsReport (report : IcmpReport) : Type 0 where
  pub icmp_type : report.icmp_type < 2 ^ 7
  pub code : report.code < 2 ^ 9
  pub error_data : report.error_data < 2 ^ 32

-- the result of creating a report, which fails if the type or the code has too many bits
abbrev pub report_answer : ℕ → ℕ → ℕ → Result IcmpReport StunWriteError
report_answer icmp_type code error_data =
    if nat_le (2 ^ 7) icmp_type || nat_le (2 ^ 9) code then Err NotAllowed
    else Ok (record { icmp_type = icmp_type; code = code; error_data = error_data })

-- ICMP (section 18.13): 16 reserved bits, the type, the code, and the data
abbrev pub icmp_value : IcmpReport → List ℕ
icmp_value report =
    0 ∷ 0 ∷ big_bytes 2 (512 * report.icmp_type + report.code) ++ big_bytes 4 report.error_data

-- the report in an attribute of this type
abbrev pub icmp_of : TypedValue → Option IcmpReport
icmp_of attribute =
    if attribute.kind == ICMP && (length attribute.value == 8)
    then Some (record {
      icmp_type = big_number 2 (drop 2 attribute.value) / 512;
      code = big_number 2 (drop 2 attribute.value) % 512;
      error_data = big_number 4 (drop 4 attribute.value);
    }) else None

-- ---- what is written is read again

pub address_error_of-written : (address : AddressError) → IsAddressError address
    → address_error_of (record { kind = ADDRESS_ERROR_CODE; value = address_error_value address })
    ≡ Some address
address_error_of-written address fits = by address.family
  where
    read : (family : AddressFamily)
        → error_of (record {
          kind = ERROR_CODE;
          value = family_number family ∷ drop 1 (error_value address.error);
        }) ≡ Some address.error
    read family = error_of-written address.error fits

    by : (family : AddressFamily)
        → address_error_of (record {
          kind = ADDRESS_ERROR_CODE;
          value = address_error_value (record { family = family; error = address.error });
        }) ≡ Some (record { family = family; error = address.error })
    by Ipv4 = let error = read Ipv4 in search rules
    by Ipv6 = let error = read Ipv6 in search rules

pub icmp_of-written : (report : IcmpReport) → IsReport report
    → icmp_of (record { kind = ICMP; value = icmp_value report }) ≡ Some report
icmp_of-written report fits =
    let both = 512 * report.icmp_type + report.code in
    let read : both / 256 % 256 * 256 + (both % 256 * 1 + 0) ≡ both =
    omega (arith, fits.icmp_type, fits.code) in
    let first : both / 512 ≡ report.icmp_type = omega (arith, fits.code) in
    let second : both % 512 ≡ report.code = omega (arith, fits.code) in
    let last = big_number-reads_back 4 report.error_data [] fits.error_data in
    rw (read, first, second, last) (search rules)

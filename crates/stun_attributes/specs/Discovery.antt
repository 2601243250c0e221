-- The value of CHANGE-REQUEST (RFC 5780, section 7.2). The other attributes of NAT behavior
-- discovery are addresses, bytes and a number of 16 bits.
use Rattle.std.specs.Prelude.{◌≡◌, ◌+◌, ℕ, Bool, true, false, not, List, [], ◌∷◌, length}
use Rattle.std.specs.Prelude.{slice_index, bit_and, Option, Some, None, ◌==◌, ◌&&◌, if◌then◌else◌}
use Rattle.std.proofs.Common.{refl}
use Rattle.stun_types.specs.Attribute.{TypedValue}
use Rattle.stun_attributes.specs.AttributeTypes.{CHANGE_REQUEST}
use Rattle.stun_attributes.specs.declared.change_request.ChangeRequest.{ChangeRequest}

-- CHANGE-REQUEST (section 7.2): 32 bits, two of which ask for a response from a different address
-- (A) and from a different port (B). The other bits are zero when written, and ignored when read.
abbrev pub change_request_value : ChangeRequest → List ℕ
change_request_value request =
    0 ∷ 0 ∷ 0 ∷ ((if request.ip then 0x04 else 0) + (if request.port then 0x02 else 0)) ∷ []

-- both bits of an attribute of this type
abbrev pub change_request_of : TypedValue → Option ChangeRequest
change_request_of attribute =
    if attribute.kind == CHANGE_REQUEST && (length attribute.value == 4)
    then Some (record {
      ip = not (bit_and (slice_index attribute.value 3) 0x04 == 0);
      port = not (bit_and (slice_index attribute.value 3) 0x02 == 0);
    }) else None

-- ---- what is written is read again

pub change_request_of-written : (request : ChangeRequest) → Unit {0}
    → change_request_of (record { kind = CHANGE_REQUEST; value = change_request_value request })
    ≡ Some request
change_request_of-written request holds = by request.ip request.port
  where
    by : (ip port : Bool)
        → change_request_of (record {
          kind = CHANGE_REQUEST;
          value = change_request_value (record { ip = ip; port = port });
        }) ≡ Some (record { ip = ip; port = port })
    by true true = refl
    by true false = refl
    by false true = refl
    by false false = refl

-- The value of TRANSACTION_TRANSMIT_COUNTER (RFC 7982, section 3.2): two reserved bytes, which are
-- zero when written and ignored when read, and the number of transmissions of the request (Req) and
-- of the response (Resp), a byte each.
use Rattle.std.specs.Prelude.{◌≡◌, ◌<◌, ◌^◌, ℕ, List, [], ◌∷◌, length, slice_index, Option, Some}
use Rattle.std.specs.Prelude.{None, ◌==◌, ◌&&◌, if◌then◌else◌}
use Rattle.std.proofs.Common.{rules}
use Rattle.stun_types.specs.Attribute.{TypedValue}
use Rattle.stun_attributes.specs.AttributeTypes.{TRANSACTION_TRANSMIT_COUNTER}

-- the two numbers
pub record TransmitCounts : Type 0 where
  pub requests : ℕ
  pub responses : ℕ

-- both numbers fit into their bytes
abbrev pub AreCounts : TransmitCounts → Type 0
AreCounts counts = (counts.requests < 2 ^ 8) × (counts.responses < 2 ^ 8)

-- the value of the attribute
abbrev pub counts_value : TransmitCounts → List ℕ
counts_value counts = 0 ∷ 0 ∷ counts.requests ∷ counts.responses ∷ []

-- both numbers of an attribute of this type
abbrev pub counts_of : TypedValue → Option TransmitCounts
counts_of attribute =
    if attribute.kind == TRANSACTION_TRANSMIT_COUNTER && (length attribute.value == 4)
    then Some (record {
      requests = slice_index attribute.value 2;
      responses = slice_index attribute.value 3;
    }) else None

-- ---- what is written is read again

pub counts_of-written : (counts : TransmitCounts) → AreCounts counts
    → counts_of (record { kind = TRANSACTION_TRANSMIT_COUNTER; value = counts_value counts })
    ≡ Some counts
counts_of-written counts fits = search rules

-- Why a response cannot be ended: the first of SOFTWARE, the integrity attribute and FINGERPRINT
-- that cannot be added to it (RFC 8489, sections 14.14, 14.5, 14.6 and 14.7).
use Rattle.std.specs.Prelude.{ℕ, ◌-◌, List, Bool, true, false, length, nat_lt}
use Rattle.std.specs.Prelude.{if◌then◌else◌, Option, Some, None}
use Rattle.std.specs.Option.{option_or}
use Rattle.stun_base.specs.declared.wire.error.StunWriteError.{StunWriteError}
use Rattle.stun_base.specs.declared.wire.error.StunWriteError.TheVariants.{TooLarge}
use Rattle.stun_types.specs.Limits.{LENGTH_LIMIT, TEXT_LIMIT}
use Rattle.stun_types.specs.Writing.{attribute_refusal, signing_refusal}
use Rattle.stun_extra.specs.AttributeTypes.{SOFTWARE}
use Rattle.stun_extra.specs.Fingerprint.{fingerprint_refusal}
use Rattle.stun_endpoint.specs.Answers.{Ending, Signature, with_signature, with_software}

-- the room after a message in a writer that grows to the longest message
abbrev pub room_after : List ℕ → ℕ
room_after page = LENGTH_LIMIT - length page

-- why SOFTWARE cannot be added: its text has more than 763 bytes, or the response has the attribute
abbrev pub refused_software : Option (List ℕ) → List ℕ → Option StunWriteError
refused_software None page = None
refused_software (Some text) page =
    if nat_lt TEXT_LIMIT (length text) then Some TooLarge
    else attribute_refusal page (room_after page) SOFTWARE (length text)

abbrev pub refused_signature : Option Signature → List ℕ → Option StunWriteError
refused_signature None page = None
refused_signature (Some by) page = signing_refusal page (room_after page) by.algorithm

abbrev pub refused_last : Bool → List ℕ → Option StunWriteError
refused_last true page = fingerprint_refusal page (room_after page)
refused_last false page = None

-- why a response cannot be ended: the first reason that applies
abbrev pub finish_refusal : Ending → List ℕ → Option StunWriteError
finish_refusal ending page =
    let described = with_software ending.software page in
    option_or (refused_software ending.software page)
    (option_or (refused_signature ending.signature described)
    (refused_last ending.has_fingerprint (with_signature ending.signature described)))

-- How `decode` reports whether a FINGERPRINT is that of its message (RFC 8489, section 14.7).
use Rattle.std.specs.Prelude.{ℕ, List, [], codes, ◌==◌, if◌then◌else◌}
use Rattle.stun_base.specs.Attributes.{FINGERPRINT}
use Rattle.stun_extra.specs.declared.fingerprint.Fingerprint.{Fingerprint}
use Rattle.stun_extra.specs.declared.fingerprint.Fingerprint.TheVariants.{Right, Wrong}
use Rattle.stun_extra.specs.declared.fingerprint.Fingerprint.TheVariants.{Misplaced, Absent}
use Rattle.stun_extra.specs.Fingerprint.{fingerprint_at}
use Rattle.stun_inspect.specs.declared.telling.Told.{Told}

-- the text for each result
abbrev pub fingerprint_text : Fingerprint → List ℕ
fingerprint_text Right = codes ", right"
fingerprint_text Wrong = codes ", wrong"
fingerprint_text Misplaced = codes ", misplaced"
fingerprint_text Absent = []

-- the end of the line for an attribute: for a FINGERPRINT whether it is right
abbrev pub ending_of : List ℕ → Told → List ℕ
ending_of message told =
    if told.attribute.kind == FINGERPRINT
    then fingerprint_text (fingerprint_at message (told.place, told.attribute)) else []

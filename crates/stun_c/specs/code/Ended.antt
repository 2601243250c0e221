-- A message and its FINGERPRINT, as it is written.
use Rattle.std.specs.Prelude.{ℕ, List, ◌++◌}
use Rattle.byteorder.specs.Endian.{big_bytes}
use Rattle.stun_base.specs.Attributes.{FINGERPRINT}
use Rattle.stun_types.specs.Grammar.{spelled_attribute}
use Rattle.stun_types.specs.Message.{with_length}
use Rattle.stun_types.specs.Writing.{length_with}
use Rattle.stun_extra.specs.Fingerprint.{fingerprint_word}

-- the four bytes of the FINGERPRINT after these bytes of a message
unfoldable pub fingerprint_value : List ℕ → List ℕ
fingerprint_value bytes = big_bytes 4 (fingerprint_word bytes)

-- the FINGERPRINT attribute
abbrev pub fingerprint_after : List ℕ → List ℕ
fingerprint_after bytes =
    spelled_attribute (record { kind = FINGERPRINT; value = fingerprint_value bytes })

-- a message whose length counts the attribute, and then the attribute
abbrev pub ended_message : List ℕ → List ℕ
ended_message message =
    with_length message (length_with message 4)
    ++ fingerprint_after (with_length message (length_with message 4))

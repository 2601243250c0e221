-- What `decode` prints.
use Rattle.std.specs.Prelude.{◌≡◌, ℕ, List, [], ◌∷◌, ◌++◌, codes, length, Option, Some, None}
use Rattle.std.specs.Fmt.{decimal}
use Rattle.std.specs.Io.KnownBytes.{Appends}
use Rattle.stun_base.specs.Header.{header_refusal}
use Rattle.stun_base.specs.declared.wire.error.StunParseError.{StunParseError}
use Rattle.stun_base.specs.declared.wire.error.StunParseError.TheVariants.{Truncated, NotStun}
use Rattle.stun_base.specs.declared.wire.error.StunParseError.TheVariants.{TooLarge}
use Rattle.stun_base.specs.declared.wire.error.StunParseError.TheVariants.{MissingAttribute}
use Rattle.stun_base.specs.declared.wire.error.StunParseError.TheVariants.{InvalidAttributeData}
use Rattle.stun_base.specs.AttributeText.{type_text}
use Rattle.stun_cli.specs.Line.{IsLine}
use Rattle.stun_cli.specs.Verdict.{refusal_line}
use Rattle.stun_types.specs.Message.{refusal}
use Rattle.stun_cli.specs.declared.status.Status.{Status}
use Rattle.stun_cli.specs.declared.status.Status.TheVariants.{Good, Bad}
use Rattle.stun_inspect.specs.declared.telling.Told.{Told}
use Rattle.stun_inspect.specs.Telling.{told_attributes}
use Rattle.stun_inspect.specs.Fingerprint.{ending_of}

-- the width of the column of names
abbrev pub NAME_LENGTH : ℕ
NAME_LENGTH = 28

-- the line for an attribute: its name padded to the width of the column, its type and its offset,
-- the rest, for a FINGERPRINT whether it is right, and a line feed
abbrev pub line_with : List ℕ → Told → List ℕ → List ℕ → List ℕ
line_with message told name rest =
    name ++ (codes " "
    ++ (type_text told.attribute.kind
    ++ (codes " at "
    ++ (decimal told.place ++ (codes " " ++ (rest ++ (ending_of message told ++ 10 ∷ [])))))))

-- the text is the line for an attribute, and one line
abbrev pub IsLineOn : List ℕ → Told → List ℕ → Type 0
IsLineOn message told line =
    (name : List ℕ) × (rest : List ℕ) × (length name ≡ NAME_LENGTH) × IsLine line
    × (line ≡ line_with message told name rest)

-- the text is the lines for these attributes, in order
abbrev pub AreLinesOn : List ℕ → List Told → List ℕ → Type 0
AreLinesOn message [] text = text ≡ []
AreLinesOn message (first ∷ others) text =
    (line : List ℕ) × (rest : List ℕ) × IsLineOn message first line × AreLinesOn message others rest
    × (text ≡ line ++ rest)

-- three lines for the header: class, method and transaction ID
abbrev pub IsHeader : List ℕ → Type 0
IsHeader text =
    (first : List ℕ) × (second : List ℕ) × (third : List ℕ) × IsLine first × IsLine second
    × IsLine third
    × (text ≡ first ++ (second ++ third))

-- the text that `decode` prints for a message: the lines for its header, and then a line for each
-- attribute
abbrev pub Describes : List ℕ → List ℕ → Type 0
Describes message text =
    (header : List ℕ) × (lines : List ℕ) × IsHeader header
    × AreLinesOn message (told_attributes message) lines × (text ≡ header ++ lines)

-- the text that `decode` prints for a truncated message, up to the cut: nothing if its header is
-- cut, and otherwise the lines for its header and for each whole attribute
abbrev pub DescribesBeforeCut : Option StunParseError → List ℕ → List ℕ → Type 0
DescribesBeforeCut None bytes text = Describes bytes text
DescribesBeforeCut (Some error) bytes text = text ≡ []

-- what comes before the line that says why bytes are not a message: what comes before the cut of a
-- truncated message, and otherwise nothing
abbrev pub DescribesBeforeRefusal : StunParseError → List ℕ → List ℕ → Type 0
DescribesBeforeRefusal Truncated bytes text = DescribesBeforeCut (header_refusal bytes) bytes text
DescribesBeforeRefusal NotStun bytes text = text ≡ []
DescribesBeforeRefusal TooLarge bytes text = text ≡ []
DescribesBeforeRefusal (MissingAttribute kind) bytes text = text ≡ []
DescribesBeforeRefusal InvalidAttributeData bytes text = text ≡ []

-- the text that `decode` prints for bytes that are not a message
abbrev pub DescribesRefused : StunParseError → List ℕ → List ℕ → Type 0
DescribesRefused error bytes text =
    (front : List ℕ) × DescribesBeforeRefusal error bytes front
    × (text ≡ front ++ refusal_line error)

-- the description of the message is printed, or that of bytes that are not one
abbrev pub PrintsUnlessRefused : Option StunParseError → List ℕ → Status → Option (List ℕ)
    → Option (List ℕ) → Type 0
PrintsUnlessRefused None bytes status before after =
    (status ≡ Good) × (text : List ℕ) × Describes bytes text × Appends before after text
PrintsUnlessRefused (Some error) bytes status before after =
    (status ≡ Bad) × (text : List ℕ) × DescribesRefused error bytes text
    × Appends before after text

-- what is printed for these bytes, and the status that goes with it
abbrev pub PrintsDecoded : List ℕ → Status → Option (List ℕ) → Option (List ℕ) → Type 0
PrintsDecoded bytes status before after =
    PrintsUnlessRefused (refusal bytes) bytes status before after

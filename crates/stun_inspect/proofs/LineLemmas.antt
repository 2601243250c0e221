-- What has no line feed: the text of a type, the words on a FINGERPRINT, and lines made of such.
use Rattle.std.proofs.Common.{◌≡◌, ℕ, ◌/◌, ◌%◌, List, [], ◌∷◌, ◌++◌, true, false, refl, sym, ◌∙◌, ap}
use Rattle.std.proofs.Common.{subst, append_assoc}
use Rattle.std.specs.Prelude.{◌==◌, cond, codes, decimal}
use Rattle.stun_base.specs.Attributes.{FINGERPRINT}
use Rattle.stun_base.specs.AttributeText.{hex_byte, type_text}
use Rattle.stun_cli.proofs.Unbroken.{has_line_feed-append, no_line_feed_in_byte}
use Rattle.stun_cli.proofs.Unbroken.{no_line_feed_in_digits}
use Rattle.stun_cli.specs.Line.{has_line_feed, IsLine}
use Rattle.stun_extra.specs.declared.fingerprint.Fingerprint.{Fingerprint}
use Rattle.stun_extra.specs.declared.fingerprint.Fingerprint.TheVariants.{Right, Wrong}
use Rattle.stun_extra.specs.declared.fingerprint.Fingerprint.TheVariants.{Misplaced, Absent}
use Rattle.stun_extra.specs.Fingerprint.{fingerprint_at}
use Rattle.stun_inspect.specs.declared.telling.Told.{Told}
use Rattle.stun_inspect.specs.Decode.{line_with}
use Rattle.stun_inspect.specs.Fingerprint.{ending_of, fingerprint_text}

-- the text of a type
has_line_feed-type : (kind : ℕ) → has_line_feed (type_text kind) ≡ false
has_line_feed-type kind =
    has_line_feed-append (codes "0x" ++ hex_byte (kind / 256)) (hex_byte (kind % 256))
    (has_line_feed-append (codes "0x") (hex_byte (kind / 256)) refl
    (no_line_feed_in_byte (kind / 256)))
    (no_line_feed_in_byte (kind % 256))

-- the words on a FINGERPRINT
has_line_feed-text : (fingerprint : Fingerprint) → has_line_feed (fingerprint_text fingerprint)
    ≡ false
has_line_feed-text Right = refl
has_line_feed-text Wrong = refl
has_line_feed-text Misplaced = refl
has_line_feed-text Absent = refl

has_line_feed-ending : (message : List ℕ) (told : Told) → has_line_feed (ending_of message told)
    ≡ false
has_line_feed-ending message told =
    let fingerprint = fingerprint_at message (told.place, told.attribute) in
    elim (told.attribute.kind == FINGERPRINT)
    as (λ is. has_line_feed (cond is (fingerprint_text fingerprint) []) ≡ false) [
      | true ↦ has_line_feed-text fingerprint
      | false ↦ refl
    ]

-- a line after a text that has none is a line
line-after : (front line : List ℕ) → has_line_feed front ≡ false → IsLine line
    → IsLine (front ++ line)
line-after front line none is = (
  front ++ is.0,
  has_line_feed-append front is.0 none is.1,
  ap (λ rest. front ++ rest) is.2 ∙ sym (append_assoc front is.0 (10 ∷ [])),
)

-- so the text on an attribute is one line where its name and the rest have none
pub line_with-is_line : (message : List ℕ) (told : Told) (name rest line : List ℕ)
    → has_line_feed name ≡ false → has_line_feed rest ≡ false
    → line ≡ line_with message told name rest → IsLine line
line_with-is_line message told name rest line none_name none_rest is =
    let feed : IsLine (10 ∷ []) = ([], refl, refl) in
    let ending : IsLine (rest ++ (ending_of message told ++ 10 ∷ [])) =
    line-after rest _ none_rest
    (line-after (ending_of message told) (10 ∷ []) (has_line_feed-ending message told) feed) in
    let place : IsLine
    (decimal told.place ++ (codes " " ++ (rest ++ (ending_of message told ++ 10 ∷ [])))) =
    line-after (decimal told.place) _ (no_line_feed_in_digits 10 told.place)
    (line-after (codes " ") _ refl ending) in
    subst IsLine (sym is)
    (line-after name _ none_name (line-after (codes " ") _ refl
    (line-after (type_text told.attribute.kind) _ (has_line_feed-type told.attribute.kind)
    (line-after (codes " at ") _ refl place))))

-- The results of the walk over a message's attributes, which continues from a cursor.
use Rattle.std.specs.Prelude.{ℕ, ℤ, List, length, nat_lt}
use Rattle.std.specs.Prelude.{◌==◌, ◌||◌, if◌then◌else◌, Option, Some, None}
use Rattle.stun_base.specs.Header.{HEADER_LENGTH}
use Rattle.stun_types.specs.Message.{refusal}
use Rattle.stun_types.specs.Visible.{visible, visible_after}
use Rattle.stun_types.specs.Walk.{Member, walk_from}
use Rattle.stun_types.specs.declared.message.visibility.Visibility.{Visibility}
use Rattle.stun_types.specs.declared.message.visibility.Visibility.TheVariants.{Everything, Nothing}
use Rattle.stun_types.specs.declared.message.visibility.Visibility.TheVariants.{AfterIntegrity}
use Rattle.stun_types.specs.declared.message.visibility.Visibility.TheVariants.{
  AfterIntegritySha256,
}
use Rattle.stun_numbers.specs.declared.refusal.Refusal.{Refusal}
use Rattle.stun_numbers.specs.declared.refusal.Refusal.TheVariants.{BadArgument}
use Rattle.stun_numbers.specs.Refusals.{refusal_number, message_refusal}
use Rattle.stun_c.specs.declared.walk.Cursor.{Cursor}
use Rattle.stun_c.specs.Reading.{place_number}

-- what is visible after a cursor, by its number
abbrev pub visibility_from : ℕ → Visibility
visibility_from hidden =
    if hidden == 0 then Everything
    else if hidden == 1 then AfterIntegrity
    else if hidden == 2 then AfterIntegritySha256 else Nothing

-- the attributes after a cursor: at 0 all visible attributes, and at another offset the visible
-- ones from there on
abbrev pub ahead : Cursor → List ℕ → List Member
ahead cursor bytes =
    if cursor.place == 0 then visible bytes
    else visible_after (visibility_from cursor.hidden) (walk_from cursor.place bytes)

-- why nothing is read at a cursor, if nothing is: at 0 the bytes are not a message, and another
-- offset is not after their header or is past their end
abbrev pub cursor_refusal : Cursor → List ℕ → Option Refusal
cursor_refusal cursor bytes =
    if cursor.place == 0 then message_refusal (refusal bytes)
    else if nat_lt cursor.place HEADER_LENGTH || nat_lt (length bytes) cursor.place
    then Some BadArgument
    else None

-- the result of `stunp_walk` for the attribute that it finds, if there is one: where its value
-- begins
abbrev pub walk_answer : Option Refusal → Option Member → ℤ
walk_answer (Some refusal) found = refusal_number refusal
walk_answer None found = place_number found

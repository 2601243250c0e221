-- Which challenge new requests are signed for, and which one a success has confirmed last. This is
-- the library's own rule: RFC 8489 does not say what a client does after a forged challenge.
use Rattle.std.specs.Prelude.{◌≡◌, List, [], ◌∷◌, Bool, true, false, ◌&&◌, not, if◌then◌else◌}
use Rattle.std.specs.Prelude.{Option, Some, None, ⊤}
use Rattle.std.specs.Option.{is_some}
use Rattle.stun_client.specs.Challenges.{Answered, is_one, is_weaker}

-- the current challenge, whether it was confirmed, and the one that was confirmed before it
pub record StandingSeen : Type 0 where
  pub current : Option Answered
  pub is_validated : Bool
  pub validated : Option Answered

abbrev pub new_standing : StandingSeen
new_standing = record { current = None; is_validated = false; validated = None }

-- the challenge that was confirmed last
abbrev pub confirmed : StandingSeen → Option Answered
confirmed s = if s.is_validated then s.current else s.validated

-- whether a challenge is the current one
abbrev pub is_standing : StandingSeen → Option Answered → Bool
is_standing s c = is_one c s.current

abbrev pub is_weaker_than : Answered → Option Answered → Bool
is_weaker_than c None = false
is_weaker_than c (Some other) = is_weaker c.challenge other.challenge

-- whether a challenge is ignored: it is weaker than the one that was confirmed last
abbrev pub is_ignored : StandingSeen → Answered → Bool
is_ignored s c = is_weaker_than c (confirmed s)

-- whether a challenge is stronger than another one, if there is another: the other is weaker than
-- it, and it is not weaker than the other. Each challenge is stronger than none
abbrev pub is_stronger_than : Answered → Option Answered → Bool
is_stronger_than c None = true
is_stronger_than c (Some other) =
    is_weaker other.challenge c.challenge && not (is_weaker c.challenge other.challenge)

-- whether a confirmed challenge replaces the current one: the current challenge is weaker, or there
-- is none
abbrev pub gives_way : Option Answered → Answered → Bool
gives_way None c = true
gives_way (Some current) c = is_weaker current.challenge c.challenge

-- the state after a challenge that is not the current one is confirmed
abbrev pub after_confirming : StandingSeen → Answered → StandingSeen
after_confirming s c =
    if gives_way s.current c
    then record { current = Some c; is_validated = true; validated = None }
    else record { current = s.current; is_validated = false; validated = Some c }

-- the state after a success that answers a message which is signed for a challenge. The challenge
-- is confirmed if it is the current one, or if it is stronger than the challenge that was confirmed
-- last
abbrev pub after_success : StandingSeen → Option Answered → StandingSeen
after_success s None = s
after_success s (Some c) =
    if is_standing s (Some c) then record s { is_validated = true; validated = None }
    else if is_stronger_than c (confirmed s) then after_confirming s c
    else s

-- the state after a request that is signed for a challenge has timed out. If this challenge is the
-- current one, the client goes back to the challenge that was confirmed before it, or to none
abbrev pub after_timeout : StandingSeen → Option Answered → StandingSeen
after_timeout s c =
    if is_standing s c
    then record {
      current = s.validated;
      is_validated = is_some s.validated;
      validated = None;
    }
    else s

-- the state after a challenge is answered, which is then the current one
abbrev pub after_answer : StandingSeen → Answered → StandingSeen
after_answer s c =
    if is_one (Some c) s.current then s
    else record { current = Some c; is_validated = false; validated = confirmed s }

-- the state after a request is sent by another message, which is signed for a challenge or is not
-- signed
abbrev pub answering : StandingSeen → Option Answered → StandingSeen
answering s None = s
answering s (Some c) = after_answer s c

-- the state after a response has ended its request by answering a message that is signed for a
-- challenge. A success confirms the challenge
abbrev pub confirming : Bool → StandingSeen → Option Answered → StandingSeen
confirming is_success s c = if is_success then after_success s c else s

-- ---- what follows

-- a challenge is answered, or a request under a challenge succeeds or times out
pub data StandingEvent : Type 0 where
  answers : Answered → StandingEvent
  succeeds : Option Answered → StandingEvent
  times_out : Option Answered → StandingEvent

abbrev pub standing_after : StandingSeen → StandingEvent → StandingSeen
standing_after s (answers c) = after_answer s c
standing_after s (succeeds c) = after_success s c
standing_after s (times_out c) = after_timeout s c

abbrev pub standing_after_all : StandingSeen → List StandingEvent → StandingSeen
standing_after_all s [] = s
standing_after_all s (e ∷ es) = standing_after_all (standing_after s e) es

-- no ignored challenge is answered, and no request under a confirmed challenge times out
abbrev pub IsUsualEvent : StandingSeen → StandingEvent → Type 0
IsUsualEvent s (answers c) = is_ignored s c ≡ false
IsUsualEvent s (succeeds c) = ⊤
IsUsualEvent s (times_out c) = (s.is_validated && is_standing s c) ≡ false

-- this holds for each event after those before it
abbrev pub AreUsualEvents : StandingSeen → List StandingEvent → Type 0
AreUsualEvents s [] = ⊤
AreUsualEvents s (e ∷ es) = IsUsualEvent s e × AreUsualEvents (standing_after s e) es

-- no ignored challenge is answered
abbrev pub IsHeededEvent : StandingSeen → StandingEvent → Type 0
IsHeededEvent s (answers c) = is_ignored s c ≡ false
IsHeededEvent s (succeeds c) = ⊤
IsHeededEvent s (times_out c) = ⊤

abbrev pub AreHeededEvents : StandingSeen → List StandingEvent → Type 0
AreHeededEvents s [] = ⊤
AreHeededEvents s (e ∷ es) = IsHeededEvent s e × AreHeededEvents (standing_after s e) es

-- A challenge that is weaker than the confirmed one is weaker than the next confirmed one too,
-- because no weaker challenge is answered in between.
use Rattle.std.proofs.Common.{◌≡◌, ◌⊎◌, inl, inr, Bool, true, false, List, [], ◌∷◌}
use Rattle.std.proofs.Common.{Option, Some, None, cond, refl, ◌∙◌, ap, sym}
use Rattle.std.specs.Prelude.{◌&&◌, ◌||◌, not}
use Rattle.std.specs.Option.{IfSome, IsSome, is_none, is_some}
use Rattle.stun_judging.specs.Algorithms.{is_sha256}
use Rattle.stun_client.specs.Challenge.{Challenge}
use Rattle.stun_judging.specs.Signed.{plain_name}
use Rattle.stun_client.specs.Challenges.{Answered, is_one, is_weaker}
use Rattle.stun_client.specs.Standing.{AreHeededEvents, AreUsualEvents, IsHeededEvent, StandingEvent}
use Rattle.stun_client.specs.Standing.{IsUsualEvent, StandingSeen, after_answer, after_confirming}
use Rattle.stun_client.specs.Standing.{standing_after, standing_after_all, after_success, after_timeout}
use Rattle.stun_client.specs.Standing.{answers, confirmed, gives_way, is_ignored, is_standing}
use Rattle.stun_client.specs.Standing.{is_stronger_than, is_weaker_than, new_standing, succeeds}
use Rattle.stun_client.specs.Standing.{times_out}

-- ---- weaker challenges

either : (a b : Bool) → (a || b) ≡ true → (a ≡ true) ⊎ (b ≡ true)
either true b is = inl refl
either false b is = inr is

neither : (a b : Bool) → (a || b) ≡ false → (a ≡ false) × (b ≡ false)
neither true b is = cc
neither false b is = (refl, is)

left_true : (a b : Bool) → a ≡ true → (a || b) ≡ true
left_true true b is = refl
left_true false b is = cc

right_true : (a b : Bool) → b ≡ true → (a || b) ≡ true
right_true true b is = refl
right_true false b is = is

-- one that lacks what the strong one has lacks what the middle one has, which lacks nothing
lacks : (strong middle weak : Bool) → (strong && not weak) ≡ true → (strong && not middle) ≡ false
    → (middle && not weak) ≡ true
lacks true true weak is has = is
lacks true false weak is has = cc
lacks false middle weak is has = cc

between : (c strong middle : Challenge) → is_weaker c strong ≡ true → is_weaker middle strong ≡ false
    → is_weaker c middle ≡ true
between c strong middle weak has =
    let hashed : Challenge → Bool = λ d. is_none (plain_name d.naming) in
    let kept = neither (is_sha256 strong.algorithm && not (is_sha256 middle.algorithm))
    (hashed strong && not (hashed middle)) has in
    elim (either (is_sha256 strong.algorithm && not (is_sha256 c.algorithm))
    (hashed strong && not (hashed c)) weak) [
      | inl less ↦ left_true _ (hashed middle && not (hashed c))
          (lacks (is_sha256 strong.algorithm) (is_sha256 middle.algorithm) (is_sha256 c.algorithm)
          less kept.0)
      | inr less ↦ right_true (is_sha256 middle.algorithm && not (is_sha256 c.algorithm)) _
          (lacks (hashed strong) (hashed middle) (hashed c) less kept.1)
    ]

nothing_lacked : (a b : Bool) → ((a && not a) || (b && not b)) ≡ false
nothing_lacked true true = refl
nothing_lacked true false = refl
nothing_lacked false true = refl
nothing_lacked false false = refl

abbrev pub is_weak : Option Answered → Option Answered → Bool
is_weak None other = false
is_weak (Some c) other = is_weaker_than c other

not_weaker_than_itself : (o : Option Answered) → is_weak o o ≡ false
not_weaker_than_itself None = refl
not_weaker_than_itself (Some c) =
    nothing_lacked (is_sha256 c.challenge.algorithm) (is_none (plain_name c.challenge.naming))

second : (a b : Bool) → (a && not b) ≡ true → b ≡ false
second true true is = cc
second true false is = refl
second false b is = cc

-- what is weaker than a challenge is weaker than one that is stronger than that
over : (c d : Answered) (o : Option Answered) → is_stronger_than d o ≡ true
    → is_weaker_than c o ≡ true → is_weaker_than c (Some d) ≡ true
over c d None stronger weak = cc
over c d (Some e) stronger weak =
    between c.challenge e.challenge d.challenge weak
    (second (is_weaker e.challenge d.challenge) (is_weaker d.challenge e.challenge) stronger)

-- what does not give way is not weaker
stays_strong : (o : Option Answered) (d : Answered) → gives_way o d ≡ false → is_weak o (Some d) ≡ false
stays_strong None d stays = cc
stays_strong (Some e) d stays = stays

-- ---- each event

-- a challenge is ignored, and the current one is not weaker than the confirmed one
record Holds (c : Answered) (s : StandingSeen) : Type 0 where
  ignored : is_weaker_than c (confirmed s) ≡ true
  strong : is_weak s.current (confirmed s) ≡ false

module _ (c : Answered) (s : StandingSeen) (h : Holds c s) where
  answered : (d : Answered) → is_ignored s d ≡ false → Holds c (after_answer s d)
  answered d strong = by (is_one (Some d) s.current)
    where
      by : (b : Bool) → Holds c (cond b s
          (record { current = Some d; is_validated = false; validated = confirmed s }))
      by true = h
      by false = record { ignored = h.ignored; strong = strong }

  weaker_than_current : (d current strong : Option Answered) → is_one d current ≡ true
      → is_weaker_than c strong ≡ true → is_weak current strong ≡ false
      → is_weaker_than c current ≡ true
  weaker_than_current None current strong one weak has = cc
  weaker_than_current (Some d) None strong one weak has = cc
  weaker_than_current (Some d) (Some e) None one weak has = cc
  weaker_than_current (Some d) (Some e) (Some f) one weak has =
      between c.challenge f.challenge e.challenge weak has

  other : (d : Answered) → is_weaker_than c (Some d) ≡ true → Holds c (after_confirming s d)
  other d weak = by (gives_way s.current d) refl
    where
      by : (b : Bool) → gives_way s.current d ≡ b
          → Holds c (cond b (record { current = Some d; is_validated = true; validated = None })
          (record { current = s.current; is_validated = false; validated = Some d }))
      by true way = record { ignored = weak; strong = not_weaker_than_itself (Some d) }
      by false way = record { ignored = weak; strong = stays_strong s.current d way }

  succeeded : (d : Option Answered) → Holds c (after_success s d)
  succeeded None = h
  succeeded (Some d) = by (is_one (Some d) s.current) (is_stronger_than d (confirmed s)) refl refl
    where
      by : (b v : Bool) → is_one (Some d) s.current ≡ b → is_stronger_than d (confirmed s) ≡ v
          → Holds c (cond b (record s { is_validated = true; validated = None })
          (cond v (after_confirming s d) s))
      by true v one stronger = record {
        ignored = weaker_than_current (Some d) s.current (confirmed s) one h.ignored h.strong;
        strong = not_weaker_than_itself s.current;
      }
      by false true one stronger = other d (over c d (confirmed s) stronger h.ignored)
      by false false one stronger = h

  back : (o : Option Answered) → cond (is_some o) o None ≡ o
  back None = refl
  back (Some d) = refl

  timed_out : (d : Option Answered) → (s.is_validated && is_standing s d) ≡ false
      → Holds c (after_timeout s d)
  timed_out d = by s.is_validated (is_standing s d) refl
    where
      by : (v b : Bool) → s.is_validated ≡ v → (v && b) ≡ false
          → Holds c (cond b (record {
            current = s.validated;
            is_validated = is_some s.validated;
            validated = None;
          }) s)
      by v false is usual = h
      by true true is usual = cc
      by false true is usual = record {
        ignored = ap (is_weaker_than c) (back s.validated
            ∙ sym (ap (λ b. cond b s.current s.validated) is)) ∙ h.ignored;
        strong = ap (is_weak s.validated) (back s.validated) ∙ not_weaker_than_itself s.validated;
      }

  after_one : (e : StandingEvent) → IsUsualEvent s e → Holds c (standing_after s e)
  after_one (answers d) usual = answered d usual
  after_one (succeeds d) usual = succeeded d
  after_one (times_out d) usual = timed_out d usual

-- ---- all events

after_all : (c : Answered) (s : StandingSeen) (events : List StandingEvent) → Holds c s → AreUsualEvents s events
    → Holds c (standing_after_all s events)
after_all c s [] h usual = h
after_all c s (e ∷ es) h usual = after_all c (standing_after s e) es (after_one c s h e usual.0) usual.1

pub stays_ignored : (s : StandingSeen) (events : List StandingEvent) (c : Answered)
    → s.is_validated ≡ true → is_ignored s c ≡ true → AreUsualEvents s events
    → is_ignored (standing_after_all s events) c ≡ true
stays_ignored s events c validated ignored usual = (after_all c s events first usual).ignored
  where
    first : Holds c s
    first = record {
      ignored = ignored;
      strong = ap (λ b. is_weak s.current (cond b s.current s.validated)) validated
          ∙ not_weaker_than_itself s.current;
    }

-- ---- nothing gets weaker by a success

-- new requests are signed for no weaker challenge than the one that was confirmed last
pub record IsSound (s : StandingSeen) : Type 0 where
  pub there : IsSome (confirmed s) → IsSome s.current
  pub strong : is_weak s.current (confirmed s) ≡ false

module _ (s : StandingSeen) (sound : IsSound s) where
  answer_sound : (d : Answered) → is_ignored s d ≡ false → IsSound (after_answer s d)
  answer_sound d heeded = by (is_one (Some d) s.current)
    where
      by : (b : Bool) → IsSound (cond b s
          (record { current = Some d; is_validated = false; validated = confirmed s }))
      by true = sound
      by false = record { there = λ some. refl; strong = heeded }

  has : (o : Option Answered) (d : Answered) → gives_way o d ≡ false → IsSome o
  has None d stays = cc
  has (Some e) d stays = refl

  other_sound : (d : Answered) → IsSound (after_confirming s d)
  other_sound d = by (gives_way s.current d) refl
    where
      by : (b : Bool) → gives_way s.current d ≡ b
          → IsSound (cond b (record { current = Some d; is_validated = true; validated = None })
          (record { current = s.current; is_validated = false; validated = Some d }))
      by true way = record { there = λ some. some; strong = not_weaker_than_itself (Some d) }
      by false way = record {
        there = λ some. has s.current d way;
        strong = stays_strong s.current d way;
      }

  success_sound : (d : Option Answered) → IsSound (after_success s d)
  success_sound None = sound
  success_sound (Some d) = by (is_one (Some d) s.current) (is_stronger_than d (confirmed s))
    where
      by : (b v : Bool) → IsSound (cond b (record s { is_validated = true; validated = None })
          (cond v (after_confirming s d) s))
      by true v = record { there = λ some. some; strong = not_weaker_than_itself s.current }
      by false true = other_sound d
      by false false = sound

  timeout_sound : (d : Option Answered) → IsSound (after_timeout s d)
  timeout_sound d = by (is_standing s d) s.validated
    where
      by : (b : Bool) (o : Option Answered) → IsSound (cond b
          (record { current = o; is_validated = is_some o; validated = None }) s)
      by true None = record { there = λ some. some; strong = refl }
      by true (Some e) = record { there = λ some. some; strong = not_weaker_than_itself (Some e) }
      by false o = sound

  after_one_sound : (e : StandingEvent) → IsHeededEvent s e → IsSound (standing_after s e)
  after_one_sound (answers d) heeded = answer_sound d heeded
  after_one_sound (succeeds d) heeded = success_sound d
  after_one_sound (times_out d) heeded = timeout_sound d

after_all_sound : (s : StandingSeen) (events : List StandingEvent) → IsSound s
    → AreHeededEvents s events → IsSound (standing_after_all s events)
after_all_sound s [] sound heeded = sound
after_all_sound s (e ∷ es) sound heeded =
    after_all_sound (standing_after s e) es (after_one_sound s sound e heeded.0) heeded.1

pub is_sound : (events : List StandingEvent) → AreHeededEvents new_standing events
    → IsSound (standing_after_all new_standing events)
is_sound events heeded =
    after_all_sound new_standing events (record { there = λ some. some; strong = refl }) heeded

pub still_ignored : (s : StandingSeen) (d : Option Answered) (c : Answered) → IsSound s
    → is_ignored s c ≡ true → is_ignored (after_success s d) c ≡ true
still_ignored s d c sound ignored =
    (succeeded c s (record { ignored = ignored; strong = sound.strong }) d).ignored

none_weaker : (current strong : Option Answered) → is_weak current strong ≡ false
    → IfSome current (λ c. is_weaker_than c strong ≡ false)
none_weaker None strong is = tt
none_weaker (Some c) strong is = is

pub signed_strongly : (s : StandingSeen) → IsSound s
    → (IsSome (confirmed s) → IsSome s.current) × IfSome s.current (λ c. is_ignored s c ≡ false)
signed_strongly s sound = (sound.there, none_weaker s.current (confirmed s) sound.strong)

pub confirms_standing : (s : StandingSeen) (c : Answered) → is_standing s (Some c) ≡ true
    → confirmed (after_success s (Some c)) ≡ s.current
confirms_standing s c standing =
    ap (λ b. confirmed (cond b (record s { is_validated = true; validated = None })
    (cond (is_stronger_than c (confirmed s)) (after_confirming s c) s))) standing

pub confirms_stronger : (s : StandingSeen) (c : Answered) → is_standing s (Some c) ≡ false
    → is_stronger_than c (confirmed s) ≡ true → confirmed (after_success s (Some c)) ≡ Some c
confirms_stronger s c standing stronger =
    ap (λ b. confirmed (cond b (record s { is_validated = true; validated = None })
    (cond (is_stronger_than c (confirmed s)) (after_confirming s c) s))) standing
    ∙ ap (λ b. confirmed (cond b (after_confirming s c) s)) stronger ∙ by (gives_way s.current c)
  where
    by : (b : Bool) → confirmed (cond b
        (record { current = Some c; is_validated = true; validated = None })
        (record { current = s.current; is_validated = false; validated = Some c })) ≡ Some c
    by true = refl
    by false = refl

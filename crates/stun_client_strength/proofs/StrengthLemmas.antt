-- For every sequence of calls: no challenge that is weaker than a confirmed one is answered.
use Rattle.std.proofs.Common.{◌≡◌, ◌∙◌, ◌≤◌, ◌+◌, ℕ, Bool, true, false, List}
use Rattle.std.proofs.Common.{Option, Some, None, ap, arith, cond, min, refl, subst, sym}
use Rattle.std.specs.Bool.{⊤}
use Rattle.std.specs.Option.{is_none, is_some, option_map_or}
use Rattle.std.specs.Prelude.{◌&&◌, ◌||◌, not}
use Rattle.stun_agent.specs.Tables.{datum_at}
use Rattle.stun_judging.specs.Algorithms.{is_sha256}
use Rattle.stun_judging.specs.Signed.{plain_name}
use Rattle.stun_client.specs.Challenge.{Challenge}
use Rattle.stun_client.specs.Challenges.{Answered, is_one, is_weaker}
use Rattle.stun_client.specs.Standing.{answering}
use Rattle.stun_client.specs.Judging.{Identity, judged}
use Rattle.stun_client.specs.Standing.{StandingSeen, after_answer, after_success, after_timeout}
use Rattle.stun_client.specs.Standing.{confirmed, gives_way, is_ignored, is_standing}
use Rattle.stun_client.specs.Standing.{is_stronger_than, is_weaker_than}
use Rattle.stun_client_endpoint.specs.Bodies.{Body}
use Rattle.stun_client_requests.specs.declared.requests.Request.{Request}
use Rattle.stun_client_calls.specs.Clients.{changed}
use Rattle.stun_client_calls.specs.Deciding.{Place, turns}
use Rattle.stun_client_calls.specs.Laws.{Judge, decision_on}
use Rattle.stun_client_calls.specs.Messages.{AskedSeen, TurnSeen, challenge_for}
use Rattle.stun_client_calls.specs.Messages.{is_doubt, is_too_weak, new_asked, turned}
use Rattle.stun_client_calls.specs.OptionLaws.{is_unsigned}
use Rattle.stun_client_calls.specs.Options.{Options, challenge_by}
use Rattle.stun_client_calls.specs.declared.asked.Change.{Change}
use Rattle.stun_client_calls.specs.declared.asked.Change.TheVariants.{Noted, Refused, SentOut}
use Rattle.stun_client_calls.specs.declared.turning.Why.{Why}
use Rattle.stun_client_calls.proofs.EachLemmas.{Stored}
use Rattle.stun_client_strength.specs.Strength.{IsNoWeaker}
use Rattle.stun_client_strength.specs.Unsigned.{IsNeverSigned}
use Rattle.stun_client_runs.proofs.EachAtLemmas.{numbered}
use Rattle.stun_client_strength.proofs.HeldLemmas.{AreRules}
use Rattle.stun_client_strength.proofs.RuleLemmas.{always}
use Rattle.stun_client_strength.proofs.TurnLemmas.{turn_of, unsigned_is_doubt}
use Rattle.stun_client_strength.proofs.UnsignedLemmas.{standing_signed, starts_unsigned}

-- ---- no weaker than what is confirmed

neither : (a b : Bool) → (a || b) ≡ false → (a ≡ false) × (b ≡ false)
neither true b is = cc
neither false b is = (refl, is)

-- what is lacked beside the strong one is lacked beside the middle one, which lacks nothing
not_lacked : (strong middle weak : Bool) → (strong && not middle) ≡ false
    → (middle && not weak) ≡ false → (strong && not weak) ≡ false
not_lacked false middle weak one other = refl
not_lacked true false weak one other = cc
not_lacked true true weak one other = other

none_lacked : (a b : Bool) → a ≡ false → b ≡ false → (a || b) ≡ false
none_lacked false false one other = refl
none_lacked false true one other = cc
none_lacked true b one other = cc

-- not weaker than one that is not weaker than another
not_weaker : (c middle strong : Challenge) → is_weaker middle strong ≡ false
    → is_weaker c middle ≡ false → is_weaker c strong ≡ false
not_weaker c middle strong one other =
    let hashed : Challenge → Bool = λ d. is_none (plain_name d.naming) in
    let first = neither (is_sha256 strong.algorithm && not (is_sha256 middle.algorithm))
    (hashed strong && not (hashed middle)) one in
    let second = neither (is_sha256 middle.algorithm && not (is_sha256 c.algorithm))
    (hashed middle && not (hashed c)) other in
    none_lacked (is_sha256 strong.algorithm && not (is_sha256 c.algorithm))
    (hashed strong && not (hashed c))
    (not_lacked (is_sha256 strong.algorithm) (is_sha256 middle.algorithm) (is_sha256 c.algorithm)
    first.0 second.0)
    (not_lacked (hashed strong) (hashed middle) (hashed c) first.1 second.1)

itself : (a b : Bool) → ((a && not a) || (b && not b)) ≡ false
itself true true = refl
itself true false = refl
itself false true = refl
itself false false = refl

no_second : (a b : Bool) → (a && not b) ≡ true → b ≡ false
no_second true true is = cc
no_second true false is = refl
no_second false b is = cc

-- nothing is weaker than itself
not_weaker_itself : (c : Challenge) → is_weaker c c ≡ false
not_weaker_itself c = itself (is_sha256 c.algorithm) (is_none (plain_name c.naming))

-- the current challenge is not weaker than the confirmed one, if there is one
pub record IsSound (s : StandingSeen) : Type 0 where
  pub sound : (c : Answered) → confirmed s ≡ Some c → IsNoWeaker c s.current

-- whatever is outstanding
abbrev pub any_asked : ℕ → Request AskedSeen → Type 0
any_asked id q = ⊤

-- neither the current challenge nor the confirmed one is weaker
pub record AreStrong (strong : Answered) (s : StandingSeen) : Type 0 where
  pub current : IsNoWeaker strong s.current
  pub confirmed_one : IsNoWeaker strong (confirmed s)

-- the current message of a request is signed for a challenge that is not weaker, is not signed
-- because of a doubt, was the current one at a time, or is not to be signed
pub data IsStrongFor (strong : Answered) (then_stored : Stored) (id : ℕ) (q : Request AskedSeen)
    : Type 0 where
  by_challenge : IsNoWeaker strong q.datum.signed_for → IsStrongFor strong then_stored id q
  by_doubt : q.datum.signed_for ≡ None → 1 ≤ q.datum.doubts → IsStrongFor strong then_stored id q
  by_time : (b : AskedSeen) → datum_at id then_stored ≡ Some (numbered q.number b)
      → b.signed_for ≡ q.datum.signed_for → IsStrongFor strong then_stored id q
  by_options : is_unsigned q.datum.options ≡ true → IsNeverSigned q.datum
      → IsStrongFor strong then_stored id q

-- what times out has no message for the confirmed challenge
abbrev pub is_other : StandingSeen → AskedSeen → Type 0
is_other s a = (s.is_validated && is_standing s (challenge_for s.current a)) ≡ false

pub its_own : (o : Option Answered) (c : Answered) → o ≡ Some c → IsNoWeaker c o
its_own o c is = record { challenge = c; is = is; strong = not_weaker_itself c.challenge }

-- what the law of a client says: it never turns to a weaker message
abbrev pub NeverWeaker : Type 0
NeverWeaker =
    (j : Judge) (is_current : Bool) (now : ℕ) (a : AskedSeen) (before : Option Answered)
    (bytes : List ℕ) (why : Why) (place : Option Place) (c : Option Answered)
    → decision_on j is_current now a before bytes ≡ turns why place c
    → is_too_weak j.standing c ≡ false

module _ (never : NeverWeaker) (identity : Identity) where
  answer_sound : (s : StandingSeen) (x : Answered) → is_ignored s x ≡ false → IsSound s
      → IsSound (after_answer s x)
  answer_sound s x strong sound = by (is_one (Some x) s.current)
    where
      by : (b : Bool) → IsSound (cond b s
          (record { current = Some x; is_validated = false; validated = confirmed s }))
      by true = sound
      by false = record {
        sound = λ c is. record {
          challenge = x;
          is = refl;
          strong = ap (λ (o : Option Answered).
              option_map_or (λ d. is_weaker x.challenge d.challenge) o false) (sym is)
              ∙ weaker_of (confirmed s) ∙ strong;
        };
      }
        where
          weaker_of : (o : Option Answered)
              → option_map_or (λ d. is_weaker x.challenge d.challenge) o false ≡ is_weaker_than x o
          weaker_of None = refl
          weaker_of (Some d) = refl

  -- what does not give way is not weaker
  stays : (o : Option Answered) (d c : Answered) → gives_way o d ≡ false → Some d ≡ Some c
      → IsNoWeaker c o
  stays None d c way is = cc
  stays (Some e) d c way is =
      let same : d ≡ c = ap (λ (o : Option Answered). option_map_or (λ x. x) o d) is in
      record {
        challenge = e;
        is = refl;
        strong = subst (λ (x : Answered). is_weaker e.challenge x.challenge ≡ false) same way;
      }

  success_sound : (s : StandingSeen) (o : Option Answered) → IsSound s → IsSound (after_success s o)
  success_sound s None sound = sound
  success_sound s (Some d) sound =
      by (is_standing s (Some d)) (is_stronger_than d (confirmed s)) (gives_way s.current d) refl
    where
      by : (b v w : Bool) → gives_way s.current d ≡ w
          → IsSound (cond b (record s { is_validated = true; validated = None })
          (cond v (cond w (record { current = Some d; is_validated = true; validated = None })
          (record { current = s.current; is_validated = false; validated = Some d })) s))
      by true v w way = record { sound = λ c is. its_own s.current c is }
      by false true true way = record { sound = λ c is. its_own (Some d) c is }
      by false true false way = record { sound = λ c is. stays s.current d c way is }
      by false false w way = sound

  -- the one that was confirmed before, which is then the current one
  back : (o : Option Answered) (c : Answered) → cond (is_some o) o None ≡ Some c
      → IsNoWeaker c o
  back None c is = cc
  back (Some d) c is = its_own (Some d) c is

  timeout_sound : (s : StandingSeen) (o : Option Answered) → IsSound s → IsSound (after_timeout s o)
  timeout_sound s o sound = by (is_standing s o)
    where
      by : (b : Bool) → IsSound (cond b
          (record {
            current = s.validated;
            is_validated = is_some s.validated;
            validated = None;
          }) s)
      by true = record { sound = λ c is. back s.validated c is }
      by false = sound

  answering_sound : (s : StandingSeen) (d : Option Answered) → is_too_weak s d ≡ false → IsSound s
      → IsSound (answering s d)
  answering_sound s None strong sound = sound
  answering_sound s (Some x) strong sound = answer_sound s x strong sound

  pub sound_rules : AreRules identity 0 IsSound any_asked always
  sound_rules = record {
    starts = λ s id number method until body options low sound. tt;
    changes = λ id number change a its. tt;
    turns_so = λ j now id new number former a bytes place t is_kept signed same sound its is. tt;
    answers = λ j now id number a bytes place why d signed same sound its is.
        answering_sound j.standing d (never j true now a a.signed_for bytes why place d is) sound;
    succeeds = λ s id number a o sound its signed. success_sound s o sound;
    lapses = λ s a let_so sound. timeout_sound s (challenge_for s.current a) sound;
  }

  -- ---- since a challenge was confirmed

  module _ (strong : Answered) (then_stored : Stored) where
    strong_still : (s : StandingSeen) (x : Answered) → is_ignored s x ≡ false → AreStrong strong s
        → is_weaker x.challenge strong.challenge ≡ false
    strong_still s x not_ignored are =
        not_weaker x.challenge are.confirmed_one.challenge.challenge strong.challenge
        are.confirmed_one.strong
        (sym (ap (λ (o : Option Answered). is_weaker_than x o) are.confirmed_one.is) ∙ not_ignored)

    answer_strong : (s : StandingSeen) (x : Answered) → is_ignored s x ≡ false → AreStrong strong s
        → AreStrong strong (after_answer s x)
    answer_strong s x not_ignored are = by (is_one (Some x) s.current)
      where
        by : (b : Bool) → AreStrong strong (cond b s
            (record { current = Some x; is_validated = false; validated = confirmed s }))
        by true = are
        by false = record {
          current = record { challenge = x; is = refl; strong = strong_still s x not_ignored are };
          confirmed_one = are.confirmed_one;
        }

    -- what is stronger than the confirmed one is not weaker
    stronger_still : (s : StandingSeen) (d : Answered) → is_stronger_than d (confirmed s) ≡ true
        → AreStrong strong s → IsNoWeaker strong (Some d)
    stronger_still s d stronger are =
        let e = are.confirmed_one.challenge in
        record {
          challenge = d;
          is = refl;
          strong = not_weaker d.challenge e.challenge strong.challenge are.confirmed_one.strong
              (no_second (is_weaker e.challenge d.challenge) (is_weaker d.challenge e.challenge)
              (sym (ap (is_stronger_than d) are.confirmed_one.is) ∙ stronger));
        }

    success_strong : (s : StandingSeen) (o : Option Answered) → AreStrong strong s
        → AreStrong strong (after_success s o)
    success_strong s None are = are
    success_strong s (Some d) are =
        by (is_standing s (Some d)) (is_stronger_than d (confirmed s)) (gives_way s.current d) refl
      where
        by : (b v w : Bool) → is_stronger_than d (confirmed s) ≡ v
            → AreStrong strong (cond b (record s { is_validated = true; validated = None })
            (cond v (cond w (record { current = Some d; is_validated = true; validated = None })
            (record { current = s.current; is_validated = false; validated = Some d })) s))
        by true v w is = record { current = are.current; confirmed_one = are.current }
        by false true true is = record {
          current = stronger_still s d is are;
          confirmed_one = stronger_still s d is are;
        }
        by false true false is = record {
          current = are.current;
          confirmed_one = stronger_still s d is are;
        }
        by false false w is = are

    -- back to the confirmed one
    back_strong : (o : Option Answered) → IsNoWeaker strong o
        → IsNoWeaker strong (cond (is_some o) o None)
    back_strong None is = is
    back_strong (Some d) is = is

    timeout_strong : (s : StandingSeen) (a : AskedSeen) → is_other s a → AreStrong strong s
        → AreStrong strong (after_timeout s (challenge_for s.current a))
    timeout_strong s a other are =
        by s.is_validated (is_standing s (challenge_for s.current a)) refl other
      where
        by : (v b : Bool) → s.is_validated ≡ v → (v && b) ≡ false → AreStrong strong (cond b
            (record {
              current = s.validated;
              is_validated = is_some s.validated;
              validated = None;
            }) s)
        by true true is clash = cc
        by v false is none = are
        by false true is none =
            let before : IsNoWeaker strong s.validated =
            subst (λ t. IsNoWeaker strong (cond t s.current s.validated)) is are.confirmed_one in
            record { current = before; confirmed_one = back_strong s.validated before }

    -- ---- each request

    -- the same message
    same_message : (id number : ℕ) (a b : AskedSeen) → a.signed_for ≡ b.signed_for
        → a.doubts ≡ b.doubts → a.options ≡ b.options → a.earlier ≡ b.earlier
        → IsStrongFor strong then_stored id (numbered number a)
        → IsStrongFor strong then_stored id (numbered number b)
    same_message id number a b signed count options earlier (by_challenge is) =
        by_challenge (subst (λ (o : Option Answered). IsNoWeaker strong o) signed is)
    same_message id number a b signed count options earlier (by_doubt none many) =
        by_doubt (sym signed ∙ none) (subst (λ n. 1 ≤ n) count many)
    same_message id number a b signed count options earlier (by_time c there same) =
        by_time c there (same ∙ signed)
    same_message id number a b signed count options earlier (by_options off never) =
        by_options (sym (ap is_unsigned options) ∙ off)
        (record { current = sym signed ∙ never.current; earlier = sym earlier ∙ never.earlier })

    changed_strong : (id number : ℕ) (change : Change) (a : AskedSeen)
        → IsStrongFor strong then_stored id (numbered number a)
        → IsStrongFor strong then_stored id (numbered number (changed change a))
    changed_strong id number (SentOut now) a its =
        same_message id number a (changed (SentOut now) a) refl refl refl refl its
    changed_strong id number (Noted why code) a its =
        same_message id number a (changed (Noted why code) a) refl refl refl refl its
    changed_strong id number (Refused code) a its =
        same_message id number a (changed (Refused code) a) refl refl refl refl its

    -- a request that starts
    new_strong : (id number method until : ℕ) (body : Body) (options : Option Options)
        (current : Option Answered) → IsNoWeaker strong current
        → IsStrongFor strong then_stored id
        (numbered number (new_asked method body options until (challenge_by options current)))
    new_strong id number method until body options current is =
        by (is_unsigned options) refl
      where
        by : (b : Bool) → is_unsigned options ≡ b
            → IsStrongFor strong then_stored id
            (numbered number (new_asked method body options until (challenge_by options current)))
        by false signed =
            by_challenge (subst (λ (o : Option Answered). IsNoWeaker strong o)
            (sym (standing_signed options current signed)) is)
        by true off =
            by_options off (starts_unsigned method until body options current off)

    answering_strong : (s : StandingSeen) (d : Option Answered) → is_too_weak s d ≡ false
        → AreStrong strong s → AreStrong strong (answering s d)
    answering_strong s None not_weak are = are
    answering_strong s (Some x) not_weak are = answer_strong s x not_weak are

    counted_some : (why : Why) (n : ℕ) → is_doubt why ≡ true
        → 1 ≤ cond (is_doubt why) (min (n + 1) 4294967295) n
    counted_some why n is =
        subst (λ b. 1 ≤ cond b (min (n + 1) 4294967295) n) (sym is) (some n)
      where
        some : (n : ℕ) → 1 ≤ min (n + 1) 4294967295
        some n = omega arith

    turn_strong : (s : StandingSeen) (former new number : ℕ) (a : AskedSeen) (t : TurnSeen)
        (is_kept : Bool) → is_too_weak s t.signed_for ≡ false
        → (t.signed_for ≡ None → is_doubt t.why ≡ true) → AreStrong strong s
        → IsStrongFor strong then_stored new (numbered number (turned is_kept former t a))
    turn_strong s former new number a t is_kept not_weak doubt are = by t.signed_for refl
      where
        by : (o : Option Answered) → t.signed_for ≡ o
            → IsStrongFor strong then_stored new (numbered number (turned is_kept former t a))
        by None is = by_doubt is (counted_some t.why a.doubts (doubt is))
        by (Some x) is = by_challenge (record {
          challenge = x;
          is = is;
          strong = strong_still s x (sym (ap (is_too_weak s) is) ∙ not_weak) are;
        })

    pub strong_rules : AreRules identity 0 (AreStrong strong) (IsStrongFor strong then_stored)
        is_other
    strong_rules = record {
      starts = λ s id number method until body options low are.
          new_strong id number method until body options s.current are.current;
      changes = λ id number change a its. changed_strong id number change a its;
      turns_so = λ j now id new number former a bytes place t is_kept signed same are its is.
          turn_strong j.standing former new number a t is_kept
          (never j true now a a.signed_for bytes t.why place t.signed_for is)
          (λ none. unsigned_is_doubt a
          (judged j.required true j.identity j.standing a.signed_for bytes) t.why t.signed_for
          (turn_of j.limits j.standing now a
          (judged j.required true j.identity j.standing a.signed_for bytes) t.why place t.signed_for
          is) none) are;
      answers = λ j now id number a bytes place why d signed same are its is.
          answering_strong j.standing d (never j true now a a.signed_for bytes why place d is) are;
      succeeds = λ s id number a o are its signed. success_strong s o are;
      lapses = λ s a other are. timeout_strong s a other are;
    }

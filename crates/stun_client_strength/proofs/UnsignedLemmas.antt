-- A request that is not to be signed is answered, or a response to it is dropped.
use Rattle.std.proofs.Common.{◌≡◌, ◌∙◌, ℕ, Bool, true, false, List, Option, Some, None, ap}
use Rattle.std.proofs.Common.{cond, refl, subst, sym}
use Rattle.std.specs.Option.{option_map_or}
use Rattle.std.specs.Prelude.{find, not}
use Rattle.stun_client.specs.Challenges.{Answered}
use Rattle.stun_client.specs.Standing.{confirming}
use Rattle.stun_client.specs.Judging.{Identity, IsEndOrNothing, Verdict, anew, believed, doubted}
use Rattle.stun_client.specs.Judging.{dropped, fault_in, judged, refused, unless_faulty, unsigned}
use Rattle.stun_client.specs.Standing.{StandingSeen, after_timeout}
use Rattle.stun_client.specs.declared.judged.Distrust.{Distrust}
use Rattle.stun_client.specs.declared.judged.Distrust.TheVariants.{NotVerified}
use Rattle.stun_client_endpoint.specs.Bodies.{Body}
use Rattle.stun_client_calls.specs.Clients.{changed}
use Rattle.stun_client_calls.specs.Deciding.{DecisionSeen, Place, answered, decided, drops, refuses}
use Rattle.stun_client_calls.specs.Deciding.{turns, challenged_out}
use Rattle.stun_client_calls.specs.Laws.{IsAnswerOrDrop, Judge, decision_on}
use Rattle.stun_client_calls.specs.Messages.{AllSent, AskedSeen, SentSeen, TurnSeen, challenge_for}
use Rattle.stun_client_calls.specs.Messages.{message_for, new_asked, stepped_back, turned}
use Rattle.stun_client_calls.specs.OptionLaws.{is_unsigned}
use Rattle.stun_client_calls.specs.Options.{Options, challenge_by, identity_by}
use Rattle.stun_client_calls.specs.declared.asked.Change.{Change}
use Rattle.stun_client_calls.specs.declared.asked.Change.TheVariants.{Noted, Refused, SentOut}
use Rattle.stun_client_calls.specs.declared.deciding.Limits.{Limits}
use Rattle.stun_client_calls.specs.declared.turning.Why.{Why}
use Rattle.stun_client_strength.specs.Unsigned.{IsNeverSigned}

-- ---- options

pub for_signed : (o : Option Options) (i : Identity) → is_unsigned o ≡ false
    → identity_by o i ≡ i
for_signed None i is = refl
for_signed (Some o) i is = by o.is_signed is
  where
    by : (b : Bool) → not b ≡ false → cond b i unsigned ≡ i
    by true is = refl
    by false is = cc

pub for_unsigned : (o : Option Options) (i : Identity) → is_unsigned o ≡ true
    → identity_by o i ≡ unsigned
for_unsigned None i is = cc
for_unsigned (Some o) i is = by o.is_signed is
  where
    by : (b : Bool) → not b ≡ true → cond b i unsigned ≡ unsigned
    by true is = cc
    by false is = refl

pub standing_signed : (o : Option Options) (c : Option Answered) → is_unsigned o ≡ false
    → challenge_by o c ≡ c
standing_signed None c is = refl
standing_signed (Some o) c is = by o.is_signed is
  where
    by : (b : Bool) → not b ≡ false → cond b c None ≡ c
    by true is = refl
    by false is = cc

pub none_signed : (o : Option Options) (c : Option Answered) → is_unsigned o ≡ true
    → challenge_by o c ≡ None
none_signed None c is = cc
none_signed (Some o) c is = by o.is_signed is
  where
    by : (b : Bool) → not b ≡ true → cond b c None ≡ None
    by true is = cc
    by false is = refl

-- ---- what a response comes to

without_identity : (is_current : Bool) (o : Option Distrust)
    → IsEndOrNothing (unless_faulty (cond is_current (believed None) (dropped NotVerified)) o)
without_identity true None = tt
without_identity false None = tt
without_identity true (Some why) = tt
without_identity false (Some why) = tt

-- it ends its request, or nothing comes of it
pub unsigned_ends : (required is_current : Bool) (identity : Identity) (standing : StandingSeen)
    (before : Option Answered) (bytes : List ℕ) → identity ≡ unsigned
    → IsEndOrNothing (judged required is_current identity standing before bytes)
unsigned_ends required is_current identity standing before bytes is =
    subst (λ (i : Identity). IsEndOrNothing (judged required is_current i standing before bytes))
    (sym is) (without_identity is_current (fault_in required bytes))

of_verdict : (limits : Limits) (standing : StandingSeen) (now : ℕ) (a : AskedSeen) (v : Verdict)
    → IsEndOrNothing v → IsAnswerOrDrop (decided limits standing now a v)
of_verdict limits standing now a (believed by) is = tt
of_verdict limits standing now a (anew x) is = absurd is
of_verdict limits standing now a (refused x) is = absurd is
of_verdict limits standing now a doubted is = absurd is
of_verdict limits standing now a (dropped why) is = tt

pub unsigned_answers_or_drops : (j : Judge) (is_current : Bool) (now : ℕ) (a : AskedSeen)
    (before : Option Answered) (bytes : List ℕ) → j.identity ≡ unsigned
    → IsAnswerOrDrop (decision_on j is_current now a before bytes)
unsigned_answers_or_drops j is_current now a before bytes is =
    of_verdict j.limits j.standing now a
    (judged j.required is_current j.identity j.standing before bytes)
    (unsigned_ends j.required is_current j.identity j.standing before bytes is)

pub no_turn_of_answer : (d : DecisionSeen) (why : Why) (place : Option Place) (c : Option Answered)
    → IsAnswerOrDrop d → d ≡ turns why place c → ⊥
no_turn_of_answer (answered by) why place c so is = cc
no_turn_of_answer challenged_out why place c so is = cc
no_turn_of_answer (turns w p x) why place c so is = absurd so
no_turn_of_answer refuses why place c so is = cc
no_turn_of_answer (drops w) why place c so is = cc

-- another message becomes the current one only of a request that is to be signed
pub turn_is_signed : (j : Judge) (is_current : Bool) (now : ℕ) (a : AskedSeen)
    (before : Option Answered) (bytes : List ℕ) (why : Why) (place : Option Place)
    (d : Option Answered) (identity : Identity) → j.identity ≡ identity_by a.options identity
    → decision_on j is_current now a before bytes ≡ turns why place d
    → is_unsigned a.options ≡ false
turn_is_signed j is_current now a before bytes why place d identity is decides =
    by (is_unsigned a.options) refl
  where
    by : (b : Bool) → is_unsigned a.options ≡ b → is_unsigned a.options ≡ false
    by false signed = signed
    by true off =
        absurd (no_turn_of_answer (decision_on j is_current now a before bytes) why place d
        (unsigned_answers_or_drops j is_current now a before bytes
        (is ∙ for_unsigned a.options identity off)) decides)

-- ---- its message

-- a request is never signed, if it is not to be
abbrev pub StaysUnsigned : AskedSeen → Type 0
StaysUnsigned a = is_unsigned a.options ≡ true → IsNeverSigned a

pub starts_unsigned : (method until : ℕ) (body : Body) (options : Option Options)
    (current : Option Answered)
    → StaysUnsigned (new_asked method body options until (challenge_by options current))
starts_unsigned method until body options current = λ off. record {
  current = none_signed options current off;
  earlier = refl;
}

pub changed_unsigned : (change : Change) (a : AskedSeen) → StaysUnsigned a
    → StaysUnsigned (changed change a)
changed_unsigned (SentOut now) a its = λ off. record {
  current = (its off).current;
  earlier = (its off).earlier;
}
changed_unsigned (Noted why code) a its = λ off. record {
  current = (its off).current;
  earlier = (its off).earlier;
}
changed_unsigned (Refused code) a its = λ off. record {
  current = (its off).current;
  earlier = (its off).earlier;
}

differ : (b : Bool) → b ≡ false → b ≡ true → ⊥
differ true is not = cc
differ false is not = cc

pub turned_unsigned : (is_kept : Bool) (former : ℕ) (t : TurnSeen) (a : AskedSeen)
    → is_unsigned a.options ≡ false → StaysUnsigned (turned is_kept former t a)
turned_unsigned is_kept former t a signed = λ off.
    absurd (differ (is_unsigned a.options) signed off)

-- ---- what it makes of the standing challenges

-- nothing, by its timeout
pub stepped_same : (a : AskedSeen) (s : StandingSeen) → IsNeverSigned a → stepped_back a s ≡ s
stepped_same a s never = ap (after_timeout s) (none_for s.current)
  where
    none_for : (o : Option Answered) → challenge_for o a ≡ None
    none_for None = never.current
    none_for (Some x) =
        ap (λ (es : AllSent). option_map_or (λ (e : ℕ × SentSeen). e.1.signed_for)
        (message_for x es) a.signed_for) never.earlier
        ∙ never.current

-- nothing, by a success
pub confirming_none : (b : Bool) (s : StandingSeen) (o : Option Answered) → o ≡ None
    → confirming b s o ≡ s
confirming_none true s o none = ap (λ (x : Option Answered). confirming true s x) none
confirming_none false s o none = refl

-- no earlier message is found
pub none_found : (a : AskedSeen) (p : ℕ × SentSeen → Bool) (e : ℕ × SentSeen) → IsNeverSigned a
    → find p a.earlier ≡ Some e → ⊥
none_found a p e never found =
    let clash : ◌≡◌ {A = Option (ℕ × SentSeen)} None (Some e) =
    sym (ap (λ (es : AllSent). find p es) never.earlier) ∙ found in
    cc

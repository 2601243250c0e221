-- What a response comes to, one verdict after another.
use Rattle.std.proofs.Common.{◌≡◌, ◌+◌, ◌<◌, ◌≤◌, ℕ, Bool, true, false, List, Option, Some, None}
use Rattle.std.proofs.Common.{arith, cond, refl, subst, sym}
use Rattle.std.specs.Option.{IfSome, IsSome, is_none, is_some, option_map}
use Rattle.std.specs.Prelude.{◌||◌, min, nat_le, nat_lt, not}
use Rattle.std.proofs.lemmas.Bool.{and_parts, or_parts}
use Rattle.stun_base.specs.declared.keys.algorithm.IntegrityAlgorithm.{IntegrityAlgorithm}
use Rattle.stun_base.specs.declared.keys.algorithm.IntegrityAlgorithm.TheVariants.{Sha1, Sha256}
use Rattle.stun_types.specs.Integrity.{verified_algorithm}
use Rattle.stun_judging.proofs.ListSteps.{find-passes}
use Rattle.stun_client.specs.Challenges.{Answered, is_one}
use Rattle.stun_client.specs.Judging.{Identity, IsEndOrNothing, IsSentAgain, Verdict, anew}
use Rattle.stun_client.specs.Judging.{believed, by_sole_algorithm, doubted, dropped, fault_in}
use Rattle.stun_client.specs.Judging.{judged, judged_by}
use Rattle.stun_client.specs.Judging.{judged_earlier, long_term, refused, short_term, signed_with}
use Rattle.stun_client.specs.Judging.{takes_unsigned, unless_faulty, unsigned}
use Rattle.stun_client.specs.Standing.{StandingSeen, is_ignored}
use Rattle.stun_client.specs.declared.judged.Distrust.{Distrust}
use Rattle.stun_client.proofs.JudgingLemmas.{answered_anew as sent_for_new}
use Rattle.stun_client.proofs.JudgingLemmas.{earlier_ends_or_nothing, unsigned_ends}
use Rattle.stun_client_endpoint.specs.Refusals.{OTHERS}
use Rattle.stun_client_endpoint.specs.declared.ended.DropReason.TheVariants.{LateChallenge}
use Rattle.stun_client_endpoint.specs.declared.ended.DropReason.TheVariants.{NotVerified}
use Rattle.stun_client_calls.specs.Deciding.{DecisionSeen, Place, answered, back_to, decided, drops}
use Rattle.stun_client_calls.specs.Deciding.{giving_way, is_idle, is_spent, place_of}
use Rattle.stun_client_calls.specs.Deciding.{refuses, turns, challenged_out, undoubted}
use Rattle.stun_client_calls.specs.Laws.{IsAnswerOrDrop, IsNoEnd, IsUnspent, IsWithinLimits, Judge}
use Rattle.stun_client_calls.specs.Laws.{decision_on}
use Rattle.stun_client_calls.specs.Messages.{AskedSeen, DOUBTS, SentSeen, TurnSeen, eligible}
use Rattle.stun_client_calls.specs.Messages.{has_unsigned, is_doubt, is_eligible, is_late}
use Rattle.stun_client_calls.specs.Messages.{is_refusal}
use Rattle.stun_client_calls.specs.Messages.{is_signed_eligible, is_too_weak, message_for, refusing}
use Rattle.stun_client_calls.specs.Messages.{signed_eligible, turned}
use Rattle.stun_client_calls.specs.declared.deciding.Limits.{Limits}
use Rattle.stun_client_calls.specs.declared.turning.Why.{Why}
use Rattle.stun_client_calls.specs.declared.turning.Why.TheVariants.{Challenged, Doubted, Refused}
use Rattle.stun_client_calls.specs.declared.turning.Why.TheVariants.{Undoubted}

-- ---- numbers and tests

impossible : false ≡ true → ⊥
impossible is = cc

not_below : (a b : ℕ) → nat_lt a b ≡ false → b ≤ a
not_below a b none = grind (arith, none)

above : (a b : ℕ) → nat_le a b ≡ false → b < a
above a b none = grind (arith, none)

not_reached : (a b : ℕ) → b < a → nat_le a b ≡ false
not_reached a b below = grind (arith, below)

neither : (x y : Bool) → x ≡ false → y ≡ false → (x || y) ≡ false
neither false y first none = none
neither true y first none = cc

not_so : (b : Bool) → not b ≡ true → b ≡ false
not_so true is = cc
not_so false is = refl

no_place : (o : Option (ℕ × SentSeen)) → option_map place_of o ≡ None → o ≡ None
no_place None is = refl
no_place (Some e) is = cc

some_if : (o : Option Answered) → is_none o ≡ false → IsSome o
some_if None is = cc
some_if (Some c) is = refl

-- ---- challenges

-- the message for a challenge becomes the current one
record IsTurnFor (late spent : Bool) (w why : Why) (p place : Option Place) (d : Answered)
    (c : Option Answered) : Type 0 where
  early : late ≡ false
  unspent : spent ≡ false
  why_is : w ≡ why
  place_is : p ≡ place
  challenge : Some d ≡ c

turns_by : (late spent : Bool) (w why : Why) (p place : Option Place) (d : Answered)
    (c : Option Answered)
    → cond late (drops LateChallenge) (cond spent challenged_out (turns w p (Some d)))
    ≡ turns why place c → IsTurnFor late spent w why p place d c
turns_by true spent w why p place d c is = cc
turns_by false true w why p place d c is = cc
turns_by false false w why p place d c is =
    record { early = refl; unspent = refl; why_is = cc; place_is = cc; challenge = cc }

turns_anew : (limits : Limits) (now : ℕ) (a : AskedSeen) (d : Answered) (why : Why)
    (place : Option Place) (c : Option Answered)
    → cond (is_late now a) (drops LateChallenge) (cond (is_spent limits a) challenged_out
    (turns Challenged (option_map place_of (message_for d a.earlier)) (Some d)))
    ≡ turns why place c
    → IsTurnFor (is_late now a) (is_spent limits a) Challenged why
    (option_map place_of (message_for d a.earlier)) place d c
turns_anew limits now a d why place c =
    turns_by (is_late now a) (is_spent limits a) Challenged why
    (option_map place_of (message_for d a.earlier)) place d c

turns_refused : (limits : Limits) (now : ℕ) (a : AskedSeen) (d : Answered) (why : Why)
    (place : Option Place) (c : Option Answered)
    → cond (is_late now a) (drops LateChallenge)
    (cond (is_spent limits a || nat_le OTHERS a.refusals.others) challenged_out
    (turns Refused (option_map place_of (message_for d a.earlier)) (Some d)))
    ≡ turns why place c
    → IsTurnFor (is_late now a) (is_spent limits a || nat_le OTHERS a.refusals.others) Refused why
    (option_map place_of (message_for d a.earlier)) place d c
turns_refused limits now a d why place c =
    turns_by (is_late now a) (is_spent limits a || nat_le OTHERS a.refusals.others) Refused why
    (option_map place_of (message_for d a.earlier)) place d c

refusal_no_turn : (b : Bool) (why : Why) (place : Option Place) (c : Option Answered)
    → cond b challenged_out refuses ≡ turns why place c → ⊥
refusal_no_turn true why place c is = cc
refusal_no_turn false why place c is = cc

-- ---- doubts

-- another message becomes the current one for a doubt
record IsTurnOfDoubt (standing : StandingSeen) (a : AskedSeen) (why : Why) (place : Option Place)
    (c : Option Answered) : Type 0 where
  doubt : is_doubt why ≡ true
  no_refusal : is_refusal why ≡ false
  strong : is_too_weak standing c ≡ false
  unsigned_if_new : place ≡ None → c ≡ None
  signed_before : place ≡ None → IsSome a.signed_for
  sole : place ≡ None → has_unsigned a.earlier ≡ false

went_back : (standing : StandingSeen) (a : AskedSeen) (w why : Why) (place : Option Place)
    (c : Option Answered) (e : ℕ × SentSeen) → is_doubt w ≡ true → is_refusal w ≡ false
    → is_too_weak standing e.1.signed_for ≡ false → back_to w e ≡ turns why place c
    → IsTurnOfDoubt standing a why place c
went_back standing a w why place c e doubts no_refusal strong is =
    let same_why : w ≡ why = cc in
    let same : e.1.signed_for ≡ c = cc in
    let old : Some (place_of e) ≡ place = cc in
    record {
      doubt = subst (λ x. is_doubt x ≡ true) same_why doubts;
      no_refusal = subst (λ x. is_refusal x ≡ false) same_why no_refusal;
      strong = subst (λ x. is_too_weak standing x ≡ false) same strong;
      unsigned_if_new = λ none. cc;
      signed_before = λ none. cc;
      sole = λ none. cc;
    }

gives_way : (standing : StandingSeen) (a : AskedSeen) (why : Why) (place : Option Place)
    (c : Option Answered) (o : Option (ℕ × SentSeen))
    → IfSome o (λ e. is_eligible standing e.1 ≡ true)
    → giving_way standing a o ≡ turns why place c → IsTurnOfDoubt standing a why place c
gives_way standing a why place c (Some e) passes is =
    went_back standing a Doubted why place c e refl refl
    (not_so (is_too_weak standing e.1.signed_for)
    (and_parts (not e.1.is_doubted) (not (is_too_weak standing e.1.signed_for)) passes).1) is
gives_way standing a why place c None passes is =
    none (is_none a.signed_for) (has_unsigned a.earlier) (signed_eligible standing a.earlier) refl
    refl (find-passes (λ e. is_signed_eligible standing e.1) a.earlier) is
  where
    none : (b unsigned : Bool) (o : Option (ℕ × SentSeen)) → is_none a.signed_for ≡ b
        → has_unsigned a.earlier ≡ unsigned
        → IfSome o (λ e. is_signed_eligible standing e.1 ≡ true)
        → cond b (undoubted o) (cond unsigned (drops NotVerified) (turns Doubted None None))
        ≡ turns why place c → IsTurnOfDoubt standing a why place c
    none true u None sign us found is = cc
    none true u (Some e) sign us found is =
        went_back standing a Undoubted why place c e refl refl
        (not_so (is_too_weak standing e.1.signed_for)
        (and_parts (is_some e.1.signed_for) (not (is_too_weak standing e.1.signed_for)) found).1)
        is
    none false true o sign us found is = cc
    none false false o sign us found is =
        let same_why : Doubted ≡ why = cc in
        let same : None ≡ c = cc in
        record {
          doubt = subst (λ x. is_doubt x ≡ true) same_why refl;
          no_refusal = subst (λ x. is_refusal x ≡ false) same_why refl;
          strong = subst (λ x. is_too_weak standing x ≡ false) same refl;
          unsigned_if_new = λ new. sym same;
          signed_before = λ new. some_if a.signed_for sign;
          sole = λ new. us;
        }

-- a doubt does not come too late, nor too often
record IsTimely (limits : Limits) (standing : StandingSeen) (now : ℕ) (a : AskedSeen) (why : Why)
    (place : Option Place) (c : Option Answered) : Type 0 where
  busy : is_idle limits now a ≡ false
  turn : IsTurnOfDoubt standing a why place c

turns_doubted : (limits : Limits) (standing : StandingSeen) (now : ℕ) (a : AskedSeen) (why : Why)
    (place : Option Place) (c : Option Answered)
    → decided limits standing now a doubted ≡ turns why place c
    → IsTimely limits standing now a why place c
turns_doubted limits standing now a why place c = by (is_idle limits now a) refl
  where
    by : (idle : Bool) → is_idle limits now a ≡ idle
        → cond idle (drops NotVerified) (giving_way standing a (eligible standing a.earlier))
        ≡ turns why place c → IsTimely limits standing now a why place c
    by true was is = cc
    by false was is = record {
      busy = was;
      turn = gives_way standing a why place c (eligible standing a.earlier)
          (find-passes (λ e. is_eligible standing e.1) a.earlier) is;
    }

-- ---- the limits

pub within : (limits : Limits) (standing : StandingSeen) (now : ℕ) (a : AskedSeen) (v : Verdict)
    (why : Why) (place : Option Place) (c : Option Answered)
    → decided limits standing now a v ≡ turns why place c → IsWithinLimits limits now a why
within limits standing now a (believed by) why place c is = cc
within limits standing now a (anew d) why place c is =
    let t = turns_anew limits now a d why place c is in
    subst (λ w. IsWithinLimits limits now a w) t.why_is (record {
      in_time = not_below a.until now t.early;
      in_limit = above limits.turns a.turns t.unspent;
      doubts = λ so. absurd (impossible so);
      refusals = λ so. absurd (impossible so);
    })
within limits standing now a (refused None) why place c is =
    absurd (refusal_no_turn (limits.is_reliable || a.refusals.is_earlier) why place c is)
within limits standing now a (refused (Some d)) why place c is =
    let t = turns_refused limits now a d why place c is in
    let both = or_parts (is_spent limits a) (nat_le OTHERS a.refusals.others) t.unspent in
    subst (λ w. IsWithinLimits limits now a w) t.why_is (record {
      in_time = not_below a.until now t.early;
      in_limit = above limits.turns a.turns both.0;
      doubts = λ so. absurd (impossible so);
      refusals = λ so. above OTHERS a.refusals.others both.1;
    })
within limits standing now a doubted why place c is =
    let t = turns_doubted limits standing now a why place c is in
    let late = or_parts (is_late now a) (is_spent limits a || nat_le DOUBTS a.doubts) t.busy in
    let spent = or_parts (is_spent limits a) (nat_le DOUBTS a.doubts) late.1 in
    let no_refusal = t.turn.no_refusal in
    record {
      in_time = not_below a.until now late.0;
      in_limit = above limits.turns a.turns spent.0;
      doubts = λ so. above DOUBTS a.doubts spent.1;
      refusals = λ so. cc;
    }
within limits standing now a (dropped w) why place c is = cc

pub counted : (limits : Limits) (standing : StandingSeen) (now : ℕ) (a : AskedSeen) (v : Verdict)
    (place : Option Place) (is_kept : Bool) (former : ℕ) (t : TurnSeen)
    → decided limits standing now a v ≡ turns t.why place t.signed_for
    → (turned is_kept former t a).turns ≤ limits.turns
counted limits standing now a v place is_kept former t is =
    let below = (within limits standing now a v t.why place t.signed_for is).in_limit in
    let small : min (a.turns + 1) 4294967295 ≤ limits.turns = omega (arith, below) in
    small

-- ---- which challenges requests are sent again for

sole_ends : (asked : IntegrityAlgorithm) (v : Option IntegrityAlgorithm)
    → IsEndOrNothing (by_sole_algorithm asked v)
sole_ends asked None = tt
sole_ends Sha1 (Some Sha1) = tt
sole_ends Sha1 (Some Sha256) = tt
sole_ends Sha256 (Some Sha1) = tt
sole_ends Sha256 (Some Sha256) = tt

not_again : (v : Verdict) (d : Answered) → IsEndOrNothing v → IsSentAgain v d → ⊥
not_again (believed by) d ends is = absurd is
not_again (anew e) d ends is = absurd ends
not_again (refused e) d ends is = absurd ends
not_again doubted d ends is = absurd is
not_again (dropped why) d ends is = absurd is

never_again : (x y : Verdict) (fault : Option Distrust) (b : Bool) (d : Answered)
    → IsEndOrNothing x → IsEndOrNothing y → IsSentAgain (unless_faulty (cond b x y) fault) d → ⊥
never_again x y (Some why) b d first second is = absurd is
never_again x y None true d first second is = not_again x d first is
never_again x y None false d first second is = not_again y d second is

-- a challenge that a request is sent again for is new, and not ignored
record IsNewAndStrong (standing : StandingSeen) (before : Option Answered) (d : Answered)
    : Type 0 where
  new : is_one (Some d) before ≡ false
  strong : is_ignored standing d ≡ false

sent_again : (required is_current : Bool) (identity : Identity) (standing : StandingSeen)
    (before : Option Answered) (bytes : List ℕ) (d : Answered)
    → IsSentAgain (judged required is_current identity standing before bytes) d
    → IsNewAndStrong standing before d
sent_again required is_current unsigned standing before bytes d is =
    absurd (never_again (judged_by unsigned standing before bytes)
    (judged_earlier unsigned before bytes) (fault_in required bytes) is_current d tt tt is)
sent_again required is_current (short_term name password algorithm) standing before bytes d is =
    absurd (never_again (judged_by (short_term name password algorithm) standing before bytes)
    (judged_earlier (short_term name password algorithm) before bytes) (fault_in required bytes)
    is_current d (sole_ends algorithm (verified_algorithm bytes password))
    (sole_ends algorithm (verified_algorithm bytes password)) is)
sent_again required is_current (long_term who p accepts) standing before bytes d is =
    let anew_so = sent_for_new required is_current who p accepts standing before bytes d is in
    record { new = anew_so.new; strong = anew_so.strong }

strong_turn : (limits : Limits) (standing : StandingSeen) (now : ℕ) (a : AskedSeen) (v : Verdict)
    (before : Option Answered) (why : Why) (place : Option Place) (c : Option Answered)
    → ((d : Answered) → IsSentAgain v d → IsNewAndStrong standing before d)
    → decided limits standing now a v ≡ turns why place c → is_too_weak standing c ≡ false
strong_turn limits standing now a (believed by) before why place c strong is = cc
strong_turn limits standing now a (anew d) before why place c strong is =
    subst (λ x. is_too_weak standing x ≡ false) (turns_anew limits now a d why place c is).challenge
    (strong d refl).strong
strong_turn limits standing now a (refused None) before why place c strong is =
    absurd (refusal_no_turn (limits.is_reliable || a.refusals.is_earlier) why place c is)
strong_turn limits standing now a (refused (Some d)) before why place c strong is =
    subst (λ x. is_too_weak standing x ≡ false)
    (turns_refused limits now a d why place c is).challenge (strong d refl).strong
strong_turn limits standing now a doubted before why place c strong is =
    (turns_doubted limits standing now a why place c is).turn.strong
strong_turn limits standing now a (dropped w) before why place c strong is = cc

pub never_weaker : (j : Judge) (is_current : Bool) (now : ℕ) (a : AskedSeen)
    (before : Option Answered) (bytes : List ℕ) (why : Why) (place : Option Place)
    (c : Option Answered) → decision_on j is_current now a before bytes ≡ turns why place c
    → is_too_weak j.standing c ≡ false
never_weaker j is_current now a before bytes why place c =
    strong_turn j.limits j.standing now a
    (judged j.required is_current j.identity j.standing before bytes) before why place c
    (sent_again j.required is_current j.identity j.standing before bytes)

-- ---- one message for each challenge

new_for : (limits : Limits) (standing : StandingSeen) (now : ℕ) (a : AskedSeen) (v : Verdict)
    (before : Option Answered) (why : Why) (c : Answered)
    → ((d : Answered) → IsSentAgain v d → IsNewAndStrong standing before d)
    → decided limits standing now a v ≡ turns why None (Some c)
    → (message_for c a.earlier ≡ None) × (is_one (Some c) before ≡ false)
new_for limits standing now a (believed by) before why c new is = cc
new_for limits standing now a (anew d) before why c new is =
    let t = turns_anew limits now a d why None (Some c) is in
    let same : d ≡ c = cc in (
      subst (λ x. message_for x a.earlier ≡ None) same
          (no_place (message_for d a.earlier) t.place_is),
      subst (λ x. is_one (Some x) before ≡ false) same (new d refl).new,
    )
new_for limits standing now a (refused None) before why c new is =
    absurd (refusal_no_turn (limits.is_reliable || a.refusals.is_earlier) why None (Some c) is)
new_for limits standing now a (refused (Some d)) before why c new is =
    let t = turns_refused limits now a d why None (Some c) is in
    let same : d ≡ c = cc in (
      subst (λ x. message_for x a.earlier ≡ None) same
          (no_place (message_for d a.earlier) t.place_is),
      subst (λ x. is_one (Some x) before ≡ false) same (new d refl).new,
    )
new_for limits standing now a doubted before why c new is =
    let t = turns_doubted limits standing now a why None (Some c) is in
    let none = t.turn.unsigned_if_new refl in
    cc
new_for limits standing now a (dropped w) before why c new is = cc

pub one_signed : (j : Judge) (now : ℕ) (a : AskedSeen) (bytes : List ℕ) (why : Why) (c : Answered)
    → decision_on j true now a a.signed_for bytes ≡ turns why None (Some c)
    → (message_for c a.earlier ≡ None) × (is_one (Some c) a.signed_for ≡ false)
one_signed j now a bytes why c =
    new_for j.limits j.standing now a
    (judged j.required true j.identity j.standing a.signed_for bytes) a.signed_for why c
    (sent_again j.required true j.identity j.standing a.signed_for bytes)

pub one_unsigned : (limits : Limits) (standing : StandingSeen) (now : ℕ) (a : AskedSeen)
    (v : Verdict) (why : Why) → decided limits standing now a v ≡ turns why None None
    → IsSome a.signed_for × (has_unsigned a.earlier ≡ false)
one_unsigned limits standing now a (believed by) why is = cc
one_unsigned limits standing now a (anew d) why is =
    let signed = (turns_anew limits now a d why None None is).challenge in
    cc
one_unsigned limits standing now a (refused None) why is =
    absurd (refusal_no_turn (limits.is_reliable || a.refusals.is_earlier) why None None is)
one_unsigned limits standing now a (refused (Some d)) why is =
    let signed = (turns_refused limits now a d why None None is).challenge in
    cc
one_unsigned limits standing now a doubted why is =
    let t = (turns_doubted limits standing now a why None None is).turn in
    (t.signed_before refl, t.sole refl)
one_unsigned limits standing now a (dropped w) why is = cc

-- ---- forged datagrams

anew_answers_not : (late spent : Bool) (w : Why) (p : Option Place) (d : Option Answered)
    (by : Option IntegrityAlgorithm)
    → cond late (drops LateChallenge) (cond spent challenged_out (turns w p d)) ≡ answered by → ⊥
anew_answers_not true spent w p d by is = cc
anew_answers_not false true w p d by is = cc
anew_answers_not false false w p d by is = cc

refusal_answers_not : (b : Bool) (by : Option IntegrityAlgorithm)
    → cond b challenged_out refuses ≡ answered by → ⊥
refusal_answers_not true by is = cc
refusal_answers_not false by is = cc

-- what a doubt comes to ends nothing
gives_way_goes_on : (standing : StandingSeen) (a : AskedSeen) (o : Option (ℕ × SentSeen))
    → IsNoEnd (giving_way standing a o)
gives_way_goes_on standing a (Some e) = tt
gives_way_goes_on standing a None =
    none (is_none a.signed_for) (has_unsigned a.earlier) (signed_eligible standing a.earlier)
  where
    none : (b unsigned : Bool) (o : Option (ℕ × SentSeen))
        → IsNoEnd (cond b (undoubted o)
        (cond unsigned (drops NotVerified) (turns Doubted None None)))
    none true u None = tt
    none true u (Some e) = tt
    none false true o = tt
    none false false o = tt

doubt_goes_on : (limits : Limits) (standing : StandingSeen) (now : ℕ) (a : AskedSeen)
    → IsNoEnd (decided limits standing now a doubted)
doubt_goes_on limits standing now a = by (is_idle limits now a)
  where
    by : (idle : Bool) → IsNoEnd (cond idle (drops NotVerified)
        (giving_way standing a (eligible standing a.earlier)))
    by true = tt
    by false = gives_way_goes_on standing a (eligible standing a.earlier)

no_answer : (d : DecisionSeen) (by : Option IntegrityAlgorithm) → IsNoEnd d → d ≡ answered by → ⊥
no_answer (answered b) by goes is = absurd goes
no_answer challenged_out by goes is = cc
no_answer (turns why place c) by goes is = cc
no_answer refuses by goes is = cc
no_answer (drops why) by goes is = cc

answered_by_belief : (limits : Limits) (standing : StandingSeen) (now : ℕ) (a : AskedSeen)
    (v : Verdict) (by : Option IntegrityAlgorithm)
    → decided limits standing now a v ≡ answered by → v ≡ believed by
answered_by_belief limits standing now a (believed b) by is = cc
answered_by_belief limits standing now a (anew d) by is =
    absurd (anew_answers_not (is_late now a) (is_spent limits a) Challenged
    (option_map place_of (message_for d a.earlier)) (Some d) by is)
answered_by_belief limits standing now a (refused None) by is =
    absurd (refusal_answers_not (limits.is_reliable || a.refusals.is_earlier) by is)
answered_by_belief limits standing now a (refused (Some d)) by is =
    absurd (anew_answers_not (is_late now a)
    (is_spent limits a || nat_le OTHERS a.refusals.others) Refused
    (option_map place_of (message_for d a.earlier)) (Some d) by is)
answered_by_belief limits standing now a doubted by is =
    absurd (no_answer (decided limits standing now a doubted) by
    (doubt_goes_on limits standing now a) is)
answered_by_belief limits standing now a (dropped w) by is = cc

pub unsigned_answers : (j : Judge) (is_current : Bool) (now : ℕ) (a : AskedSeen)
    (before : Option Answered) (bytes : List ℕ) (by : Option IntegrityAlgorithm)
    → signed_with j.identity before bytes ≡ None
    → decision_on j is_current now a before bytes ≡ answered by
    → (takes_unsigned j.identity before ≡ true) × (is_current ≡ true)
unsigned_answers j is_current now a before bytes by none is =
    unsigned_ends j.required is_current j.identity j.standing before bytes by none
    (answered_by_belief j.limits j.standing now a
    (judged j.required is_current j.identity j.standing before bytes) by is)

anew_goes_on : (late spent : Bool) (w : Why) (p : Option Place) (d : Option Answered)
    → spent ≡ false
    → IsNoEnd (cond late (drops LateChallenge) (cond spent challenged_out (turns w p d)))
anew_goes_on true spent w p d unspent = tt
anew_goes_on false true w p d unspent = cc
anew_goes_on false false w p d unspent = tt

refusal_goes_on : (b : Bool) → b ≡ false → IsNoEnd (cond b challenged_out refuses)
refusal_goes_on true unspent = cc
refusal_goes_on false unspent = tt

goes_on : (limits : Limits) (standing : StandingSeen) (now : ℕ) (a : AskedSeen) (v : Verdict)
    → IsUnspent limits a → ((by : Option IntegrityAlgorithm) → v ≡ believed by → ⊥)
    → IsNoEnd (decided limits standing now a v)
goes_on limits standing now a (believed by) u disbelieved = absurd (disbelieved by refl)
goes_on limits standing now a (anew d) u disbelieved =
    anew_goes_on (is_late now a) (is_spent limits a) Challenged
    (option_map place_of (message_for d a.earlier)) (Some d)
    (not_reached limits.turns a.turns u.in_limit)
goes_on limits standing now a (refused None) u disbelieved =
    refusal_goes_on (limits.is_reliable || a.refusals.is_earlier)
    (neither limits.is_reliable a.refusals.is_earlier u.unreliable u.unrefused)
goes_on limits standing now a (refused (Some d)) u disbelieved =
    anew_goes_on (is_late now a) (is_spent limits a || nat_le OTHERS a.refusals.others) Refused
    (option_map place_of (message_for d a.earlier)) (Some d)
    (neither (is_spent limits a) (nat_le OTHERS a.refusals.others)
    (not_reached limits.turns a.turns u.in_limit)
    (not_reached OTHERS a.refusals.others u.refusals))
goes_on limits standing now a doubted u disbelieved = doubt_goes_on limits standing now a
goes_on limits standing now a (dropped w) u disbelieved = tt

pub one_ends_nothing : (j : Judge) (is_current : Bool) (now : ℕ) (a : AskedSeen)
    (before : Option Answered) (bytes : List ℕ) → signed_with j.identity before bytes ≡ None
    → takes_unsigned j.identity before ≡ false → IsUnspent j.limits a
    → IsNoEnd (decision_on j is_current now a before bytes)
one_ends_nothing j is_current now a before bytes none refuses_unsigned u =
    goes_on j.limits j.standing now a
    (judged j.required is_current j.identity j.standing before bytes) u
    (λ by is.
    let taken = (unsigned_ends j.required is_current j.identity j.standing before bytes by none
    is).0 in
    cc)

-- ---- refusals

refuses_by : (b : Bool) → b ≡ false → cond b challenged_out refuses ≡ refuses
refuses_by true is = cc
refuses_by false is = refl

pub first_refusal : (limits : Limits) (standing : StandingSeen) (now : ℕ) (a : AskedSeen)
    → limits.is_reliable ≡ false → a.refusals.is_earlier ≡ false
    → decided limits standing now a (refused None) ≡ refuses
first_refusal limits standing now a unreliable unrefused =
    refuses_by (limits.is_reliable || a.refusals.is_earlier)
    (neither limits.is_reliable a.refusals.is_earlier unreliable unrefused)

pub repeated_refusal : (limits : Limits) (standing : StandingSeen) (now : ℕ) (a : AskedSeen)
    (code : Option ℕ) → limits.is_reliable ≡ false → a.refusals.is_earlier ≡ false
    → decided limits standing now (refusing code a) (refused None) ≡ refuses
repeated_refusal limits standing now a code unreliable unrefused =
    first_refusal limits standing now (refusing code a) unreliable unrefused

-- ---- earlier messages

pub answers_or_drops : (limits : Limits) (standing : StandingSeen) (now : ℕ) (a : AskedSeen)
    (v : Verdict) → IsEndOrNothing v → IsAnswerOrDrop (decided limits standing now a v)
answers_or_drops limits standing now a (believed by) ends = tt
answers_or_drops limits standing now a (anew d) ends = absurd ends
answers_or_drops limits standing now a (refused d) ends = absurd ends
answers_or_drops limits standing now a doubted ends = absurd ends
answers_or_drops limits standing now a (dropped w) ends = tt

pub earlier_answers_or_drops : (j : Judge) (now : ℕ) (a : AskedSeen) (before : Option Answered)
    (bytes : List ℕ) → IsAnswerOrDrop (decision_on j false now a before bytes)
earlier_answers_or_drops j now a before bytes =
    answers_or_drops j.limits j.standing now a
    (judged j.required false j.identity j.standing before bytes)
    (earlier_ends_or_nothing j.required j.identity j.standing before bytes)

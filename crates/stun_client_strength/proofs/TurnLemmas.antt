-- Which message of a request becomes the current one: one for a challenge that is to be answered,
-- or, for a doubt, an unsigned one or an earlier one.
use Rattle.std.proofs.Common.{◌≡◌, ◌∙◌, ℕ, Bool, true, false, Option, Some, None, cond, refl, subst}
use Rattle.std.proofs.Common.{sym}
use Rattle.std.specs.Option.{is_none, option_map}
use Rattle.std.specs.Prelude.{◌||◌, find, nat_le}
use Rattle.stun_client.specs.Challenges.{Answered}
use Rattle.stun_client.specs.Judging.{IsSentAgain, Verdict, anew, believed, doubted, dropped}
use Rattle.stun_client.specs.Judging.{refused}
use Rattle.stun_client.specs.Standing.{StandingSeen}
use Rattle.stun_client_endpoint.specs.Refusals.{OTHERS}
use Rattle.stun_client_endpoint.specs.declared.ended.DropReason.TheVariants.{LateChallenge}
use Rattle.stun_client_endpoint.specs.declared.ended.DropReason.TheVariants.{NotVerified}
use Rattle.stun_client_calls.specs.Deciding.{Place, back_to, decided, drops}
use Rattle.stun_client_calls.specs.Deciding.{giving_way, is_idle, is_spent, place_of}
use Rattle.stun_client_calls.specs.Messages.{is_late}
use Rattle.stun_client_calls.specs.Deciding.{refuses, turns, challenged_out, undoubted}
use Rattle.stun_client_calls.specs.Messages.{AskedSeen, SentSeen, eligible, has_unsigned, is_doubt}
use Rattle.stun_client_calls.specs.Messages.{is_eligible, is_signed_eligible, message_for}
use Rattle.stun_client_calls.specs.Messages.{signed_eligible}
use Rattle.stun_client_calls.specs.declared.deciding.Limits.{Limits}
use Rattle.stun_client_calls.specs.declared.turning.Why.{Why}
use Rattle.stun_client_calls.specs.declared.turning.Why.TheVariants.{Challenged, Doubted, Refused}
use Rattle.stun_client_calls.specs.declared.turning.Why.TheVariants.{Undoubted}

-- what the message that becomes the current one is signed for
pub data IsTurn (a : AskedSeen) (v : Verdict) (why : Why) (c : Option Answered) : Type 0 where
  answers : (x : Answered) → IsSentAgain v x → c ≡ Some x → IsTurn a v why c
  doubts : is_doubt why ≡ true → c ≡ None → IsTurn a v why c
  returns : is_doubt why ≡ true → (e : ℕ × SentSeen) (p : ℕ × SentSeen → Bool)
      → find p a.earlier ≡ Some e → e.1.signed_for ≡ c → IsTurn a v why c

-- for a challenge
for_challenge : (late spent : Bool) (w why : Why) (p place : Option Place) (x : Answered)
    (c : Option Answered)
    → cond late (drops LateChallenge) (cond spent challenged_out (turns w p (Some x)))
    ≡ turns why place c → c ≡ Some x
for_challenge true spent w why p place x c is = cc
for_challenge false true w why p place x c is = cc
for_challenge false false w why p place x c is = cc

no_turn : (b : Bool) (why : Why) (place : Option Place) (c : Option Answered)
    → cond b challenged_out refuses ≡ turns why place c → ⊥
no_turn true why place c is = cc
no_turn false why place c is = cc

-- an earlier message
went_back : (a : AskedSeen) (v : Verdict) (w why : Why) (place : Option Place) (c : Option Answered)
    (e : ℕ × SentSeen) (p : ℕ × SentSeen → Bool) → is_doubt w ≡ true → find p a.earlier ≡ Some e
    → back_to w e ≡ turns why place c → IsTurn a v why c
went_back a v w why place c e p doubt found is =
    let same_why : w ≡ why = cc in
    let same : e.1.signed_for ≡ c = cc in
    returns (subst (λ x. is_doubt x ≡ true) same_why doubt) e p found same

gives_way : (standing : StandingSeen) (a : AskedSeen) (v : Verdict) (why : Why)
    (place : Option Place) (c : Option Answered) (o : Option (ℕ × SentSeen))
    → eligible standing a.earlier ≡ o → giving_way standing a o ≡ turns why place c
    → IsTurn a v why c
gives_way standing a v why place c (Some e) found is =
    went_back a v Doubted why place c e (λ x. is_eligible standing x.1) refl found is
gives_way standing a v why place c None found is =
    none (is_none a.signed_for) (has_unsigned a.earlier) (signed_eligible standing a.earlier) refl
    is
  where
    none : (b unsigned : Bool) (o : Option (ℕ × SentSeen)) → signed_eligible standing a.earlier ≡ o
        → cond b (undoubted o) (cond unsigned (drops NotVerified) (turns Doubted None None))
        ≡ turns why place c → IsTurn a v why c
    none true u None was is = cc
    none true u (Some e) was is =
        went_back a v Undoubted why place c e (λ x. is_signed_eligible standing x.1) refl was is
    none false true o was is = cc
    none false false o was is =
        let same_why : Doubted ≡ why = cc in
        let same : None ≡ c = cc in
        doubts (subst (λ x. is_doubt x ≡ true) same_why refl) (sym same)

pub turn_of : (limits : Limits) (standing : StandingSeen) (now : ℕ) (a : AskedSeen) (v : Verdict)
    (why : Why) (place : Option Place) (c : Option Answered)
    → decided limits standing now a v ≡ turns why place c → IsTurn a v why c
turn_of limits standing now a (believed by) why place c is = cc
turn_of limits standing now a (anew x) why place c is =
    answers x refl (for_challenge (is_late now a) (is_spent limits a) Challenged why
    (option_map place_of (message_for x a.earlier)) place x c is)
turn_of limits standing now a (refused None) why place c is =
    absurd (no_turn (limits.is_reliable || a.refusals.is_earlier) why place c is)
turn_of limits standing now a (refused (Some x)) why place c is =
    answers x refl (for_challenge (is_late now a)
    (is_spent limits a || nat_le OTHERS a.refusals.others) Refused why
    (option_map place_of (message_for x a.earlier)) place x c is)
turn_of limits standing now a doubted why place c is = by (is_idle limits now a) is
  where
    by : (idle : Bool)
        → cond idle (drops NotVerified) (giving_way standing a (eligible standing a.earlier))
        ≡ turns why place c → IsTurn a doubted why c
    by true is = cc
    by false is =
        gives_way standing a doubted why place c (eligible standing a.earlier) refl is
turn_of limits standing now a (dropped w) why place c is = cc

-- an unsigned message becomes the current one only for a doubt
pub unsigned_is_doubt : (a : AskedSeen) (v : Verdict) (why : Why) (c : Option Answered)
    → IsTurn a v why c → c ≡ None → is_doubt why ≡ true
unsigned_is_doubt a v why c (answers x sent is) none =
    let clash : ◌≡◌ {A = Option Answered} None (Some x) = sym none ∙ is in cc
unsigned_is_doubt a v why c (doubts doubt is) none = doubt
unsigned_is_doubt a v why c (returns doubt e p found is) none = doubt

-- What a refusal comes to, by what is stored of its request.
use Rattle.std.proofs.Common.{◌≡◌, ◌∙◌, ◌⊎◌, ◌<◌, ◌≤◌, ◌+◌, inl, inr, ℕ, Bool, true, false, List}
use Rattle.std.proofs.Common.{[]}
use Rattle.std.proofs.Common.{◌∷◌, length, Option, Some, None, ap, arith, cond, refl, subst, sym}
use Rattle.std.specs.Bool.{⊤}
use Rattle.std.specs.Option.{is_some, option_and_then, option_map, option_map_or}
use Rattle.std.specs.Prelude.{◌&&◌, ◌||◌, min, nat_le}
use Rattle.std.specs.declared.net.socket_addr.SocketAddr.{SocketAddr}
use Rattle.std.proofs.lemmas.Bool.{eqb-true, le-leb, le-ltb}
use Rattle.stun_base.specs.MessageType.{class_in, is_response}
use Rattle.stun_base.specs.declared.wire.message_type.MessageClass.{MessageClass}
use Rattle.stun_base.specs.declared.wire.message_type.MessageClass.TheVariants as Classes
use Rattle.stun_base.specs.declared.wire.transport.TransportType.TheVariants.{Tcp, Udp}
use Rattle.stun_types.specs.Message.{refusal}
use Rattle.stun_agent.specs.Tables.{after_answer, datum_at, set_datum, with_other_datum}
use Rattle.stun_agent.proofs.Ascending.{lookup-insert_same}
use Rattle.stun_judging.specs.Reading.{UNAUTHORIZED, is_code}
use Rattle.stun_client.specs.Challenges.{Answered}
use Rattle.stun_client.specs.Challenging.{code_in}
use Rattle.stun_client.specs.Judging.{Identity, Verdict, refused}
use Rattle.stun_client.specs.Standing.{StandingSeen}
use Rattle.stun_client_endpoint.specs.Settings.{is_reliable}
use Rattle.stun_client_endpoint.specs.Refusals.{OTHERS}
use Rattle.stun_client_endpoint.specs.Written.{Form}
use Rattle.stun_client_endpoint.specs.declared.ended.DropReason.TheVariants.{LateChallenge}
use Rattle.stun_client_endpoint.specs.declared.ended.RequestEnd.{RequestEnd}
use Rattle.stun_client_endpoint.specs.declared.ended.RequestEnd.TheVariants as how
use Rattle.stun_client_endpoint.specs.declared.refusals.Refusals.{Refusals}
use Rattle.stun_client_endpoint.specs.declared.told.Received.TheVariants.{NotOurs}
use Rattle.stun_client_requests.specs.Numbers.{after_end, id_at, id_in, known_at}
use Rattle.stun_client_requests.specs.Requests.{Poll as PollOf, after_answering, after_replacing}
use Rattle.stun_client_requests.specs.Requests.{datum_of, polled}
use Rattle.stun_client_requests.specs.declared.numbers.Known.TheVariants.{Ended}
use Rattle.stun_client_requests.specs.declared.requests.Polled.TheVariants as Of
use Rattle.stun_client_requests.specs.declared.requests.Request.{Request}
use Rattle.stun_client_requests.proofs.RequestLemmas.{set_same}
use Rattle.stun_client_requests.proofs.TimelyLemmas.{named_is_one}
use Rattle.stun_client_calls.specs.Clients.{Client, Poll, Told, by_polled, changed, changed_at}
use Rattle.stun_client_calls.specs.Clients.{ends, given_up as given_up_at, handed_out_of, sent_by}
use Rattle.stun_client_calls.specs.Clients.{identity_for, told, transmit, waits, with_requests}
use Rattle.stun_client_calls.specs.Deciding.{DecisionSeen, decided, drops, is_spent}
use Rattle.stun_client_calls.specs.Messages.{is_late}
use Rattle.stun_client_calls.specs.Deciding.{refuses, turns_for, challenged_out}
use Rattle.stun_client_calls.specs.Endpoints.{EndSeen, bare_end}
use Rattle.stun_client_calls.specs.Messages.{AskedSeen, TurnSeen, refusing, sent_out, turned}
use Rattle.stun_client_calls.specs.Receiving.{Memory, Met, by_class}
use Rattle.stun_client_calls.specs.Receiving.{by_decision, by_met, dropping_refusal, heard_in}
use Rattle.stun_client_calls.specs.Receiving.{judge_for}
use Rattle.stun_client_calls.specs.Receiving.{received, challenged_out_by, end_after}
use Rattle.stun_client_calls.specs.Runs.{Call, Calls, Event, call, changes_nothing, ends_one}
use Rattle.stun_client_calls.specs.Runs.{no_call, polled as says_so, polls, receives, requests}
use Rattle.stun_client_calls.specs.declared.asked.Change.{Change}
use Rattle.stun_client_calls.specs.declared.asked.Change.TheVariants.{Noted, Refused, SentOut}
use Rattle.stun_client_calls.specs.declared.turning.Why.TheVariants as Why
use Rattle.stun_client_calls.proofs.TurnLemmas.{All, IsOne, some_is}
use Rattle.stun_client_runs.specs.Kept.{IsClient, StaysAClient}
use Rattle.stun_client_strength.specs.Hearing.{message_answered, response_verdict}
use Rattle.stun_client_strength.specs.Refusing.{IsGivenUp, IsRemembered, is_sending, is_sent_in}
use Rattle.stun_client_strength.specs.Refusing.{end_of_refusal, sends}
use Rattle.stun_client_strength.specs.Strength.{OfCall, OfEachPoll}
use Rattle.stun_client_runs.proofs.EachAtLemmas.{Each, datum_in, is_there, numbered, replaced_is}
use Rattle.stun_client_runs.proofs.EachAtLemmas.{stored_one}
use Rattle.stun_client_strength.proofs.HeldLemmas.{AreHeld, AreRules, IsMet, call_held, calls_held}
use Rattle.stun_client_strength.proofs.HeldLemmas.{heard_is, met_of}
use Rattle.stun_client_strength.proofs.RefusedLemmas.{refused_of_signed}
use Rattle.stun_client_runs.proofs.PollAtLemmas.{polls_each}

or_right : (a b : Bool) → b ≡ true → (a || b) ≡ true
or_right true b is = refl
or_right false b is = is

or_left : (a b : Bool) → a ≡ true → (a || b) ≡ true
or_left true b is = refl
or_left false b is = cc

none_of : (a b : Bool) → a ≡ false → b ≡ false → (a || b) ≡ false
none_of true b one other = cc
none_of false b one other = other

or_off : (a b : Bool) → b ≡ false → (a || b) ≡ a
or_off true b is = refl
or_off false b is = is

or_more : (a b c : Bool) → (a || b) ≡ true → (a || (b || c)) ≡ true
or_more true b c is = refl
or_more false true c is = refl
or_more false false c is = cc

-- ---- the message that is answered

pub heard_comes : (memory : Memory) (from : SocketAddr) (bytes : List ℕ) (now : ℕ) (c : Client)
    (m : Met) → message_answered c from bytes ≡ Some m
    → received memory from bytes now c ≡ by_met memory c now bytes (Some m)
heard_comes memory from bytes now c m = by (is_some (refusal bytes)) (class_in bytes)
  where
    by : (r : Bool) (class : MessageClass)
        → cond r None (cond (is_response class) (heard_in from bytes c) None) ≡ Some m
        → cond r (NotOurs, c) (by_class memory from c now bytes class)
        ≡ by_met memory c now bytes (Some m)
    by true class is = cc
    by false Classes.Request is = cc
    by false Classes.Indication is = cc
    by false Classes.Success is = ap (λ (o : Option Met). by_met memory c now bytes o) is
    by false Classes.Error is = ap (λ (o : Option Met). by_met memory c now bytes o) is

pub heard_met : (from : SocketAddr) (bytes : List ℕ) (c : Client) (m : Met)
    → message_answered c from bytes ≡ Some m → IsMet c m
heard_met from bytes c m is =
    met_of bytes c m
    (heard_is from bytes c m (by (is_some (refusal bytes)) (is_response (class_in bytes)) is))
  where
    by : (r a : Bool) → cond r None (cond a (heard_in from bytes c) None) ≡ Some m
        → heard_in from bytes c ≡ Some m
    by true a is = cc
    by false false is = cc
    by false true is = is

-- ---- what is stored then

abbrev replaced_at : ℕ → AskedSeen → All → ℕ → All
replaced_at n w r id = record r { table = with_other_datum id (numbered n w) r.table }

pub replaced_there : (n : ℕ) (a w : AskedSeen) (r : All) → datum_of n r ≡ Some a
    → datum_of n (after_replacing n w r) ≡ Some w
replaced_there n a w r some = by (id_at n r.numbers) refl some
  where
    stored : (id : ℕ) (o : Option (Request AskedSeen)) → datum_at id r.table.attached ≡ o
        → option_map (λ x. x.datum) o ≡ Some a
        → datum_at id (set_datum id (numbered n w) r.table.attached) ≡ Some (numbered n w)
    stored id None there is = cc
    stored id (Some q) there is = set_same id q (numbered n w) r.table.attached there

    by : (o : Option ℕ) → id_at n r.numbers ≡ o → datum_in r o ≡ Some a
        → datum_of n (option_map_or (λ id. replaced_at n w r id) o r) ≡ Some w
    by None is some = cc
    by (Some id) is some =
        ap (λ o. datum_in (replaced_at n w r id) o) is
        ∙ ap (λ (o : Option (Request AskedSeen)). option_map (λ x. x.datum) o)
        (stored id (datum_at id r.table.attached) refl some)

pub changed_is : (change : Change) (n : ℕ) (a : AskedSeen) (r : All) → datum_of n r ≡ Some a
    → changed_at change n r ≡ after_replacing n (changed change a) r
changed_is change n a r some =
    ap (λ (o : Option AskedSeen). option_map_or (λ x. after_replacing n (changed change x) r) o r)
    some

pub changed_timers : (n : ℕ) (w : AskedSeen) (r : All)
    → (after_replacing n w r).table.requests ≡ r.table.requests
changed_timers n w r = by (id_at n r.numbers)
  where
    by : (o : Option ℕ)
        → (option_map_or (λ id. replaced_at n w r id) o r).table.requests ≡ r.table.requests
    by None = refl
    by (Some id) = refl

pub ended_there : (n count : ℕ) (moment : Option ℕ) (end : EndSeen) (a : AskedSeen) (r : All)
    → datum_of n r ≡ Some a
    → known_at n (after_answering n count moment end r).numbers.known ≡ Some (Ended end)
ended_there n count moment end a r some = by (id_at n r.numbers) some
  where
    by : (o : Option ℕ) → datum_in r o ≡ Some a
        → known_at n (option_map_or (λ id. record r {
          table = after_answer id count moment r.table;
          numbers = after_end n end r.numbers;
        }) o r).numbers.known ≡ Some (Ended end)
    by None some = cc
    by (Some id) some = lookup-insert_same n (Ended end) r.numbers.known

-- ---- refusals

module _ (memory : Memory) (from : SocketAddr) (bytes : List ℕ) (now : ℕ) (c : Client) (m : Met)
    (hears : message_answered c from bytes ≡ Some m) where
  comes_to : (v : Verdict) → response_verdict c bytes m ≡ v
      → received memory from bytes now c
      ≡ by_decision memory c now bytes m
      (decided (judge_for c m.asked).limits c.standing now m.asked v)
  comes_to v is =
      heard_comes memory from bytes now c m hears
      ∙ ap (λ (x : Verdict). by_decision memory c now bytes m
      (decided (judge_for c m.asked).limits c.standing now m.asked x)) is

  pub decides : (v : Verdict) (d : DecisionSeen) → response_verdict c bytes m ≡ v
      → decided (judge_for c m.asked).limits c.standing now m.asked v ≡ d
      → received memory from bytes now c ≡ by_decision memory c now bytes m d
  decides v d is so =
      comes_to v is ∙ ap (λ (x : DecisionSeen). by_decision memory c now bytes m x) so

  -- the message is signed, and with another challenge the refusal is a 401
  of_signed : (o : Option Answered) → response_verdict c bytes m ≡ refused o
      → (is_some m.asked.signed_for ≡ true)
      × (is_some o ≡ true → is_code UNAUTHORIZED (code_in bytes) ≡ true)
  of_signed o is =
      let its = refused_of_signed c.standing bytes c.requires_fingerprint m.is_current
      (identity_for c m.asked) m.signed_for o is in
      let current = (heard_met from bytes c m hears).current its.0 in
      (ap is_some (sym current) ∙ its.1.0, its.1.1)

  ends_so : (o : Option Answered) → response_verdict c bytes m ≡ refused o
      → end_after m.asked.signed_for bytes ≡ end_of_refusal bytes
  ends_so o is =
      ap (λ b. cond (b && is_code UNAUTHORIZED (code_in bytes)) how.Unauthorized
      how.TooManyChallenges) (of_signed o is).0

  ends_as_refused : (x : Answered) → response_verdict c bytes m ≡ refused (Some x)
      → end_after m.asked.signed_for bytes ≡ how.Unauthorized
  ends_as_refused x is =
      ends_so (Some x) is
      ∙ ap (λ b. cond b how.Unauthorized how.TooManyChallenges) ((of_signed (Some x) is).1 refl)

  -- a request is given up
  is_given_up : (end : RequestEnd) → end_after m.asked.signed_for bytes ≡ end
      → received memory from bytes now c ≡ challenged_out_by c now bytes m
      → IsGivenUp memory from bytes now m.number end c
  is_given_up end is_end is = record {
    next = (challenged_out_by c now bytes m).1;
    consumed = is;
    ended = ended_there m.number (length bytes) _
        (bare_end (end_after m.asked.signed_for bytes)) m.asked c.requests
        (heard_met from bytes c m hears).stored
        ∙ ap (λ (e : RequestEnd). Some (Ended (bare_end e))) is_end;
  }

  pub is_remembered : response_verdict c bytes m ≡ refused None → c.requests.table.transport ≡ Udp
      → m.asked.refusals.is_earlier ≡ false
      → IsRemembered memory from bytes now m.number m.asked c
  is_remembered is transport first =
      let stored = (heard_met from bytes c m hears).stored in
      let same = changed_is (Refused (code_in bytes)) m.number m.asked c.requests stored in
      record {
        next = (dropping_refusal m.number bytes c).1;
        dropped_so = decides (refused None) refuses is
            (ap (λ b. cond b challenged_out refuses)
            (none_of (is_reliable c.requests.table.transport) m.asked.refusals.is_earlier
            (ap is_reliable transport) first));
        asked = refusing (code_in bytes) m.asked;
        there = ap (λ (r : All). datum_of m.number r) same
            ∙ replaced_there m.number m.asked (refusing (code_in bytes) m.asked) c.requests stored;
        recent = λ sent. or_right m.asked.refusals.is_recent m.asked.refusals.is_sent sent;
        unsent = λ off. or_off m.asked.refusals.is_recent m.asked.refusals.is_sent off;
        message = refl;
        timers = ap (λ (r : All). r.table.requests) same
            ∙ changed_timers m.number (refusing (code_in bytes) m.asked) c.requests;
      }

  pub second_ends : response_verdict c bytes m ≡ refused None
      → (c.requests.table.transport ≡ Tcp) ⊎ (m.asked.refusals.is_earlier ≡ true)
      → IsGivenUp memory from bytes now m.number (end_of_refusal bytes) c
  second_ends is which =
      is_given_up (end_of_refusal bytes) (ends_so None is) (decides (refused None) challenged_out is
      (ap (λ b. cond b challenged_out refuses) (last which)))
    where
      last : (c.requests.table.transport ≡ Tcp) ⊎ (m.asked.refusals.is_earlier ≡ true)
          → (is_reliable c.requests.table.transport || m.asked.refusals.is_earlier) ≡ true
      last (inl transport) =
          or_left (is_reliable c.requests.table.transport) m.asked.refusals.is_earlier
          (ap is_reliable transport)
      last (inr earlier) =
          or_right (is_reliable c.requests.table.transport) m.asked.refusals.is_earlier earlier

  pub third_ends : (x : Answered) → response_verdict c bytes m ≡ refused (Some x)
      → now ≤ m.asked.until → OTHERS ≤ m.asked.refusals.others
      → IsGivenUp memory from bytes now m.number how.Unauthorized c
  third_ends x is in_time many =
      let limits = (judge_for c m.asked).limits in
      let spent = is_spent limits m.asked || nat_le OTHERS m.asked.refusals.others in
      is_given_up how.Unauthorized (ends_as_refused x is)
      (decides (refused (Some x)) challenged_out is
      (ap (λ b. cond b (drops LateChallenge)
      (cond spent challenged_out (turns_for Why.Refused x m.asked)))
      (le-ltb m.asked.until now in_time)
      ∙ ap (λ b. cond b challenged_out (turns_for Why.Refused x m.asked))
      (or_right (is_spent limits m.asked) (nat_le OTHERS m.asked.refusals.others)
      (le-leb OTHERS m.asked.refusals.others many))))

-- ---- over calls

-- the current message of a request was replaced this often or more often. If it was not replaced
-- more often, this holds of the refusals of the current message
abbrev IsOfTurns : (Refusals → Type 0) → ℕ → AskedSeen → Type 0
IsOfTurns P turns a = (turns ≤ a.turns) × (a.turns ≡ turns → P a.refusals)

abbrev RefusesSoon : Refusals → Type 0
RefusesSoon r = (r.is_earlier || r.is_recent) ≡ true

abbrev RefusesNow : Refusals → Type 0
RefusesNow r = r.is_earlier ≡ true

-- unless another message became the current one, a refusal of the request with this number counts,
-- or it will once the message is sent again
abbrev pub WasRefused : ℕ → ℕ → ℕ → Request AskedSeen → Type 0
WasRefused number turns id q = q.number ≡ number → IsOfTurns RefusesSoon turns q.datum

abbrev pub CountsRefusal : ℕ → ℕ → ℕ → Request AskedSeen → Type 0
CountsRefusal number turns id q = q.number ≡ number → IsOfTurns RefusesNow turns q.datum

-- whatever stands, and whatever lapses
abbrev pub any_standing : StandingSeen → Type 0
any_standing s = ⊤

abbrev pub any_lapse : StandingSeen → AskedSeen → Type 0
any_lapse s a = ⊤

abbrev pub any_poll : Client → Told → Type 0
any_poll c says = ⊤

pub not_new : (number other : ℕ) → number + 1 ≤ other → other ≡ number → ⊥
not_new number other low same = absurd (omega (arith, low, same))

counted_low : (turns n : ℕ) → turns ≤ n → turns < 4294967295 → turns ≤ min (n + 1) 4294967295
counted_low turns n low few = omega (arith, low, few)

counted_off : (turns n : ℕ) → turns ≤ n → turns < 4294967295 → min (n + 1) 4294967295 ≡ turns → ⊥
counted_off turns n low few same = absurd (omega (arith, low, few, same))

-- after a turn, nothing is said of the refusals
turn_counts : (P : Refusals → Type 0) (turns : ℕ) (few : turns < 4294967295) (is_kept : Bool)
    (former : ℕ) (t : TurnSeen) (a : AskedSeen) → IsOfTurns P turns a
    → IsOfTurns P turns (turned is_kept former t a)
turn_counts P turns few is_kept former t a its = (
  counted_low turns a.turns its.0 few,
  λ same. absurd (counted_off turns a.turns its.0 few same),
)

module _ (identity : Identity) (number turns : ℕ) (few : turns < 4294967295) where
  refused_changed : (other : ℕ) (change : Change) (a : AskedSeen)
      → WasRefused number turns 0 (numbered other a)
      → WasRefused number turns 0 (numbered other (changed change a))
  refused_changed other (SentOut now) a its = λ named. (
    (its named).0,
    λ same. or_left (a.refusals.is_earlier || a.refusals.is_recent) false ((its named).1 same),
  )
  refused_changed other (Noted why code) a its = its
  refused_changed other (Refused code) a its = λ named. (
    (its named).0,
    λ same. or_more a.refusals.is_earlier a.refusals.is_recent a.refusals.is_sent
        ((its named).1 same),
  )

  counts_changed : (other : ℕ) (change : Change) (a : AskedSeen)
      → CountsRefusal number turns 0 (numbered other a)
      → CountsRefusal number turns 0 (numbered other (changed change a))
  counts_changed other (SentOut now) a its = λ named. (
    (its named).0,
    λ same. or_left a.refusals.is_earlier a.refusals.is_recent ((its named).1 same),
  )
  counts_changed other (Noted why code) a its = its
  counts_changed other (Refused code) a its = its

  refused_rules : AreRules identity (number + 1) any_standing (WasRefused number turns) any_lapse
  refused_rules = record {
    starts = λ s id other method until body options low any. λ same.
        absurd (not_new number other low same);
    changes = λ id other change a its. refused_changed other change a its;
    turns_so = λ j now id new other former a bytes place t is_kept signed same any its is.
        λ its_number. turn_counts RefusesSoon turns few is_kept former t a (its its_number);
    answers = λ j now id other a bytes place why d signed same any its is. tt;
    succeeds = λ s id other a o any its signed. tt;
    lapses = λ s a so any. tt;
  }

  counts_rules : AreRules identity (number + 1) any_standing (CountsRefusal number turns) any_lapse
  counts_rules = record {
    starts = λ s id other method until body options low any. λ same.
        absurd (not_new number other low same);
    changes = λ id other change a its. counts_changed other change a its;
    turns_so = λ j now id new other former a bytes place t is_kept signed same any its is.
        λ its_number. turn_counts RefusesNow turns few is_kept former t a (its its_number);
    answers = λ j now id other a bytes place why d signed same any its is. tt;
    succeeds = λ s id other a o any its signed. tt;
    lapses = λ s a so any. tt;
  }

no_fact : (c : Client) (event : Event) (after : Client) (made : Call c event after)
    → OfCall any_poll c event after made
no_fact c event after (requests _ _ method body options now low none so) = tt
no_fact c event after (receives _ _ from bytes now answer low made so) = tt
no_fact c event after (polls _ _ now says said) = tt
no_fact c event after (ends_one _ _ number a there so) = tt
no_fact c event after (changes_nothing _) = tt

pub no_facts : (c : Client) (events : List Event) (after : Client) (calls : Calls c events after)
    → OfEachPoll any_poll c events after calls
no_facts c events after (no_call _) = tt
no_facts c events after (call _ next _ event others made rest) =
    (no_fact c event next made, no_facts next others after rest)

abbrev pub any_lets : (c : Client) (n : ℕ) (a : AskedSeen)
    → any_poll c (ends n (bare_end (how.TimedOut a.drops)))
    → datum_of n c.requests ≡ Some a → any_lapse c.standing a
any_lets c n a fact there = tt

number_is : (x y : ℕ) → ◌≡◌ {A = Told} (transmit x) (transmit y) → x ≡ y
number_is x y e = cc

-- once the bytes of a request are handed out, its refusal counts
module _ (now number turns : ℕ) (c after : Client) (b : AskedSeen) (one : IsOne c.requests)
    (each : Each (WasRefused number turns) c.requests.table.attached)
    (some : datum_of number after.requests ≡ Some b) where
  handed_counts : (n : ℕ) (r : All) → polled now c.requests ≡ (Of.Transmit n, r)
      → (o : Option AskedSeen) → datum_of n r ≡ o
      → handed_out_of now n (with_requests r c) o ≡ (transmit number, after)
      → IsOfTurns RefusesNow turns b
  handed_counts n r same None none said =
      let named : n ≡ number = number_is n number (ap (λ (p : Poll). p.0) said) in
      let left : r ≡ after.requests = ap (λ (p : Poll). p.1.requests) said in
      let gone : datum_of number after.requests ≡ None =
      subst (λ (x : All). datum_of number x ≡ None) left
      (subst (λ k. datum_of k r ≡ None) named none) in
      let clash : ◌≡◌ {A = Option AskedSeen} None (Some b) = sym gone ∙ some in
      cc
  handed_counts n r same (Some a) there said = by (is_late now a) said
    where
      still : IsOne r
      still =
          subst (λ (x : PollOf AskedSeen EndSeen). IsOne x.1) same
          (named_is_one now n c.requests one (ap (λ (x : PollOf AskedSeen EndSeen). x.0) same))

      each_left : Each (WasRefused number turns) r.table.attached
      each_left =
          subst (λ (x : PollOf AskedSeen EndSeen). Each (WasRefused number turns) x.1.table.attached) same
          (polls_each (WasRefused number turns) c.requests each one.in_order now)

      by : (late : Bool)
          → cond late (given_up_at n a (with_requests r c)) (sent_by now n (with_requests r c))
          ≡ (transmit number, after)
          → IsOfTurns RefusesNow turns b
      by true said = let no = ap (λ (p : Poll). p.0) said in cc
      by false said =
          let named : n ≡ number = number_is n number (ap (λ (p : Poll). p.0) said) in
          let left : changed_at (SentOut now) n r ≡ after.requests =
          ap (λ (p : Poll). p.1.requests) said in
          let stored : datum_of n (after_replacing n (sent_out now a) r) ≡ Some b =
          ap (λ (x : All). datum_of n x) (sym (changed_is (SentOut now) n a r there) ∙ left)
          ∙ ap (λ k. datum_of k after.requests) named ∙ some in
          let sent : sent_out now a ≡ b = replaced_is n (sent_out now a) b r stored in
          let t = is_there n a r still there in
          subst (λ (x : AskedSeen). IsOfTurns RefusesNow turns x) sent
          (each_left t.id (numbered n a) t.there named)

  sent_counts : told now c ≡ (transmit number, after) → IsOfTurns RefusesNow turns b
  sent_counts = by (polled now c.requests) refl
    where
      by : (p : PollOf AskedSeen EndSeen) → polled now c.requests ≡ p
          → by_polled now (with_requests p.1 c) p.0 ≡ (transmit number, after)
          → IsOfTurns RefusesNow turns b
      by (Of.Transmit n, r) same said = handed_counts n r same (datum_of n r) refl said
      by (Of.Ended n end, r) same said = let no = ap (λ (p : Poll). p.0) said in cc
      by (Of.TimedOut n a, r) same said = let no = ap (λ (p : Poll). p.0) said in cc
      by (Of.Wait until, r) same said = let no = ap (λ (p : Poll). p.0) said in cc

module _ (stays : StaysAClient) (identity : Identity) (form : Form) (number turns : ℕ)
    (few : turns < 4294967295) where
  abbrev Remembers : Client → Type 0
  Remembers c = AreHeld identity form (number + 1) any_standing (WasRefused number turns) c

  abbrev Counts : Client → Type 0
  Counts c = AreHeld identity form (number + 1) any_standing (CountsRefusal number turns) c

  next_client : (c : Client) (event : Event) (next : Client) → IsClient c → Call c event next
      → IsClient next
  next_client c event next is made =
      stays c next (event ∷ []) is (call c next next event [] made (no_call next))

  remembers_next : (c : Client) (event : Event) (after : Client) → IsClient c → Call c event after
      → Remembers c → Remembers after
  remembers_next c event after is made held =
      call_held identity form (number + 1) any_standing (WasRefused number turns) any_lapse
      (refused_rules identity number turns few) any_poll any_lets c event after is made
      (no_fact c event after made) held

  -- once it counts it does so from then on
  counts_then : (c : Client) (events : List Event) (after : Client) → IsClient c
      → Calls c events after → Counts c → Counts after
  counts_then c events after is calls held =
      calls_held identity form (number + 1) any_standing (CountsRefusal number turns) any_lapse
      (counts_rules identity number turns few) any_poll any_lets stays c events after is calls
      (no_facts c events after calls) held

  -- each request with the number has what is stored of it
  counts_by : (c : Client) → IsClient c → Remembers c
      → ((b : AskedSeen) → datum_of number c.requests ≡ Some b → IsOfTurns RefusesNow turns b)
      → Counts c
  counts_by c is held each = record {
    identity_is = held.identity_is;
    form_is = held.form_is;
    next_is = held.next_is;
    standing = tt;
    asked = λ id q there same.
        each q.datum (subst (λ k. datum_of k c.requests ≡ Some q.datum) same
        (stored_one id q c.requests is.requests.one there).1);
  }

  sends_counts : (c : Client) (event : Event) (after : Client) → IsClient c → Call c event after
      → Remembers c → sends number event ≡ true → Counts after
  sends_counts c event after is (requests _ _ method body options now low none so) held sent = cc
  sends_counts c event after is (receives _ _ from bytes now answer low made so) held sent = cc
  sends_counts c event after is (ends_one _ _ other a there so) held sent = cc
  sends_counts c event after is (changes_nothing _) held sent = cc
  sends_counts c event after is (polls _ _ now says said) held sent = by says said sent
    where
      by : (says : Told) → told now c ≡ (says, after) → is_sending number says ≡ true
          → Counts after
      by (transmit other) said sent =
          let same : other ≡ number = eqb-true other number sent in
          let made : Call c (says_so (transmit other)) after =
          polls c after now (transmit other) said in
          let after_is = next_client c (says_so (transmit other)) after is made in
          counts_by after after_is
          (remembers_next c (says_so (transmit other)) after is made held)
          (λ b some. sent_counts now number turns c after b is.requests.one held.asked some
          (said ∙ ap (λ k. (transmit k, after)) same))
      by (ends other end) said sent = cc
      by (waits until) said sent = cc

  walk : (c : Client) (events : List Event) (after : Client) → IsClient c → Calls c events after
      → Remembers c → is_sent_in number events ≡ true → Counts after
  walk c events after is (no_call _) held sent = cc
  walk c events after is (call _ next _ event others made rest) held sent =
      by (sends number event) refl sent
      (λ later. walk next others after (next_client c event next is made) rest
      (remembers_next c event next is made held) later)
    where
      by : (b : Bool) → sends number event ≡ b → (b || is_sent_in number others) ≡ true
          → (is_sent_in number others ≡ true → Counts after) → Counts after
      by true so sent later =
          counts_then next others after (next_client c event next is made) rest
          (sends_counts c event next is made held so)
      by false so sent later = later sent

pub low_number : (n : ℕ) (a : AskedSeen) (r : All) → IsOne r → datum_of n r ≡ Some a
    → n + 1 ≤ r.next
low_number n a r one some = by (nat_le r.next n) refl
  where
    gone : r.next ≤ n → ⊥
    gone high =
        let unknown : known_at n r.numbers.known ≡ None = one.fresh n high in
        let none : datum_of n r ≡ None =
        ap (λ o. datum_in r (option_and_then id_in o)) unknown in
        let clash : ◌≡◌ {A = Option AskedSeen} None (Some a) = sym none ∙ some in
        cc

    low : (x y : ℕ) → nat_le x y ≡ false → y + 1 ≤ x
    low x y is = grind (arith, is)

    high : (x y : ℕ) → nat_le x y ≡ true → x ≤ y
    high x y is = grind (arith, is)

    by : (b : Bool) → nat_le r.next n ≡ b → n + 1 ≤ r.next
    by true is = absurd (gone (high r.next n is))
    by false is = low r.next n is

remembered : StaysAClient → (c later : Client) (events : List Event) (number : ℕ)
    (a b : AskedSeen) → IsClient c → datum_of number c.requests ≡ Some a
    → a.refusals.is_recent ≡ true → a.turns < 4294967295 → Calls c events later
    → is_sent_in number events ≡ true → datum_of number later.requests ≡ Some b
    → IsOfTurns RefusesNow a.turns b
remembered stays c later events number a b is there recent few calls sent then_there =
    let later_is = stays c later events is calls in
    let held : AreHeld c.identity c.form (number + 1) any_standing (WasRefused number a.turns) c = record {
      identity_is = refl;
      form_is = refl;
      next_is = low_number number a c.requests is.requests.one there;
      standing = tt;
      asked = λ id q stored same.
          let other : datum_of number c.requests ≡ Some q.datum =
          subst (λ k. datum_of k c.requests ≡ Some q.datum) same
          (stored_one id q c.requests is.requests.one stored).1 in
          let its : a ≡ q.datum = some_is a q.datum (sym there ∙ other) in
          subst (λ (x : AskedSeen). IsOfTurns RefusesSoon a.turns x) its
          (omega arith, λ same. or_right a.refusals.is_earlier a.refusals.is_recent recent);
    } in
    let counts = walk stays c.identity c.form number a.turns few c events later is calls held sent in
    let t = is_there number b later.requests later_is.requests.one then_there in
    counts.asked t.id (numbered number b) t.there refl

pub given_up_then : StaysAClient → (c later : Client) (events : List Event) (number : ℕ)
    (a : AskedSeen) (memory : Memory) (from : SocketAddr) (bytes : List ℕ) (now : ℕ) (m : Met)
    → IsClient c → datum_of number c.requests ≡ Some a → a.refusals.is_recent ≡ true
    → Calls c events later → is_sent_in number events ≡ true
    → message_answered later from bytes ≡ Some m → m.number ≡ number → m.asked.turns ≡ a.turns
    → a.turns < 4294967295 → response_verdict later bytes m ≡ refused None
    → IsGivenUp memory from bytes now number (end_of_refusal bytes) later
given_up_then stays c later events number a memory from bytes now m is there recent calls sent hears
    named same few verdict =
    let stored : datum_of number later.requests ≡ Some m.asked =
    subst (λ k. datum_of k later.requests ≡ Some m.asked) named
    (heard_met from bytes later m hears).stored in
    let its = remembered stays c later events number a m.asked is there recent few calls sent stored in
    subst (λ k. IsGivenUp memory from bytes now k (end_of_refusal bytes) later) named
    (second_ends memory from bytes now later m hears verdict
    (inr (its.1 same)))

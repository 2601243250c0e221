-- How often the bytes of a request are handed out that is refused, by its options.
use Rattle.std.proofs.Common.{◌≡◌, ◌∙◌, ◌≤◌, ◌+◌, ℕ, Bool, true, false, List, [], ◌∷◌, Option}
use Rattle.std.proofs.Common.{Some, None, Ok, Err, ap, arith, cond, refl, subst, sym}
use Rattle.std.specs.Option.{IsSome, is_none, option_and_then, option_map}
use Rattle.std.specs.Prelude.{◌||◌}
use Rattle.std.specs.declared.net.socket_addr.SocketAddr.{SocketAddr}
use Rattle.stun_base.specs.Moments.{last_moment}
use Rattle.stun_agent.specs.Tables.{datum_at}
use Rattle.stun_agent.proofs.Ascending.{lookup-insert_same}
use Rattle.stun_client.specs.Challenges.{Answered}
use Rattle.stun_client.specs.Ids.{id_of}
use Rattle.stun_client.specs.Judging.{Identity, IsEndOrNothing, Verdict, anew, refused}
use Rattle.stun_client_endpoint.specs.Bodies.{Body}
use Rattle.stun_client_endpoint.specs.Written.{Form, Page?}
use Rattle.stun_client_requests.specs.Numbers.{id_at, id_in}
use Rattle.stun_client_requests.specs.Requests.{datum_of}
use Rattle.stun_client_requests.specs.declared.numbers.Known.TheVariants.{Outstanding}
use Rattle.stun_client_requests.specs.declared.requests.Request.{Request}
use Rattle.stun_client_calls.specs.Clients.{Client, changed, identity_for, chosen, first_asked}
use Rattle.stun_client_calls.specs.Clients.{first_message, refusal_to_start, started, started_at}
use Rattle.stun_client_calls.specs.Clients.{started_by, started_with, transmit}
use Rattle.stun_client_calls.specs.Messages.{AskedSeen}
use Rattle.stun_client_calls.specs.OptionLaws.{is_unsigned}
use Rattle.stun_client_calls.specs.Options.{Options}
use Rattle.stun_client_calls.specs.Receiving.{Met}
use Rattle.stun_client_calls.specs.Runs.{Calls, Event, call, next_number, no_call}
use Rattle.stun_client_calls.specs.Runs.{polled as says_so, polls, requests, starts}
use Rattle.stun_client_calls.specs.declared.asked.Change.{Change}
use Rattle.stun_client_calls.specs.declared.asked.Change.TheVariants.{Noted, Refused, SentOut}
use Rattle.stun_client_calls.proofs.TurnLemmas.{IsOne, some_is}
use Rattle.stun_client_runs.specs.Kept.{IsClient, StaysAClient}
use Rattle.stun_client_runs.specs.Laws.{TransmitsWhatIsThere}
use Rattle.stun_client_strength.specs.Costs.{IsCheap, IsRefusedRun, between, challenged, over}
use Rattle.stun_client_strength.specs.Costs.{refused_by, sent}
use Rattle.stun_client_strength.specs.Hearing.{message_answered, response_verdict}
use Rattle.stun_client_runs.proofs.EachAtLemmas.{datum_in, is_there, numbered, stored_one}
use Rattle.stun_client_strength.proofs.HeldLemmas.{AreHeld, AreRules, calls_held}
use Rattle.stun_client_strength.proofs.RefusingLemmas.{any_lapse, any_lets, any_poll, any_standing}
use Rattle.stun_client_strength.proofs.RefusingLemmas.{heard_met, low_number, no_facts, not_new}
use Rattle.stun_client_strength.proofs.UnsignedLemmas.{for_unsigned, standing_signed}
use Rattle.stun_client_strength.proofs.UnsignedLemmas.{unsigned_ends}
use Rattle.stun_client_strength.proofs.CostLemmas.{IsBound, IsFresh, costs, next_client}
use Rattle.stun_client_strength.proofs.CostLemmas.{nothing_left}

-- ---- a request that is not to be signed

-- the request with this number is not to be signed
abbrev IsOff : ℕ → ℕ → Request AskedSeen → Type 0
IsOff number id q = q.number ≡ number → is_unsigned q.datum.options ≡ true

off_changed : (number other : ℕ) (change : Change) (a : AskedSeen)
    → IsOff number 0 (numbered other a) → IsOff number 0 (numbered other (changed change a))
off_changed number other (SentOut now) a its = its
off_changed number other (Noted why code) a its = its
off_changed number other (Refused code) a its = its

off_rules : (identity : Identity) (number : ℕ)
    → AreRules identity (number + 1) any_standing (IsOff number) any_lapse
off_rules identity number = record {
  starts = λ s id other method until body options low any. λ same.
      absurd (not_new number other low same);
  changes = λ id other change a its. off_changed number other change a its;
  turns_so = λ j now id new other former a bytes place t is_kept signed same any its is. its;
  answers = λ j now id other a bytes place why d signed same any its is. tt;
  succeeds = λ s id other a o any its signed. tt;
  lapses = λ s a so any. tt;
}

-- neither a challenge nor a refusal answers it
never_asked : (c : Client) (bytes : List ℕ) (m : Met) (v : Verdict)
    → is_unsigned m.asked.options ≡ true → response_verdict c bytes m ≡ v → IsEndOrNothing v
never_asked c bytes m v off is =
    subst IsEndOrNothing is
    (unsigned_ends c.requires_fingerprint m.is_current (identity_for c m.asked) c.standing
    m.signed_for bytes (for_unsigned m.asked.options c.identity off))

waits_or_not : (w : Bool) → 0 + cond w 1 0 ≤ 1
waits_or_not true = omega arith
waits_or_not false = omega arith

module _ (stays : StaysAClient) (transmits : TransmitsWhatIsThere) (identity : Identity)
    (form : Form) (number : ℕ) where
  abbrev Off : Client → Type 0
  Off c = AreHeld identity form (number + 1) any_standing (IsOff number) c

  off_then : (c : Client) (events : List Event) (after : Client) → IsClient c
      → Calls c events after → Off c → Off after
  off_then c events after is calls held =
      calls_held identity form (number + 1) any_standing (IsOff number) any_lapse
      (off_rules identity number) any_poll any_lets stays c events after is calls
      (no_facts c events after calls) held

  -- the request whose message is answered
  off_met : (c : Client) (from : SocketAddr) (bytes : List ℕ) (m : Met) → IsClient c → Off c
      → message_answered c from bytes ≡ Some m → m.number ≡ number
      → is_unsigned m.asked.options ≡ true
  off_met c from bytes m is held hears named =
      let t = is_there m.number m.asked c.requests is.requests.one
      (heard_met from bytes c m hears).stored in
      held.asked t.id (numbered m.number m.asked) t.there named

  once : (w : Bool) (c : Client) (count : ℕ) (later : Client) → IsClient c → Off c
      → IsRefusedRun number w c count later → count + cond w 1 0 ≤ 1
  once w c count later is held (over _ _) = waits_or_not w
  once w c count later is held (sent _ next _ now n said rest) =
      let made = polls c next now (transmit number) said in
      let next_is = next_client stays transmits number c (says_so (transmit number)) next is made in
      let next_held = off_then c (says_so (transmit number) ∷ []) next is
      (call c next next (says_so (transmit number)) [] made (no_call next)) held in
      let low = once true next n later next_is next_held rest in
      omega (arith, low)
  once w c count later is held
      (challenged _ _ next _ memory from bytes now n m x low hears named unsigned verdict comes
      rest) =
      absurd (never_asked c bytes m (anew x) (off_met c from bytes m is held hears named) verdict)
  once w c count later is held
      (refused_by _ _ next _ memory from bytes now n m low hears named some_signed verdict comes rest) =
      absurd (never_asked c bytes m (refused None) (off_met c from bytes m is held hears named)
      verdict)
  once w c count later is held (between _ _ next _ events n calls unsent untouched rest) =
      once w next n later (stays c next events is calls) (off_then c events next is calls held) rest

-- ---- the first message

-- what is stored of a request that is started
first_is : (c : Client) (method : ℕ) (body : Body) (options : Option Options) (start : ℕ)
    (a : AskedSeen) → IsOne c.requests
    → datum_of c.requests.next (started method body options start c).requests ≡ Some a
    → a ≡ first_asked c method body options start
first_is c method body options start a one = by (chosen c)
  where
    new : AskedSeen
    new = first_asked c method body options start

    fresh : datum_of c.requests.next c.requests ≡ Some a → a ≡ new
    fresh some =
        nothing_left c.requests.next c.requests a (a ≡ new)
        (ap (λ o. datum_in c.requests (option_and_then id_in o))
        (one.fresh c.requests.next (omega arith))) some

    page : (number : ℕ) (p : Page?)
        → datum_of c.requests.next (started_with c number method body options start p).requests
        ≡ Some a
        → a ≡ new
    page number (Err why) some = fresh some
    page number (Ok bytes) some =
        let after = (started_by c number method body options bytes start).requests in
        let id = id_of c.seed number in
        let named : id_at c.requests.next after.numbers ≡ Some id =
        ap (λ o. option_and_then id_in o)
        (lookup-insert_same c.requests.next (Outstanding id) c.requests.numbers.known) in
        let there : datum_at id after.table.attached ≡ Some (numbered c.requests.next new) =
        lookup-insert_same id (numbered c.requests.next new) c.requests.table.attached in
        let stored : datum_of c.requests.next after ≡ Some new =
        ap (λ o. datum_in after o) named
        ∙ ap (λ (o : Option (Request AskedSeen)). option_map (λ x. x.datum) o) there in
        some_is a new (sym some ∙ stored)

    by : (o : Option ℕ)
        → datum_of c.requests.next (started_at c method body options start o).requests ≡ Some a
        → a ≡ new
    by None some = fresh some
    by (Some number) some = page number (first_message c method number body options) some

up_to_three : (count : ℕ) (u x : Bool) → count + 0 ≤ cond u 3 (cond x 1 2) → count ≤ 3
up_to_three count true true low = omega (arith, low)
up_to_three count true false low = omega (arith, low)
up_to_three count false true low = omega (arith, low)
up_to_three count false false low = omega (arith, low)

up_to_two : (count : ℕ) (u x : Bool) → u ≡ false → count + 0 ≤ cond u 3 (cond x 1 2) → count ≤ 2
up_to_two count true x off low = cc
up_to_two count false true off low = omega (arith, low)
up_to_two count false false off low = omega (arith, low)

signed_is : (o : Option Answered) → IsSome o → is_none o ≡ false
signed_is None some = cc
signed_is (Some x) some = refl

three : (count : ℕ) (o : Option AskedSeen) → IsBound false count o → count ≤ 3
three count None low = omega (arith, low)
three count (Some a) low =
    up_to_three count (is_none a.signed_for) (a.refusals.is_earlier || a.refusals.is_recent) low

two : (count : ℕ) (o : Option AskedSeen) (current : Option Answered)
    → ((a : AskedSeen) → o ≡ Some a → a.signed_for ≡ current) → IsSome current
    → IsBound false count o → count ≤ 2
two count None current its some low = omega (arith, low)
two count (Some a) current its some low =
    up_to_two count (is_none a.signed_for) (a.refusals.is_earlier || a.refusals.is_recent)
    (ap (λ (o : Option Answered). is_none o) (its a refl) ∙ signed_is current some) low

unforced : (o : Option AskedSeen) → IsFresh false o
unforced None = tt
unforced (Some a) = λ so. cc

up_to_one : (count : ℕ) → count + 0 ≤ 1 → count ≤ 1
up_to_one count low = omega (arith, low)

none_at_all : (count : ℕ) → count ≤ 0 → count ≤ 1
none_at_all count low = omega (arith, low)

one_is_two : (count : ℕ) → count ≤ 1 → count ≤ 2
one_is_two count low = omega (arith, low)

module _ (stays : StaysAClient) (transmits : TransmitsWhatIsThere) (c later : Client) (method : ℕ)
    (body : Body) (options : Option Options) (start count : ℕ) (is : IsClient c)
    (in_time : start ≤ last_moment) (none : refusal_to_start c method body options ≡ None)
    (run : IsRefusedRun (next_number c) false (started method body options start c) count later)
  where
    abbrev first : Client
    first = started method body options start c

    begun : IsClient first
    begun =
        next_client stays transmits (next_number c) c (starts (next_number c)) first is
        (requests c first method body options start in_time none refl)

    bound : IsBound false count (datum_of (next_number c) first.requests)
    bound =
        costs stays transmits (next_number c) false first count later begun run
        (datum_of (next_number c) first.requests) refl
        (unforced (datum_of (next_number c) first.requests))

    -- if it is not to be signed
    costs_one : is_unsigned options ≡ true → count ≤ 1
    costs_one off = by (datum_of (next_number c) first.requests) refl bound
      where
        by : (o : Option AskedSeen) → datum_of (next_number c) first.requests ≡ o
            → IsBound false count o → count ≤ 1
        by None gone low = none_at_all count low
        by (Some a) there low =
            up_to_one count (once stays transmits first.identity first.form (next_number c) false
            first count later begun (record {
              identity_is = refl;
              form_is = refl;
              next_is = low_number (next_number c) a first.requests begun.requests.one there;
              standing = tt;
              asked = λ id q stored same.
                  let its : datum_of (next_number c) first.requests ≡ Some q.datum =
                  subst (λ k. datum_of k first.requests ≡ Some q.datum) same
                  (stored_one id q first.requests begun.requests.one stored).1 in
                  ap (λ (x : AskedSeen). is_unsigned x.options)
                  (first_is c method body options start q.datum is.requests.one its)
                  ∙ off;
            }) run)

    -- if there is a challenge to sign it for
    costs_two : IsSome c.standing.current → count ≤ 2
    costs_two some = by (is_unsigned options) refl
      where
        by : (b : Bool) → is_unsigned options ≡ b → count ≤ 2
        by false signed =
            two count (datum_of (next_number c) first.requests) c.standing.current
            (λ a there.
            ap (λ (x : AskedSeen). x.signed_for)
            (first_is c method body options start a is.requests.one there)
            ∙ standing_signed options c.standing.current signed) some bound
        by true off = one_is_two count (costs_one off)

    pub costs_three : IsCheap c.standing.current options count
    costs_three = record {
      three = three count (datum_of (next_number c) first.requests) bound;
      two = λ some. costs_two some;
      one = λ off. costs_one off;
    }

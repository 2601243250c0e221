-- An outstanding request keeps its options and the end of its first plan over each call.
use Rattle.std.proofs.Common.{◌≡◌, ◌∙◌, ◌<◌, ℕ, Bool, true, false, List, Option, Some, None, Ok}
use Rattle.std.proofs.Common.{Err, ap, arith, cond, length, refl, subst, sym}
use Rattle.std.specs.Option.{option_and_then, option_map, option_map_or}
use Rattle.std.specs.Prelude.{◌==◌}
use Rattle.std.specs.declared.net.socket_addr.SocketAddr.{SocketAddr}
use Rattle.std.proofs.lemmas.Bool.{eqb-true}
use Rattle.stun_base.specs.Moments.{moment_after}
use Rattle.stun_agent.specs.Tables.{datum_at}
use Rattle.stun_agent.specs.Timing.{Settings}
use Rattle.stun_client.specs.Challenges.{Answered}
use Rattle.stun_client.specs.Ids.{id_of}
use Rattle.stun_client_endpoint.specs.Bodies.{Body}
use Rattle.stun_client_endpoint.specs.Settings.{plan_of}
use Rattle.stun_client_endpoint.specs.Written.{Page?}
use Rattle.stun_client_requests.specs.Laws.{IsRequests}
use Rattle.stun_client_requests.specs.Numbers.{id_at, id_in, known_at}
use Rattle.stun_client_requests.specs.Requests.{Answering, Poll as PollOf, after_again}
use Rattle.stun_client_requests.specs.Requests.{after_replacing, datum_of, polled}
use Rattle.stun_client_requests.specs.declared.requests.Polled.TheVariants as Of
use Rattle.stun_client_requests.specs.declared.requests.Request.{Request}
use Rattle.stun_client_requests.proofs.NumberLemmas.{eqb-same}
use Rattle.stun_client_requests.proofs.TimelyLemmas.{named_is_one}
use Rattle.stun_client_calls.specs.Bounds.{HasPlan, IsPunctual}
use Rattle.stun_client_calls.specs.Clients.{Client, Poll, by_polled, changed, changed_at, chosen}
use Rattle.stun_client_calls.specs.Clients.{first_asked, first_message, given_up, handed_out_of}
use Rattle.stun_client_calls.specs.Clients.{plan_for, sent_by}
use Rattle.stun_client_calls.specs.Clients.{started, started_at, started_with, told, with_requests}
use Rattle.stun_client_calls.specs.Endpoints.{EndSeen}
use Rattle.stun_client_calls.specs.Messages.{AskedSeen, is_late}
use Rattle.stun_client_calls.specs.Options.{Options, plan_by}
use Rattle.stun_client_calls.specs.Receiving.{Answer, Memory, Met, Spot, UnlessMemory, heard_in}
use Rattle.stun_client_calls.specs.Receiving.{moment_of, received}
use Rattle.stun_client_calls.specs.Runs.{Call, Event, changes_nothing, ends_one, polls, receives}
use Rattle.stun_client_calls.specs.Runs.{next_number, requests}
use Rattle.stun_client_calls.specs.declared.asked.Change.{Change}
use Rattle.stun_client_calls.specs.declared.asked.Change.TheVariants.{SentOut}
use Rattle.stun_client_calls.specs.declared.turning.Why.{Why}
use Rattle.stun_client_calls.proofs.BoundLemmas.{changed_options, changed_until}
use Rattle.stun_client_calls.proofs.EachLemmas.{Each, again_each, answer_each, cancel_each}
use Rattle.stun_client_calls.proofs.EachLemmas.{polls_each, remove_each, replace_each, start_each}
use Rattle.stun_client_calls.proofs.HeardLemmas.{answering_of, heard, nothing_of, turned_of}
use Rattle.stun_client_calls.proofs.StoredLemmas.{started_stored, stays_stored}
use Rattle.stun_client_calls.proofs.TurnLemmas.{All, IsOne, datum_after, no_more, one_after}
use Rattle.stun_client_calls.proofs.TurnLemmas.{some_is}
use Rattle.stun_client_calls.proofs.TurnLemmas.{stored_one}

-- ---- one request

-- the number of the next request is free
next_is_free : (r : All) → IsOne r → (id : ℕ) (q : Request AskedSeen)
    → datum_at id r.table.attached ≡ Some q → q.number ≡ r.next → ⊥
next_is_free r one id q there number =
    let gone : known_at r.next r.numbers.known ≡ None =
    one.fresh r.next (no_more r.next r.next refl) in
    let none : datum_of r.next r ≡ None =
    ap (λ o. option_map (λ (x : Request AskedSeen). x.datum)
    (option_and_then (λ k. datum_at k r.table.attached) (option_and_then id_in o))) gone in
    let some = stored_one r.next id q r one there number in
    cc

-- this part of what is stored of the request with a number is this
abbrev HasPart : {X : Type 0} → (AskedSeen → X) → ℕ → X → Client → Type 0
HasPart part n value c = (a : AskedSeen) → datum_of n c.requests ≡ Some a → part a ≡ value

-- a part that no change and no other message changes
module _ {X : Type 0} (part : AskedSeen → X)
    (still : (change : Change) (a : AskedSeen) → part (changed change a) ≡ part a)
    (as_before : (memory : Memory) (bytes : List ℕ) (m : Met) (why : Why) (d : Option Answered)
    (s : Spot) → part (turned_of memory bytes m why d s) ≡ part m.asked) (n : ℕ) (value : X) where
  -- this is of the request with this number
  abbrev Own : Request AskedSeen → Type 0
  Own q = q.number ≡ n → part q.datum ≡ value

  abbrev EachOf : Client → Type 0
  EachOf c = Each Own c.requests.table.attached

  own_each : (c : Client) → IsOne c.requests → HasPart part n value c → EachOf c
  own_each c one has id q there number =
      has q.datum (stored_one n id q c.requests one there number)

  own_back : (r : All) → IsOne r → Each Own r.table.attached → (b : AskedSeen)
      → datum_of n r ≡ Some b → part b ≡ value
  own_back r one each b some = by (id_at n r.numbers) refl some
    where
      found : (id : ℕ) → id_at n r.numbers ≡ Some id → (o : Option (Request AskedSeen))
          → datum_at id r.table.attached ≡ o → option_map (λ x. x.datum) o ≡ Some b
          → part b ≡ value
      found id named None there is = cc
      found id named (Some q) there is =
          let numbered : Some q.number ≡ Some n =
          sym (ap (λ (o : Option (Request AskedSeen)). option_map (λ x. x.number) o) there)
          ∙ one.timed n id named in
          sym (ap part (some_is q.datum b is))
          ∙ each id q there (some_is q.number n numbered)

      by : (o : Option ℕ) → id_at n r.numbers ≡ o
          → option_map (λ x. x.datum) (option_and_then (λ id. datum_at id r.table.attached) o)
          ≡ Some b
          → part b ≡ value
      by None named is = cc
      by (Some id) named is = found id named (datum_at id r.table.attached) refl is

  -- a request is started, which may be this one
  started_each : (c : Client) (method : ℕ) (body : Body) (options : Option Options) (now : ℕ)
      → EachOf c → (c.requests.next ≡ n → part (first_asked c method body options now) ≡ value)
      → (o : Option ℕ) → EachOf (started_at c method body options now o)
  started_each c method body options now each own None = each
  started_each c method body options now each own (Some number) =
      by (first_message c method number body options)
    where
      by : (page : Page?) → EachOf (started_with c number method body options now page)
      by (Err why) = each
      by (Ok bytes) =
          start_each Own c.requests each (id_of c.seed number) bytes (plan_by options c.plan)
          (first_asked c method body options now) now own

  -- what is stored of a request changes, but not when its first plan ends
  changed_each : (change : Change) (m : ℕ) (c : Client) → IsOne c.requests → EachOf c
      → EachOf (with_requests (changed_at change m c.requests) c)
  changed_each change m c one each = by (datum_of m c.requests) refl
    where
      by : (o : Option AskedSeen) → datum_of m c.requests ≡ o
          → Each Own (option_map_or (λ y. after_replacing m (changed change y) c.requests) o
          c.requests).table.attached
      by None found = each
      by (Some y) found =
          replace_each Own c.requests each m (changed change y)
          (λ same. still change y
          ∙ own_back c.requests one each y (subst (λ k. datum_of k c.requests ≡ Some y) same found))

  handed_each : (now m : ℕ) (c : Client) → IsOne c.requests → EachOf c → (o : Option AskedSeen)
      → EachOf (handed_out_of now m c o).1
  handed_each now m c one each None = each
  handed_each now m c one each (Some x) = by (is_late now x)
    where
      by : (b : Bool) → EachOf (cond b (given_up m x c) (sent_by now m c)).1
      by true = remove_each Own c.requests each one.in_order m
      by false = changed_each (SentOut now) m c one each

  told_each : (now : ℕ) (c : Client) → IsOne c.requests → EachOf c → EachOf (told now c).1
  told_each now c one each = by (polled now c.requests) refl
    where
      kept : (p : PollOf AskedSeen EndSeen) → polled now c.requests ≡ p
          → Each Own p.1.table.attached
      kept p same =
          subst (λ (x : PollOf AskedSeen EndSeen). Each Own x.1.table.attached) same
          (polls_each Own c.requests each one.in_order now)

      by : (p : PollOf AskedSeen EndSeen) → polled now c.requests ≡ p
          → EachOf (by_polled now (with_requests p.1 c) p.0).1
      by (Of.Transmit m, r) same =
          handed_each now m (with_requests r c)
          (subst (λ (x : PollOf AskedSeen EndSeen). IsOne x.1) same
          (named_is_one now m c.requests one (ap (λ (x : PollOf AskedSeen EndSeen). x.0) same)))
          (kept (Of.Transmit m, r) same) (datum_of m r)
      by (Of.Ended number end, r) same = kept (Of.Ended number end, r) same
      by (Of.TimedOut number x, r) same = kept (Of.TimedOut number x, r) same
      by (Of.Wait at_last, r) same = kept (Of.Wait at_last, r) same

  -- another message of a request becomes the current one
  turned_each : (r : All) (plan : Settings) (now m id : ℕ) (x : Answering) (bytes : List ℕ)
      (empty b d : AskedSeen) → IsOne r → Each Own r.table.attached → datum_of m r ≡ Some b
      → IsOne (after_replacing m d (after_again m x id bytes plan empty now r))
      → datum_of m (after_replacing m d (after_again m x id bytes plan empty now r)) ≡ Some d
      → part d ≡ part b
      → Each Own (after_replacing m d (after_again m x id bytes plan empty now r)).table.attached
  turned_each r plan now m id x bytes empty b d one each there one_then there_then same =
      by (m == n) refl
    where
      then_of : All
      then_of = after_replacing m d (after_again m x id bytes plan empty now r)

      by : (is_own : Bool) → (m == n) ≡ is_own → Each Own then_of.table.attached
      by true own =
          λ k q found number.
          let is_one : m ≡ n = eqb-true m n own in
          let kept : datum_of n then_of ≡ Some d =
          subst (λ j. datum_of j then_of ≡ Some d) is_one there_then in
          let before : datum_of n r ≡ Some b = subst (λ j. datum_of j r ≡ Some b) is_one there in
          ap part
          (some_is q.datum d (sym (stored_one n k q then_of one_then found number) ∙ kept))
          ∙ same ∙ own_back r one each b before
      by false other =
          replace_each Own (after_again m x id bytes plan empty now r)
          (again_each Own r each one.in_order m x id bytes plan empty now
          (λ number. absurd (differs number)))
          m d (λ number. absurd (differs number))
        where
          differs : m ≡ n → ⊥
          differs number =
              let on : (m == n) ≡ true = ap (λ k. k == n) number ∙ eqb-same n in
              cc

  heard_each : (from : SocketAddr) (bytes : List ℕ) (now : ℕ) (c : Client) (answer : Answer)
      → IsOne c.requests → IsPunctual c → EachOf c
      → UnlessMemory (λ memory. received memory from bytes now c) bytes (heard_in from bytes c) c answer
      → EachOf answer.1
  heard_each from bytes now c answer one is each =
      heard EachOf c now bytes each (λ change m drop. changed_each change m c one each)
      (λ end m standing. answer_each Own c.requests each one.in_order m.number (length bytes)
      (moment_of now m) end)
      (λ memory m why d s page t. turned_each c.requests (plan_for c m.asked) now m.number s.id
      (answering_of now bytes) page (nothing_of m) m.asked (turned_of memory bytes m why d s) one each
      t.there
      (one_after c.requests (plan_for c) now m.number s.id (answering_of now bytes) page (nothing_of m)
      m.asked (turned_of memory bytes m why d s) one is t.there t.free t.in_time refl refl)
      (datum_after c.requests (plan_for c) now m.number s.id (answering_of now bytes) page
      (nothing_of m) m.asked (turned_of memory bytes m why d s) one is t.there t.free t.in_time refl
      refl)
      (as_before memory bytes m why d s))
      from answer

  call_each : (c after : Client) (event : Event) → IsOne c.requests → IsPunctual c
      → n < c.requests.next → EachOf c → Call c event after → EachOf after
  call_each c after event one is low each (requests _ _ method body options now early none made) =
      subst EachOf (sym made)
      (started_each c method body options now each (λ next. absurd (lower next)) (chosen c))
    where
      lower : c.requests.next ≡ n → ⊥
      lower next = omega (arith, low, next)
  call_each c after event one is low each (receives _ _ from bytes now answer early hears made) =
      subst EachOf (sym made) (heard_each from bytes now c answer one is each hears)
  call_each c after event one is low each (polls _ _ now says said) =
      subst EachOf (ap (λ (p : Poll). p.1) said) (told_each now c one each)
  call_each c after event one is low each (ends_one _ _ number b there made) =
      subst EachOf (sym made) (cancel_each Own c.requests each one.in_order number _)
  call_each c after event one is low each (changes_nothing _) = each

-- ---- law

-- a part that is kept is kept over each call
keeps_part : {X : Type 0} (part : AskedSeen → X)
    → ((change : Change) (a : AskedSeen) → part (changed change a) ≡ part a)
    → ((memory : Memory) (bytes : List ℕ) (m : Met) (why : Why) (d : Option Answered) (s : Spot)
    → part (turned_of memory bytes m why d s) ≡ part m.asked)
    → (n : ℕ) (value : X) (c after : Client) (event : Event) → IsRequests c.requests → IsPunctual c
    → n < c.requests.next → Call c event after → HasPart part n value c → HasPart part n value after
keeps_part part still as_before n value c after event i is low call has =
    own_back part still as_before n value after.requests (stays_stored c after event i is call).one
    (call_each part still as_before n value c after event i.one is low
    (own_each part still as_before n value c i.one has) call)

-- and it is that of the request which starts
starts_part : {X : Type 0} (part : AskedSeen → X)
    → ((change : Change) (a : AskedSeen) → part (changed change a) ≡ part a)
    → ((memory : Memory) (bytes : List ℕ) (m : Met) (why : Why) (d : Option Answered) (s : Spot)
    → part (turned_of memory bytes m why d s) ≡ part m.asked)
    → (c : Client) (method : ℕ) (body : Body) (options : Option Options) (now : ℕ)
    → IsRequests c.requests
    → HasPart part (next_number c) (part (first_asked c method body options now))
    (started method body options now c)
starts_part part still as_before c method body options now i =
    own_back part still as_before c.requests.next (part (first_asked c method body options now))
    (started method body options now c).requests
    (started_stored c method body options now i (chosen c) refl).one
    (started_each part still as_before c.requests.next (part (first_asked c method body options now)) c
    method body options now
    (λ id q there number. absurd (next_is_free c.requests i.one id q there number)) (λ next. refl)
    (chosen c))

pub keeps_plan : (c after : Client) (event : Event) (number until : ℕ) → IsRequests c.requests
    → IsPunctual c → number < c.requests.next → Call c event after → HasPlan number until c
    → HasPlan number until after
keeps_plan c after event number until =
    keeps_part (λ (a : AskedSeen). a.until) changed_until (λ memory bytes m why d s. refl) number until c after event

pub starts_plan : (c : Client) (method : ℕ) (body : Body) (options : Option Options) (now : ℕ)
    → IsRequests c.requests
    → HasPlan (next_number c) (moment_after now (plan_of (plan_by options c.plan)))
    (started method body options now c)
starts_plan c method body options now i =
    starts_part (λ (a : AskedSeen). a.until) changed_until (λ memory bytes m why d s. refl) c method body options
    now i

-- the options of the request with a number
abbrev pub HasOptions : ℕ → Option Options → Client → Type 0
HasOptions n options c = (a : AskedSeen) → datum_of n c.requests ≡ Some a → a.options ≡ options

pub keeps_options : (c after : Client) (event : Event) (number : ℕ) (options : Option Options)
    → IsRequests c.requests → IsPunctual c → number < c.requests.next → Call c event after
    → HasOptions number options c → HasOptions number options after
keeps_options c after event number options =
    keeps_part (λ (a : AskedSeen). a.options) changed_options (λ memory bytes m why d s. refl) number options c
    after event

pub starts_options : (c : Client) (method : ℕ) (body : Body) (options : Option Options) (now : ℕ)
    → IsRequests c.requests
    → HasOptions (next_number c) options (started method body options now c)
starts_options c method body options now i =
    starts_part (λ (a : AskedSeen). a.options) changed_options (λ memory bytes m why d s. refl) c method body
    options now i

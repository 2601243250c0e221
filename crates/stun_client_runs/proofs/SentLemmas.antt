-- The bytes of a request are those that it was started for, for every sequence of calls.
use Rattle.std.proofs.Common.{◌≡◌, ◌∙◌, ◌<◌, ℕ, Bool, true, false, List, Option, Some, None, Ok}
use Rattle.std.proofs.Common.{ap, arith, cond, refl, subst, sym}
use Rattle.std.specs.Option.{IsSome, is_some, option_and_then, option_map, option_map_or}
use Rattle.stun_agent.specs.Tables.{datum_at, with_other_datum}
use Rattle.stun_agent.specs.Transactions.{Transaction, at as transaction_at}
use Rattle.stun_client.specs.Ids.{id_of}
use Rattle.stun_client_endpoint.specs.Bodies.{Body}
use Rattle.stun_client_endpoint.specs.Written.{request_bytes}
use Rattle.stun_client_endpoint.proofs.WrittenLemmas.{request_type}
use Rattle.stun_client_requests.specs.Numbers.{id_at, id_in}
use Rattle.stun_client_requests.specs.Requests.{Poll as PollOf, after_replacing}
use Rattle.stun_client_requests.specs.Requests.{bytes_at, datum_of, polled as polled_in}
use Rattle.stun_client_requests.specs.declared.requests.Polled.TheVariants as Of
use Rattle.stun_client_requests.specs.declared.requests.Request.{Request}
use Rattle.stun_client_calls.specs.Clients.{Client, Poll, by_polled, changed, changed_at}
use Rattle.stun_client_calls.specs.Clients.{first_asked, given_up, handed_out_of, refusal_to_start}
use Rattle.stun_client_calls.specs.Clients.{sent_by, started, started_by, told, transmit}
use Rattle.stun_client_calls.specs.Clients.{with_requests}
use Rattle.stun_client_calls.specs.Endpoints.{EndSeen}
use Rattle.stun_client_calls.specs.Messages.{AskedSeen, is_late}
use Rattle.stun_client_calls.specs.Options.{Options, identity_by}
use Rattle.stun_client_calls.specs.Runs.{Call, Calls, Event, call, changes_nothing, ends_one}
use Rattle.stun_client_calls.specs.Runs.{next_number}
use Rattle.stun_client_calls.specs.Runs.{no_call, polls, receives, requests}
use Rattle.stun_client_calls.specs.declared.asked.Change.{Change}
use Rattle.stun_client_calls.specs.declared.asked.Change.TheVariants.{SentOut}
use Rattle.stun_client_calls.proofs.EachLemmas.{Each, put_each}
use Rattle.stun_client_calls.proofs.TurnLemmas.{All}
use Rattle.stun_client_runs.specs.Kept.{IsClient, IsCurrent}
use Rattle.stun_client_runs.specs.Sent.{Asking, HasItsBytes, IsSentAs, asking}
use Rattle.stun_client_runs.proofs.ChangeLemmas.{IsSame, IsThere, there_by_datum, there_by_id}
use Rattle.stun_client_runs.proofs.ChangeLemmas.{written_alike}
use Rattle.stun_client_runs.proofs.EachLemmas.{IsAfter, Was}
use Rattle.stun_client_runs.proofs.EffectLemmas.{call_step, start_is}
use Rattle.stun_client_runs.proofs.KeptLemmas.{cancelled_after, started_is}
use Rattle.stun_client_runs.proofs.PollLemmas.{IsPolled, polled_client}
use Rattle.stun_client_runs.proofs.PollLemmas.{told_after}
use Rattle.stun_client_runs.proofs.ReceivingLemmas.{heard_after}

-- ---- what is to be sent is there

pub numbers_changed : (change : Change) (n : ℕ) (r : All) → (changed_at change n r).numbers ≡ r.numbers
numbers_changed change n r = by (datum_of n r)
  where
    replaced : (b : AskedSeen) (o : Option ℕ) → (option_map_or (λ id. record r {
      table = with_other_datum id (record { number = n; datum = b }) r.table;
    }) o r).numbers ≡ r.numbers
    replaced b None = refl
    replaced b (Some id) = refl

    by : (o : Option AskedSeen)
        → (option_map_or (λ a. after_replacing n (changed change a) r) o r).numbers ≡ r.numbers
    by None = refl
    by (Some a) = replaced (changed change a) (id_at n r.numbers)

told_is : (k n : ℕ) → transmit k ≡ transmit n → k ≡ n
told_is k n e = cc

-- a request that a poll asks to be sent is outstanding
transmits : (now n : ℕ) (c after : Client) → IsClient c → told now c ≡ (transmit n, after)
    → IsSome (id_at n after.requests.numbers)
transmits now n c after is said = by (polled_in now c.requests) (polled_client now c is) said
  where
    handed : (k : ℕ) (r : All) → IsSome (id_at k r.numbers) → (o : Option AskedSeen)
        → handed_out_of now k (with_requests r c) o ≡ (transmit n, after)
        → IsSome (id_at n after.requests.numbers)
    handed k r there None said =
        subst (λ (x : Client). IsSome (id_at n x.requests.numbers)) (ap (λ (p : Poll). p.1) said)
        (subst (λ j. IsSome (id_at j r.numbers)) (told_is k n (ap (λ (p : Poll). p.0) said)) there)
    handed k r there (Some a) said = late (is_late now a) said
      where
        late : (b : Bool)
            → cond b (given_up k a (with_requests r c)) (sent_by now k (with_requests r c))
            ≡ (transmit n, after)
            → IsSome (id_at n after.requests.numbers)
        late true said = let no = ap (λ (p : Poll). p.0) said in cc
        late false said =
            subst (λ (x : Client). IsSome (id_at n x.requests.numbers))
            (ap (λ (p : Poll). p.1) said)
            (ap (λ s. is_some (id_at n s)) (numbers_changed (SentOut now) k r)
            ∙ subst (λ j. IsSome (id_at j r.numbers)) (told_is k n (ap (λ (p : Poll). p.0) said))
            there)

    by : (p : PollOf AskedSeen EndSeen) → IsPolled c p
        → by_polled now (with_requests p.1 c) p.0 ≡ (transmit n, after)
        → IsSome (id_at n after.requests.numbers)
    by (Of.Transmit k, r) well said = handed k r well.named (datum_of k r) said
    by (Of.Ended k end, r) well said = let no = ap (λ (p : Poll). p.0) said in cc
    by (Of.TimedOut k a, r) well said = let no = ap (λ (p : Poll). p.0) said in cc
    by (Of.Wait until, r) well said = let no = ap (λ (p : Poll). p.0) said in cc

bytes_are : (c : Client) (n id : ℕ) (t : Transaction) → id_at n c.requests.numbers ≡ Some id
    → transaction_at id c.requests.table.requests ≡ Some t
    → bytes_at n c.requests ≡ Some t.bytes
bytes_are c n id t named sent =
    ap (λ o. option_and_then (λ k. option_map (λ (x : Transaction). x.bytes)
    (transaction_at k c.requests.table.requests)) o) named
    ∙ ap (λ (o : Option Transaction). option_map (λ x. x.bytes) o) sent

-- an outstanding request has bytes, and something is stored of it
stored_bytes : (c : Client) (n : ℕ) → IsClient c → IsSome (id_at n c.requests.numbers)
    → (a : AskedSeen) × (datum_of n c.requests ≡ Some a) × IsSome (bytes_at n c.requests)
stored_bytes c n is some = by (id_at n c.requests.numbers) refl some
  where
    by : (o : Option ℕ) → id_at n c.requests.numbers ≡ o → IsSome o
        → (a : AskedSeen) × (datum_of n c.requests ≡ Some a) × IsSome (bytes_at n c.requests)
    by None named there = cc
    by (Some id) named there =
        let found = there_by_id c.requests n id is.requests named in
        let current = is.current id found.0 found.1 in (
          found.0.datum,
          ap (λ o. option_map (λ (x : Request AskedSeen). x.datum)
              (option_and_then (λ k. datum_at k c.requests.table.attached) o)) named
              ∙ ap (λ (o : Option (Request AskedSeen)). option_map (λ x. x.datum) o) found.1,
          ap is_some (bytes_are c n id current.transaction named current.sent),
        )

pub sends_what_is_there : (now n : ℕ) (c after : Client) → IsClient c
    → told now c ≡ (transmit n, after) → IsSome (bytes_at n after.requests)
sends_what_is_there now n c after is said =
    let client : IsClient after =
    subst IsClient (ap (λ (p : Poll). p.1) said) (told_after now c is).client in
    (stored_bytes after n client (transmits now n c after is said)).2

-- ---- the request that was started

-- a request with its number has its method, its body and its options
abbrev Own : Asking → Request AskedSeen → Type 0
Own s q = q.number ≡ s.number
    → (q.datum.method ≡ s.method) × (q.datum.body ≡ s.body) × (q.datum.options ≡ s.options)

record IsLike (s : Asking) (c : Client) : Type 0 where
  pub is : IsClient c
  pub low : s.number < c.requests.next
  pub each : Each (Own s) c.requests.table.attached
  pub server : c.server ≡ s.server
  pub form : c.form ≡ s.form
  pub identity : c.identity ≡ s.identity
  pub seed : c.seed ≡ s.seed

like_same : (s : Asking) (c after : Client) → IsSame c after → IsClient after
    → s.number < after.requests.next → Each (Own s) after.requests.table.attached → IsLike s c
    → IsLike s after
like_same s c after same is low each like = record {
  is = is;
  low = low;
  each = each;
  server = same.server ∙ like.server;
  form = same.form ∙ like.form;
  identity = same.identity ∙ like.identity;
  seed = same.seed ∙ like.seed;
}

own_was : (s : Asking) (c : Client) (p : Request AskedSeen) → Each (Own s) c.requests.table.attached
    → Was c p → Own s p
own_was s c p each was number =
    let before = each was.id was.q was.there (was.number ∙ number) in
    (was.method ∙ before.0, was.body ∙ before.1, was.options ∙ before.2)

-- a call that starts nothing
like_after : (s : Asking) (c after : Client) → IsAfter c after → s.number < after.requests.next
    → IsLike s c → IsLike s after
like_after s c after is low like =
    like_same s c after is.same is.client low
    (λ id p there. own_was s c p like.each (is.each id p there)) like

-- another request is started
like_started : (s : Asking) (c : Client) (method : ℕ) (body : Body) (options : Option Options)
    (now : ℕ) → s.number < (started method body options now c).requests.next
    → refusal_to_start c method body options ≡ None → IsLike s c
    → IsLike s (started method body options now c)
like_started s c method body options now low none like =
    let start = start_is c method body options now none in
    subst (λ (x : Client). IsLike s x) (sym start.made)
    (like_same s c (started_by c start.id_number method body options start.bytes now)
    (record { server = refl; form = refl; identity = refl; seed = refl })
    (subst IsClient start.made (started_is method body options now c like.is))
    (subst (λ (x : Client). s.number < x.requests.next) start.made low)
    (put_each (Own s) c.requests.table.attached like.each (id_of c.seed start.id_number)
    (record { number = c.requests.next; datum = first_asked c method body options now })
    (λ equal. absurd (other equal)))
    like)
  where
    other : c.requests.next ≡ s.number → ⊥
    other equal = let before = like.low in omega (arith, equal, before)

like_call : (s : Asking) (c after : Client) (event : Event) → Call c event after → IsLike s c
    → IsLike s after
like_call s c after event made like = by after event made low
  where
    low : s.number < after.requests.next
    low =
        let before = like.low in
        let up = (call_step c after event like.is made).up in
        omega (arith, before, up)

    by : (after : Client) (event : Event) → Call c event after → s.number < after.requests.next
        → IsLike s after
    by after event (requests _ _ method body options now late none is) low =
        subst (λ (x : Client). IsLike s x) (sym is)
        (like_started s c method body options now
        (subst (λ (x : Client). s.number < x.requests.next) is low) none like)
    by after event (receives _ _ from bytes now answer late heard is) low =
        subst (λ (x : Client). IsLike s x) (sym is)
        (like_after s c answer.1 (heard_after from bytes now c answer like.is heard)
        (subst (λ (x : Client). s.number < x.requests.next) is low) like)
    by after event (polls _ _ now says said) low =
        like_after s c after
        (subst (λ (p : Poll). IsAfter c p.1) said (told_after now c like.is)) low like
    by after event (ends_one _ _ number a some is) low =
        like_after s c after
        (subst (λ (x : Client). IsAfter c x) (sym is) (cancelled_after number a c like.is some))
        low like
    by after event (changes_nothing _) low = like

like_calls : (s : Asking) (c after : Client) (events : List Event) → Calls c events after
    → IsLike s c → IsLike s after
like_calls s c after events (no_call _) like = like
like_calls s c after events (call _ next _ event others made rest) like =
    like_calls s next after others rest (like_call s c next event made like)

-- the request is started
like_new : (c : Client) (method : ℕ) (body : Body) (options : Option Options) (now : ℕ)
    → IsClient c → refusal_to_start c method body options ≡ None
    → IsLike (asking c method body options) (started method body options now c)
like_new c method body options now is none =
    let start = start_is c method body options now none in
    subst (λ (x : Client). IsLike (asking c method body options) x) (sym start.made) (record {
      is = subst IsClient start.made (started_is method body options now c is);
      low = omega arith;
      each = put_each (Own (asking c method body options)) c.requests.table.attached
          (λ id q there. old id q there) (id_of c.seed start.id_number)
          (record { number = c.requests.next; datum = first_asked c method body options now })
          (λ equal. (refl, refl, refl));
      server = refl;
      form = refl;
      identity = refl;
      seed = refl;
    })
  where
    old : (id : ℕ) (q : Request AskedSeen) → datum_at id c.requests.table.attached ≡ Some q
        → Own (asking c method body options) q
    old id q there equal =
        let named : id_at c.requests.next c.requests.numbers ≡ Some id =
        is.requests.one.named id c.requests.next
        (ap (λ (o : Option (Request AskedSeen)). option_map (λ x. x.number) o) there
        ∙ ap Some equal) in
        let gone = is.requests.one.fresh c.requests.next (omega arith) in
        let none : id_at c.requests.next c.requests.numbers ≡ None =
        ap (λ o. option_and_then id_in o) gone in
        cc

-- ---- its bytes

sent_as : (s : Asking) (c : Client) (a : AskedSeen) → s.method < 4096 → IsLike s c
    → datum_of s.number c.requests ≡ Some a → IsSentAs s a c
sent_as s c a low like some =
    let at = there_by_datum c.requests s.number a like.is.requests some in
    by at
    (subst (λ (x : AskedSeen). IsCurrent c at.id x) at.datum
    (like.is.current at.id at.q at.there))
    (let own = like.each at.id at.q at.there at.number in (
      ap (λ (x : AskedSeen). x.method) (sym at.datum) ∙ own.0,
      ap (λ (x : AskedSeen). x.body) (sym at.datum) ∙ own.1,
      ap (λ (x : AskedSeen). x.options) (sym at.datum) ∙ own.2,
    ))
  where
    by : (at : IsThere c.requests s.number a) → IsCurrent c at.id a
        → (a.method ≡ s.method) × (a.body ≡ s.body) × (a.options ≡ s.options) → IsSentAs s a c
    by at current own =
        let derived : at.id ≡ id_of s.seed current.from_seed.id_number =
        current.from_seed.derived
        ∙ ap (λ seed. id_of seed current.from_seed.id_number) like.seed in
        let who : identity_by s.options s.identity ≡ identity_by a.options c.identity =
        ap (λ i. identity_by s.options i) (sym like.identity)
        ∙ ap (λ o. identity_by o c.identity) (sym own.2) in
        let written : request_bytes s.form (identity_by s.options s.identity) a.signed_for s.method
        at.id s.body
        ≡ Ok current.transaction.bytes =
        written_alike s.form c.form (identity_by s.options s.identity)
        (identity_by a.options c.identity) a.signed_for a.signed_for s.method a.method at.id s.body
        a.body (sym like.form) who refl (sym own.0) (sym own.1)
        ∙ current.written in
        record {
          method = own.0;
          body = own.1;
          options = own.2;
          id = at.id;
          id_number = current.from_seed.id_number;
          derived = derived;
          current = at.named;
          bytes = current.transaction.bytes;
          there = bytes_are c s.number at.id current.transaction at.named current.sent;
          written = written;
          kind = request_type s.form (identity_by s.options s.identity) a.signed_for s.method
              current.from_seed.id_number s.seed s.body current.transaction.bytes low
              (subst (λ k. request_bytes s.form (identity_by s.options s.identity) a.signed_for
              s.method k s.body
              ≡ Ok current.transaction.bytes) derived written);
          named = current.named;
          transaction = current.transaction;
          sent = current.sent;
          to = current.to ∙ like.server;
          same = refl;
        }

pub keeps_its_bytes : (c later : Client) (between : List Event) (method : ℕ) (body : Body)
    (options : Option Options) (now : ℕ) (a : AskedSeen) → IsClient c → method < 4096
    → refusal_to_start c method body options ≡ None
    → Calls (started method body options now c) between later
    → datum_of (next_number c) later.requests ≡ Some a
    → IsSentAs (asking c method body options) a later
keeps_its_bytes c later between method body options now a is low none calls some =
    sent_as (asking c method body options) later a low
    (like_calls (asking c method body options) (started method body options now c) later between
    calls (like_new c method body options now is none)) some

pub sends_its_bytes : (c later last : Client) (between : List Event) (method : ℕ) (body : Body)
    (options : Option Options) (start now : ℕ) → IsClient c → method < 4096
    → refusal_to_start c method body options ≡ None
    → Calls (started method body options start c) between later
    → told now later ≡ (transmit (next_number c), last)
    → HasItsBytes (asking c method body options) last
sends_its_bytes c later last between method body options start now is low none calls said =
    let like =
    like_calls (asking c method body options) (started method body options start c) later between
    calls (like_new c method body options start is none) in
    by (like_call (asking c method body options) later last _ (polls later last now _ said) like)
    (transmits now (next_number c) later last like.is said)
  where
    by : IsLike (asking c method body options) last
        → IsSome (id_at (next_number c) last.requests.numbers)
        → HasItsBytes (asking c method body options) last
    by like some =
        let stored = stored_bytes last (next_number c) like.is some in
        record {
          asked = stored.0;
          there = stored.1;
          sent = sent_as (asking c method body options) last stored.0 low like stored.1;
        }

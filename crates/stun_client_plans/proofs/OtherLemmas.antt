-- Calls that are no polls leave a request that keeps its transaction ID as it is.
use Rattle.std.proofs.Common.{◌≡◌, ◌∙◌, ◌⊎◌, ℕ, Bool, true, false, List, Option, Some, None, ap}
use Rattle.std.proofs.Common.{arith, cond, inl, inr, refl, subst, sym}
use Rattle.std.specs.Option.{is_some, option_and_then, option_map, option_map_or}
use Rattle.std.specs.Prelude.{◌==◌}
use Rattle.stun_base.specs.declared.wire.transport.TransportType.{TransportType}
use Rattle.stun_agent.specs.Tables.{after_answer, after_cancel, after_sending, datum_at, request_in}
use Rattle.stun_agent.specs.Tables.{set_datum, with_other_datum}
use Rattle.stun_agent.specs.Timing.{Settings}
use Rattle.stun_agent.specs.Transactions.{Transaction, at as transaction_at}
use Rattle.stun_agent.proofs.Ascending.{IsAscending-insert, lookup-insert_same}
use Rattle.stun_client.specs.Ids.{id_of}
use Rattle.stun_client_endpoint.specs.Bodies.{Body}
use Rattle.stun_client_endpoint.specs.declared.ended.RequestEnd.TheVariants as how
use Rattle.stun_client_requests.specs.Numbers.{NumbersSeen, after_end, after_mark, after_rename}
use Rattle.stun_client_requests.specs.Numbers.{id_at, id_in, known_at}
use Rattle.stun_client_requests.specs.Requests.{Answering, after_again, after_answering}
use Rattle.stun_client_requests.specs.Requests.{after_canceling, after_replacing, after_start}
use Rattle.stun_client_requests.specs.Requests.{datum_of, LAST_NUMBER, number_at, start_refusal}
use Rattle.stun_client_requests.specs.declared.numbers.Known.TheVariants.{Ended, Outstanding}
use Rattle.stun_client_requests.specs.declared.requests.Request.{Request}
use Rattle.stun_client_requests.specs.declared.requests.StartRefusal.TheVariants.{IdTaken, NoNumber}
use Rattle.stun_client_requests.proofs.NumberLemmas.{own_key}
use Rattle.stun_client_requests.proofs.RequestLemmas.{at_remove, attached_answer}
use Rattle.stun_client_requests.proofs.TimelyLemmas.{set_none}
use Rattle.stun_client_calls.specs.Clients.{Client, first_asked, refusal_to_start, started}
use Rattle.stun_client_calls.specs.Endpoints.{EndSeen, bare_end}
use Rattle.stun_client_calls.specs.Messages.{AskedSeen}
use Rattle.stun_client_calls.specs.Options.{Options, plan_by}
use Rattle.stun_client_calls.specs.Runs.{Call, Event, changes_nothing, ends_one, polls, receives}
use Rattle.stun_client_calls.specs.Runs.{requests}
use Rattle.stun_client_plans.specs.Plan.{is_poll}
use Rattle.stun_client_plans.proofs.CallLemmas.{receives_so, same_or_not, started_is}
use Rattle.stun_client_plans.proofs.HoldLemmas.{All, Holds, IsOne, Table, again_holds}
use Rattle.stun_client_plans.proofs.HoldLemmas.{answering_holds, canceling_holds, held_over}
use Rattle.stun_client_plans.proofs.HoldLemmas.{ids_apart, own_holds, replacing_holds}
use Rattle.stun_client_plans.proofs.HoldLemmas.{setting_leaves, some_is, starting_holds}

-- an outstanding request of which something is stored has a transaction ID
pub stored_id : (m : ℕ) (a : AskedSeen) (r : All) → datum_of m r ≡ Some a
    → (id : ℕ) × (id_at m r.numbers ≡ Some id)
stored_id m a r there = by (id_at m r.numbers) refl there
  where
    by : (o : Option ℕ) → id_at m r.numbers ≡ o
        → option_map (λ (q : Request AskedSeen). q.datum)
        (option_and_then (λ id. datum_at id r.table.attached) o) ≡ Some a
        → (id : ℕ) × (id_at m r.numbers ≡ Some id)
    by None is some = cc
    by (Some id) is some = (id, is)

-- the ID of a request that has ended
ended_id : (n : ℕ) (end : EndSeen) (s : NumbersSeen EndSeen) → id_at n (after_end n end s) ≡ None
ended_id n end s = ap (λ o. option_and_then id_in o) (lookup-insert_same n (Ended end) s.known)

-- the ID of a request that is sent by another message
renamed_id : (n id : ℕ) (s : NumbersSeen EndSeen)
    → id_at n (after_rename n id (after_mark n s)) ≡ Some id
renamed_id n id s = ap (λ o. option_and_then id_in o)
    (lookup-insert_same n (Outstanding id) s.known)

-- the request is as it was, but for what was dropped and refused
pub record Rests (transport : TransportType) (n id : ℕ) (t : Transaction) (u : Bool) (until : ℕ)
    (r : All)
    : Type 0 where
  pub asked : AskedSeen
  pub holds : Holds transport n id (record { number = n; datum = asked }) t u r
  pub until_is : asked.until ≡ until

module _ (transport : TransportType) (n id : ℕ) (a : AskedSeen) (t : Transaction) (u : Bool)
    (c : Client)
    (one : IsOne c.requests)
    (h : Holds transport n id (record { number = n; datum = a }) t u c.requests) where
  abbrev q : Request AskedSeen
  q = record { number = n; datum = a }

  -- it rests if the requests are in order and it still has its transaction ID
  abbrev IfIts : All → Type 0
  IfIts r = IsOne r → id_at n r.numbers ≡ Some id → Rests transport n id t u a.until r

  as_it_was : (r : All) → Holds transport n id q t u r → IfIts r
  as_it_was r holds = λ then its. record { asked = a; holds = holds; until_is = refl }

  own_datum : datum_of n c.requests ≡ Some a
  own_datum =
      ap (λ o. option_map (λ (x : Request AskedSeen). x.datum)
      (option_and_then (λ k. datum_at k c.requests.table.attached) o)) h.named
      ∙ ap (λ o. option_map (λ (x : Request AskedSeen). x.datum) o) h.there

  -- ---- changes

  noted : (m : ℕ) (x b : AskedSeen) → datum_of m c.requests ≡ Some x → b.until ≡ x.until
      → IfIts (after_replacing m b c.requests)
  noted m x b there until = by (same_or_not n m)
    where
      by : (m ≡ n) ⊎ (m ≡ n → ⊥) → IfIts (after_replacing m b c.requests)
      by (inl same) = λ then its. record {
        asked = b;
        holds = subst (λ k. Holds transport n id (record { number = n; datum = b }) t u
            (after_replacing k b c.requests)) (sym same)
            (own_holds transport n id q t u c.requests one h b);
        until_is = until ∙ ap (λ (y : AskedSeen). y.until)
            (some_is x a (sym (subst (λ k. datum_of k c.requests ≡ Some x) same there)
            ∙ own_datum));
      }
      by (inr differ) =
          as_it_was (after_replacing m b c.requests)
          (replacing_holds transport n id q t u c.requests one h m b differ)

  lost : (r : All) → id_at n r.numbers ≡ None → IfIts r
  lost r none = λ then its. let no : None ≡ Some id = sym none ∙ its in cc

  ended : (m count : ℕ) (x : AskedSeen) (moment : Option ℕ) (end : EndSeen)
      → datum_of m c.requests ≡ Some x → IfIts (after_answering m count moment end c.requests)
  ended m count x moment end there = by (same_or_not n m)
    where
      by : (m ≡ n) ⊎ (m ≡ n → ⊥) → IfIts (after_answering m count moment end c.requests)
      by (inl same) =
          lost (after_answering m count moment end c.requests)
          (subst (λ k. id_at n (after_answering k count moment end c.requests).numbers ≡ None)
          (sym same)
          (subst (λ o. id_at n (option_map_or (λ k. record c.requests {
            table = after_answer k count moment c.requests.table;
            numbers = after_end n end c.requests.numbers;
          }) o c.requests).numbers ≡ None) (sym h.named) (ended_id n end c.requests.numbers)))
      by (inr differ) =
          as_it_was (after_answering m count moment end c.requests)
          (answering_holds transport n id q t u c.requests one h m count moment end differ)

  canceled : (m : ℕ) (end : EndSeen) → IfIts (after_canceling m end c.requests)
  canceled m end = by (same_or_not n m)
    where
      by : (m ≡ n) ⊎ (m ≡ n → ⊥) → IfIts (after_canceling m end c.requests)
      by (inl same) =
          lost (after_canceling m end c.requests)
          (subst (λ k. id_at n (after_canceling k end c.requests).numbers ≡ None) (sym same)
          (subst (λ o. id_at n (option_map_or (λ k. record c.requests {
            table = after_cancel k c.requests.table;
            numbers = after_end n end c.requests.numbers;
          }) o c.requests).numbers ≡ None) (sym h.named) (ended_id n end c.requests.numbers)))
      by (inr differ) =
          as_it_was (after_canceling m end c.requests)
          (canceling_holds transport n id q t u c.requests one h m end differ)

  -- ---- another message

  module _ (new now : ℕ) (b empty : AskedSeen) (x : Answering) (bytes : List ℕ) (plan : Settings)
    where
      -- the requests once it is sent by another message, if it has the ID that the former one had
      abbrev again_by : ℕ → ℕ → All
      again_by m former = record c.requests {
        table = after_answer former x.count x.moment
            (after_sending new bytes plan (record { number = m; datum = empty })
            now c.requests.table);
        numbers = after_rename m new (after_mark m c.requests.numbers);
      }

      abbrev stored_by : ℕ → ℕ → All
      stored_by m former = record (again_by m former) {
        table = with_other_datum new (record { number = m; datum = b }) (again_by m former).table;
      }

      again_is : (m former : ℕ) → id_at m c.requests.numbers ≡ Some former
          → after_replacing m b (after_again m x new bytes plan empty now c.requests)
          ≡ stored_by m former
      again_is m former named =
          ap (λ o. after_replacing m b (option_map_or (again_by m) o c.requests)) named
          ∙ ap (λ o. option_map_or (λ k. record (again_by m former) {
            table = with_other_datum k (record { number = m; datum = b }) (again_by m former).table;
          }) o (again_by m former)) (renamed_id m new c.requests.numbers)

      -- no message takes the place of itself
      itself_lost : new ≡ id → number_at id (stored_by n id).table.attached ≡ None
      itself_lost same =
          ap (λ (o : Option (Request AskedSeen)). option_map (λ y. y.number) o)
          (subst (λ k. datum_at id (set_datum k (record { number = n; datum = b })
          (after_answer id x.count x.moment (sent_by k)).attached) ≡ None) (sym same)
          (set_none id (record { number = n; datum = b })
          (after_answer id x.count x.moment (sent_by id)).attached
          (ap (λ es. datum_at id es)
          (attached_answer (sent_by id) id x.count x.moment bytes
          (sym (ap (λ (o : Option Transaction). option_map (λ y. y.bytes) o)
          (lookup-insert_same id (request_in c.requests.table bytes plan now)
          c.requests.table.requests))))
          ∙ at_remove id (sent_by id).attached
          (IsAscending-insert c.requests.table.attached id (record { number = n; datum = empty })
          one.in_order) id
          ∙ ap (λ b. cond b None (datum_at id (sent_by id).attached)) (own_key id))))
        where
          sent_by : ℕ → Table
          sent_by k =
              after_sending k bytes plan (record { number = n; datum = empty }) now c.requests.table

      own_again : IfIts (after_replacing n b (after_again n x new bytes plan empty now c.requests))
      own_again = λ then its.
          let after = again_is n id h.named in
          let now_its : id_at n (stored_by n id).numbers ≡ Some id =
          subst (λ (r : All). id_at n r.numbers ≡ Some id) after its in
          let same : new ≡ id = some_is new id (sym (renamed_id n new c.requests.numbers) ∙ now_its)
          in
          let there : number_at id (stored_by n id).table.attached ≡ Some n =
          (subst (λ (r : All). IsOne r) after then).timed n id now_its in
          let none = itself_lost same in
          let no : None ≡ Some n = sym none ∙ there in
          cc

      other_again : (m former : ℕ) → (m ≡ n → ⊥) → id_at m c.requests.numbers ≡ Some former
          → IfIts (after_replacing m b (after_again m x new bytes plan empty now c.requests))
      other_again m former differ named = λ then its.
          let after = again_is m former named in
          let now_its : id_at n (stored_by m former).numbers ≡ Some id =
          subst (λ (r : All). id_at n r.numbers ≡ Some id) after its in
          let apart_ids : new ≡ id → ⊥ =
          ids_apart n m id new (stored_by m former) (subst (λ (r : All). IsOne r) after then)
          now_its
          (renamed_id m new c.requests.numbers) differ in
          let again : Holds transport n id q t u (again_by m former) =
          subst (λ o. Holds transport n id q t u (option_map_or (again_by m) o c.requests)) named
          (again_holds transport n id q t u c.requests one h m new x bytes plan empty now apart_ids
          differ) in
          record {
            asked = a;
            holds = subst (λ (r : All). Holds transport n id q t u r) (sym after)
                (held_over transport n id q t u (again_by m former) (stored_by m former) again
                (setting_leaves id new (record { number = m; datum = b }) (again_by m former).table
                apart_ids)
                (record { known = refl; unsent = refl }));
            until_is = refl;
          }

  sent_again : (m new now : ℕ) (y b empty : AskedSeen) (x : Answering) (bytes : List ℕ)
      → (plan : Settings) → datum_of m c.requests ≡ Some y
      → IfIts (after_replacing m b (after_again m x new bytes plan empty now c.requests))
  sent_again m new now y b empty x bytes plan there = by (same_or_not n m)
    where
      by : (m ≡ n) ⊎ (m ≡ n → ⊥)
          → IfIts (after_replacing m b (after_again m x new bytes plan empty now c.requests))
      by (inl same) =
          subst (λ k. IfIts (after_replacing k b (after_again k x new bytes plan empty now
          c.requests)))
          (sym same) (own_again new now b empty x bytes plan)
      by (inr differ) =
          let named = stored_id m y c.requests there in
          other_again new now b empty x bytes plan m named.0 differ named.1

  -- ---- calls

  started_rests : (method : ℕ) (body : Body) (options : Option Options) (now : ℕ)
      → refusal_to_start c method body options ≡ None
      → IfIts (started method body options now c).requests
  started_rests method body options now none =
      let it = started_is c method body options none in
      subst (λ (x : Client). IfIts x.requests) (sym (it.is_so now))
      (as_it_was (after_start (id_of c.seed it.number) it.bytes (plan_by options c.plan)
      (first_asked c method body options now) now c.requests)
      (starting_holds transport n id q t u c.requests one h (id_of c.seed it.number) it.bytes
      (plan_by options c.plan) (first_asked c method body options now) now
      (taken (id_of c.seed it.number) (unrefused (id_of c.seed it.number) it.free)) next_apart))
    where
      unrefused : (new : ℕ) → start_refusal c.requests new ≡ None
          → is_some (transaction_at new c.requests.table.requests) ≡ false
      unrefused new free = by (is_some (transaction_at new c.requests.table.requests)) free
        where
          by : (b : Bool) → cond b (Some IdTaken)
              (cond (c.requests.next == LAST_NUMBER) (Some NoNumber) None) ≡ None → b ≡ false
          by true is = cc
          by false is = refl

      taken : (new : ℕ) → is_some (transaction_at new c.requests.table.requests) ≡ false
          → new ≡ id → ⊥
      taken new free same =
          let on : is_some (transaction_at new c.requests.table.requests) ≡ true =
          subst (λ k. is_some (transaction_at k c.requests.table.requests) ≡ true) (sym same)
          (ap is_some h.timed) in
          cc

      next_apart : c.requests.next ≡ n → ⊥
      next_apart same =
          let gone : known_at n c.requests.numbers.known ≡ None =
          subst (λ k. known_at k c.requests.numbers.known ≡ None) same
          (one.fresh c.requests.next (omega arith)) in
          let none : id_at n c.requests.numbers ≡ None = ap (λ o. option_and_then id_in o) gone in
          let no : None ≡ Some id = sym none ∙ h.named in
          cc

  pub call_rests : (after : Client) (event : Event) → is_poll event ≡ false → Call c event after
      → IfIts after.requests
  call_rests after event no_poll (requests _ _ method body options now low none so) =
      subst (λ (x : Client). IfIts x.requests) (sym so) (started_rests method body options now none)
  call_rests after event no_poll (receives _ _ from bytes now given low made so) =
      subst (λ (x : Client). IfIts x.requests) (sym so)
      (receives_so c IfIts (as_it_was c.requests h)
      noted ended sent_again from bytes now given made)
  call_rests after event no_poll (polls _ _ now says said) = cc
  call_rests after event no_poll (ends_one _ _ number x there so) =
      subst (λ (y : Client). IfIts y.requests) (sym so)
      (canceled number (bare_end how.Cancelled))
  call_rests after event no_poll (changes_nothing _) = as_it_was c.requests h

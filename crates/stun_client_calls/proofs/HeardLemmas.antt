-- What holds of a client once it has received a datagram, from what holds after each of its steps.
use Rattle.std.proofs.Common.{◌≡◌, ◌≤◌, ◌+◌, ◌||◌, ℕ, zero, suc, Bool, true, false, List, [], ap}
use Rattle.std.proofs.Common.{Option}
use Rattle.std.proofs.Common.{Some, None, Ok, Err, cond, length, refl, subst, sym}
use Rattle.std.specs.Prelude.{⊤, find}
use Rattle.std.specs.Option.{is_some, option_map}
use Rattle.std.specs.declared.net.socket_addr.SocketAddr.{SocketAddr}
use Rattle.stun_base.specs.Header.{transaction_id_field}
use Rattle.stun_base.specs.MessageType.{class_in}
use Rattle.stun_base.specs.declared.wire.message_type.MessageClass.{MessageClass}
use Rattle.stun_base.specs.declared.wire.message_type.MessageClass.TheVariants as Classes
use Rattle.stun_types.specs.Message.{refusal}
use Rattle.stun_extra.specs.CanonicalAddress.{is_same_address}
use Rattle.stun_client.specs.Challenges.{Answered}
use Rattle.stun_client.specs.Challenging.{code_in}
use Rattle.stun_client.specs.Ids.{id_of}
use Rattle.stun_client.specs.Judging.{Verdict, judged}
use Rattle.stun_client.specs.Standing.{StandingSeen}
use Rattle.stun_client_endpoint.specs.Written.{Page?}
use Rattle.stun_client_endpoint.specs.declared.ended.DropReason.TheVariants as Reasons
use Rattle.stun_client_endpoint.specs.declared.told.Received.TheVariants.{Indication, NotOurs}
use Rattle.stun_client_requests.specs.Requests.{Answering, datum_of, number_at}
use Rattle.stun_client_calls.specs.Clients.{Client, changed_at, chosen, identity_for}
use Rattle.stun_client_calls.specs.Clients.{with_requests}
use Rattle.stun_client_calls.specs.Deciding.{DecisionSeen, Place, answered, drops, refuses, turns}
use Rattle.stun_client_calls.specs.Deciding.{challenged_out}
use Rattle.stun_client_calls.specs.Endpoints.{EndSeen}
use Rattle.stun_client_calls.specs.Laws.{IsAnswerOrDrop, Judge, decision_on}
use Rattle.stun_client_calls.specs.Ids.{first_free, is_taken, number_in}
use Rattle.stun_client_calls.specs.Messages.{AskedSeen, SentSeen, counted_on, new_asked, rank_after}
use Rattle.stun_client_calls.specs.Messages.{turned}
use Rattle.stun_client_calls.specs.Receiving.{Answer, Memory, Met, Spot, UnlessMemory, heard_in}
use Rattle.stun_client_calls.specs.Receiving.{as_expected, by_class, by_decision, by_met}
use Rattle.stun_client_calls.specs.Receiving.{decision_for, ended_by, forgone, indicated, judge_for}
use Rattle.stun_client_calls.specs.Receiving.{met, received}
use Rattle.stun_client_calls.specs.Receiving.{spot_of, turn_to, turned_at, turned_by, turned_to}
use Rattle.stun_client_calls.specs.Receiving.{without_memory}
use Rattle.stun_client_calls.specs.Writing.{message_bytes}
use Rattle.stun_client_calls.specs.declared.asked.Change.{Change}
use Rattle.stun_client_calls.specs.declared.asked.Change.TheVariants.{Noted, Refused, SentOut}
use Rattle.stun_client_calls.specs.declared.turning.Why.{Why}
use Rattle.stun_client_calls.proofs.DecidingLemmas.{earlier_answers_or_drops, within}
use Rattle.stun_client_calls.proofs.PlaceLemmas.{IsFound, IsPlace, IsPlaced, found_there}
use Rattle.stun_client_calls.proofs.ReceivingLemmas.{heard_is, if_method_is, met_is_stored}
use Rattle.stun_client_calls.proofs.TurnLemmas.{some_is}

-- ---- the transaction ID of another message

first_free_is : (taken : ℕ → Bool) (number many found : ℕ)
    → first_free taken number many ≡ Some found → taken found ≡ false
first_free_is taken number zero found is = cc
first_free_is taken number (suc many) found is =
    by (taken number) refl is (first_free_is taken (number + 1) many found)
  where
    by : (b : Bool) → taken number ≡ b
        → cond b (first_free taken (number + 1) many) (Some number) ≡ Some found
        → (first_free taken (number + 1) many ≡ Some found → taken found ≡ false)
        → taken found ≡ false
    by true here is rest = rest is
    by false here is rest = subst (λ k. taken k ≡ false) (some_is number found is) here

-- the ID of a new message is that of no current message
pub chosen_is_free : (c : Client) (number : ℕ) → chosen c ≡ Some number
    → number_at (id_of c.seed number) c.requests.table.attached ≡ None
chosen_is_free c number some =
    not_some (number_at (id_of c.seed number) c.requests.table.attached)
    (first (is_some (number_at (id_of c.seed number) c.requests.table.attached))
    (is_some (number_in (id_of c.seed number) c.earlier))
    (first_free_is (is_taken c.seed c.requests.table.attached c.earlier) c.next_id _ number some))
  where
    first : (a b : Bool) → (a || b) ≡ false → a ≡ false
    first true b is = cc
    first false b is = refl

    not_some : (o : Option ℕ) → is_some o ≡ false → o ≡ None
    not_some None is = refl
    not_some (Some k) is = cc

-- nor is that of an earlier message that becomes the current one
pub spot_is_free : (c : Client) (a : AskedSeen) (place : Option Place) (s : Spot)
    → spot_of c a place ≡ Some s → number_at s.id c.requests.table.attached ≡ None
spot_is_free c a (Some p) s is = by (number_at p.1 c.requests.table.attached) refl is
  where
    by : (o : Option ℕ) → number_at p.1 c.requests.table.attached ≡ o
        → cond (is_some o) None (Some (record { id = p.1; rank = p.0; next_id = c.next_id }))
        ≡ Some s
        → number_at s.id c.requests.table.attached ≡ None
    by None free is =
        subst (λ (y : Spot). number_at y.id c.requests.table.attached ≡ None)
        (some_is (record { id = p.1; rank = p.0; next_id = c.next_id }) s is) free
    by (Some k) free is = cc
spot_is_free c a None s is = by (chosen c) refl is
  where
    by : (o : Option ℕ) → chosen c ≡ o
        → option_map (λ number. record {
          id = id_of c.seed number;
          rank = rank_after (counted_on a.turns);
          next_id = number + 1;
        }) o ≡ Some s
        → number_at s.id c.requests.table.attached ≡ None
    by None some is = cc
    by (Some number) some is =
        subst (λ (y : Spot). number_at y.id c.requests.table.attached ≡ None)
        (some_is (record {
          id = id_of c.seed number;
          rank = rank_after (counted_on a.turns);
          next_id = number + 1;
        }) s is) (chosen_is_free c number some)

-- another message is a new one, or an earlier one
pub data IsOrigin (c : Client) (a : AskedSeen) (s : Spot) : Type 0 where
  new_one : (number : ℕ) → chosen c ≡ Some number → s.id ≡ id_of c.seed number
      → s.next_id ≡ number + 1 → IsOrigin c a s
  earlier_one : (e : ℕ × SentSeen) (f : ℕ × SentSeen → Bool) → find f a.earlier ≡ Some e
      → s.rank ≡ e.0 → s.id ≡ e.1.id → s.next_id ≡ c.next_id → IsOrigin c a s

spot_origin : (c : Client) (a : AskedSeen) (place : Option Place) (s : Spot)
    → IsPlace (IsFound a) place → spot_of c a place ≡ Some s → IsOrigin c a s
spot_origin c a (Some p) s there is = by (number_at p.1 c.requests.table.attached) is
  where
    by : (o : Option ℕ)
        → cond (is_some o) None (Some (record { id = p.1; rank = p.0; next_id = c.next_id }))
        ≡ Some s
        → IsOrigin c a s
    by None is =
        subst (λ (y : Spot). IsOrigin c a y)
        (some_is (record { id = p.1; rank = p.0; next_id = c.next_id }) s is)
        (earlier_one there.0 there.1 there.2 (ap (λ (x : Place). x.0) (sym there.3))
        (ap (λ (x : Place). x.1) (sym there.3)) refl)
    by (Some k) is = cc
spot_origin c a None s there is = by (chosen c) refl is
  where
    by : (o : Option ℕ) → chosen c ≡ o
        → option_map (λ number. record {
          id = id_of c.seed number;
          rank = rank_after (counted_on a.turns);
          next_id = number + 1;
        }) o ≡ Some s
        → IsOrigin c a s
    by None some is = cc
    by (Some number) some is =
        subst (λ (y : Spot). IsOrigin c a y)
        (some_is (record {
          id = id_of c.seed number;
          rank = rank_after (counted_on a.turns);
          next_id = number + 1;
        }) s is) (new_one number some refl refl)

-- ---- what is stored of a request then

abbrev pub answering_of : ℕ → List ℕ → Answering
answering_of now bytes = record { count = length bytes; moment = Some now }

-- nothing is stored of it for a moment
abbrev pub nothing_of : Met → AskedSeen
nothing_of m = new_asked m.asked.method [] None 0 None

abbrev pub turned_of : Memory → List ℕ → Met → Why → Option Answered → Spot → AskedSeen
turned_of memory bytes m why d s =
    turned memory.is_kept (transaction_id_field bytes) (turn_to s why d) m.asked

-- ---- all of it

abbrev not_ours : Client → Answer
not_ours c = (NotOurs, c)

abbrev indication_of : List ℕ → Client → Answer
indication_of bytes c = (Indication bytes, c)

-- another message becomes the current one only in place of the current one, by a response to that,
-- within the first plan of the request. Its ID is that of no current message, and it is a new one or an
-- earlier one
pub record IsTurn (c : Client) (now : ℕ) (bytes : List ℕ) (m : Met) (s : Spot) : Type 0 where
  pub there : datum_of m.number c.requests ≡ Some m.asked
  pub met_so : met (transaction_id_field bytes) c ≡ Some m
  pub is_current : m.is_current ≡ true
  pub in_time : now ≤ m.asked.until
  pub free : number_at s.id c.requests.table.attached ≡ None
  pub origin : IsOrigin c m.asked s

-- a message other than the current one is never left for another one
on_current : (j : Judge) (b : Bool) (now : ℕ) (a : AskedSeen) (before : Option Answered)
    (bytes : List ℕ) (why : Why) (place : Option Place) (e : Option Answered)
    → decision_on j b now a before bytes ≡ turns why place e → b ≡ true
on_current j true now a before bytes why place e is = refl
on_current j false now a before bytes why place e is =
    absurd (subst IsAnswerOrDrop is (earlier_answers_or_drops j now a before bytes))

-- a response is dropped
abbrev pub IsDrop : Change → Type 0
IsDrop (SentOut now) = ⊥
IsDrop (Noted why code) = ⊤
IsDrop (Refused code) = ⊤

module _ (P : Client → Type 0) (c : Client) (now : ℕ) (bytes : List ℕ) (same : P c)
    (changed : (change : Change) (n : ℕ) → IsDrop change
    → P (with_requests (changed_at change n c.requests) c))
    (ended : (end : EndSeen) (m : Met) (standing : StandingSeen)
    → P (ended_by end bytes now m (record c { standing = standing })))
    (turned : (memory : Memory) (m : Met) (why : Why) (d : Option Answered) (s : Spot)
    (page : List ℕ) → IsTurn c now bytes m s → P (turned_to memory c now bytes m why d s page).1) where
  -- what allows another message to become the current one
  record MayTurn (m : Met) (place : Option Place) : Type 0 where
    in_time : now ≤ m.asked.until
    is_current : m.is_current ≡ true
    found : IsPlace (IsFound m.asked) place

  by_spot : (memory : Memory) (m : Met) (why : Why) (d : Option Answered) (place : Option Place)
      → datum_of m.number c.requests ≡ Some m.asked → met (transaction_id_field bytes) c ≡ Some m
      → MayTurn m place → (o : Option Spot) → spot_of c m.asked place ≡ o
      → P (turned_at memory c now bytes m why d o).1
  by_spot memory m why d place there met_so may None stands =
      changed (Noted Reasons.OutOfMemory (code_in bytes)) m.number tt
  by_spot memory m why d place there met_so may (Some s) stands =
      by (message_bytes c.form c.identity d s.id m.asked)
    where
      by : (page : Page?) → P (turned_by memory c now bytes m why d s page).1
      by (Err error) = changed (Noted _ (code_in bytes)) m.number tt
      by (Ok page) =
          turned memory m why d s page (record {
            there = there;
            met_so = met_so;
            is_current = may.is_current;
            in_time = may.in_time;
            free = spot_is_free c m.asked place s stands;
            origin = spot_origin c m.asked place s may.found stands;
          })

  by_its_decision : (memory : Memory) (m : Met) → datum_of m.number c.requests ≡ Some m.asked
      → met (transaction_id_field bytes) c ≡ Some m → (d : DecisionSeen)
      → ((why : Why) (place : Option Place) (e : Option Answered) → d ≡ turns why place e
      → MayTurn m place)
      → P (by_decision memory c now bytes m d).1
  by_its_decision memory m there met_so (answered by) may = ended _ m _
  by_its_decision memory m there met_so challenged_out may = ended _ m c.standing
  by_its_decision memory m there met_so (turns why place e) may =
      by_spot memory m why e place there met_so (may why place e refl) (spot_of c m.asked place) refl
  by_its_decision memory m there met_so refuses may = changed (Refused (code_in bytes)) m.number tt
  by_its_decision memory m there met_so (drops why) may =
      changed (Noted why (code_in bytes)) m.number tt

  by_heard : (memory : Memory) (from : SocketAddr) (o : Option Met) → heard_in from bytes c ≡ o
      → P (by_met memory c now bytes o).1
  by_heard memory from None found = same
  by_heard memory from (Some m) found =
      by_its_decision memory m
      (met_is_stored bytes c m m.number (heard_is from bytes c m found) refl)
      (if_method_is bytes (met (transaction_id_field bytes) c) m (heard_is from bytes c m found))
      (decision_for c now bytes m)
      (λ why place e is. record {
        in_time =
            (within (judge_for c m.asked).limits c.standing now m.asked (verdict m) why place e
            is).in_time;
        is_current =
            on_current (judge_for c m.asked) m.is_current now m.asked m.signed_for bytes why place e
            is;
        found = subst (IsPlaced (IsFound m.asked)) is
            (found_there (judge_for c m.asked).limits c.standing now m.asked (verdict m));
      })
    where
      verdict : (m : Met) → Verdict
      verdict m =
          judged c.requires_fingerprint m.is_current (identity_for c m.asked) c.standing m.signed_for
          bytes

  by_indicated : (from : SocketAddr) → P (indicated from bytes c).1
  by_indicated from = by (is_same_address from c.server)
    where
      by : (b : Bool) → P (cond b (indication_of bytes c) (not_ours c)).1
      by true = same
      by false = same

  by_its_class : (memory : Memory) (from : SocketAddr) (class : MessageClass)
      → P (by_class memory from c now bytes class).1
  by_its_class memory from Classes.Request = same
  by_its_class memory from Classes.Indication = by_indicated from
  by_its_class memory from Classes.Success = by_heard memory from (heard_in from bytes c) refl
  by_its_class memory from Classes.Error = by_heard memory from (heard_in from bytes c) refl

  by_received : (memory : Memory) (from : SocketAddr) → P (received memory from bytes now c).1
  by_received memory from = by (is_some (refusal bytes))
    where
      by : (is_refused : Bool) → P (cond is_refused (not_ours c)
          (by_class memory from c now bytes (class_in bytes))).1
      by true = same
      by false = by_its_class memory from (class_in bytes)

  forgotten : (o : Option Met) → P (without_memory bytes c o).1
  forgotten None = same
  forgotten (Some m) = changed (Noted Reasons.OutOfMemory (code_in bytes)) m.number tt

  pub heard : (from : SocketAddr) (answer : Answer)
      → UnlessMemory (λ memory. received memory from bytes now c) bytes (heard_in from bytes c) c answer
      → P answer.1
  heard from answer (as_expected memory is) =
      subst (λ (x : Answer). P x.1) (sym is) (by_received memory from)
  heard from answer (forgone is) =
      subst (λ (x : Answer). P x.1) (sym is) (forgotten (heard_in from bytes c))

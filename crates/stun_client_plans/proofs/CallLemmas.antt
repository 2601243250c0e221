-- What calls make of the requests of a client, in few changes.
use Rattle.std.proofs.Common.{◌≡◌, ◌∙◌, ◌⊎◌, [], ℕ, Bool, true, false, List, Option, Some, None, Ok}
use Rattle.std.proofs.Common.{Err, ap, cond, inl, inr, length, refl, subst, sym}
use Rattle.std.specs.BTreeMap.{is_at}
use Rattle.std.specs.Option.{is_some, option_map, option_map_or}
use Rattle.std.specs.Ordering.{nat_cmp}
use Rattle.std.specs.declared.net.socket_addr.SocketAddr.{SocketAddr}
use Rattle.stun_base.specs.Header.{transaction_id_field}
use Rattle.stun_base.specs.MessageType.{class_in}
use Rattle.stun_base.specs.declared.wire.message_type.MessageClass.{MessageClass}
use Rattle.stun_base.specs.declared.wire.message_type.MessageClass.TheVariants as Classes
use Rattle.stun_types.specs.Message.{refusal}
use Rattle.stun_extra.specs.CanonicalAddress.{is_same_address}
use Rattle.stun_agent.specs.Timing.{Settings}
use Rattle.stun_client.specs.Challenges.{Answered}
use Rattle.stun_client.specs.Challenging.{code_in}
use Rattle.stun_client.specs.Ids.{id_of}
use Rattle.stun_client.specs.Outcomes.{outcome_of}
use Rattle.stun_client_endpoint.specs.Bodies.{Body}
use Rattle.stun_client_endpoint.specs.Written.{Page?}
use Rattle.stun_client_endpoint.specs.declared.ended.DropReason.TheVariants as Reasons
use Rattle.stun_client_endpoint.specs.declared.ended.RequestEnd.TheVariants as how
use Rattle.stun_client_endpoint.specs.declared.told.Received.TheVariants.{Indication, NotOurs}
use Rattle.stun_client_requests.specs.Requests.{Answering, after_again, after_answering}
use Rattle.stun_client_requests.specs.Requests.{after_replacing, datum_of, start_refusal}
use Rattle.stun_client_requests.specs.declared.requests.StartRefusal.{StartRefusal}
use Rattle.stun_client_calls.specs.Clients.{Client, changed, changed_at, chosen, error_of}
use Rattle.stun_client_calls.specs.Clients.{first_message, plan_for, refusal_of_number}
use Rattle.stun_client_calls.specs.Clients.{refusal_of_page}
use Rattle.stun_client_calls.specs.Clients.{refusal_to_start, started, started_at, started_by}
use Rattle.stun_client_calls.specs.Clients.{started_with}
use Rattle.stun_client_calls.specs.Deciding.{DecisionSeen, answered, drops, refuses, turns}
use Rattle.stun_client_calls.specs.Deciding.{challenged_out}
use Rattle.stun_client_calls.specs.Endpoints.{EndSeen, bare_end}
use Rattle.stun_client_calls.specs.Laws.{IsNoEnd}
use Rattle.stun_client_calls.specs.Messages.{AskedSeen, new_asked, turned}
use Rattle.stun_client_calls.specs.Options.{Options}
use Rattle.stun_client_calls.specs.Receiving.{end_after}
use Rattle.stun_client_calls.specs.Receiving.{Answer, Memory, Met, Spot, UnlessMemory}
use Rattle.stun_client_calls.specs.Receiving.{as_expected, by_class, by_decision, by_met}
use Rattle.stun_client_calls.specs.Receiving.{decision_for, forgone, heard_in, moment_of}
use Rattle.stun_client_calls.specs.Receiving.{received, round_trip_of, spot_of}
use Rattle.stun_client_calls.specs.Receiving.{turn_to, turned_at, turned_by, unwritten}
use Rattle.stun_client_calls.specs.Receiving.{without_memory}
use Rattle.stun_client_calls.specs.Writing.{message_bytes}
use Rattle.stun_client_calls.specs.declared.asked.Change.{Change}
use Rattle.stun_client_calls.specs.declared.asked.Change.TheVariants.{Noted, Refused, SentOut}
use Rattle.stun_client_calls.specs.declared.turning.Why.{Why}
use Rattle.stun_client_calls.proofs.ReceivingLemmas.{heard_is, met_is_stored}
use Rattle.stun_client_requests.proofs.NumberLemmas.{same_key}
use Rattle.stun_client_plans.proofs.HoldLemmas.{All}
use Rattle.stun_client_plans.proofs.PolledLemmas.{not_same}

-- two numbers are the same, or not
pub same_or_not : (n m : ℕ) → (m ≡ n) ⊎ (m ≡ n → ⊥)
same_or_not n m = by (is_at (nat_cmp n) m) refl
  where
    by : (b : Bool) → is_at (nat_cmp n) m ≡ b → (m ≡ n) ⊎ (m ≡ n → ⊥)
    by true is = inl (same_key n m is)
    by false is = inr (not_same n m is)

-- a change of what is stored keeps the end of the first plan
pub until_stays : (change : Change) (a : AskedSeen) → (changed change a).until ≡ a.until
until_stays (SentOut now) a = refl
until_stays (Noted why code) a = refl
until_stays (Refused code) a = refl

-- ---- datagrams

-- what holds of the requests after each change that a datagram makes of an outstanding one which it
-- does not end holds of the requests after the datagram
module _ (c : Client) (P : All → Type 0) (same : P c.requests)
    (noted : (m : ℕ) (a b : AskedSeen) → datum_of m c.requests ≡ Some a → b.until ≡ a.until
    → P (after_replacing m b c.requests))
    (sent : (m id now : ℕ) (a b empty : AskedSeen) (x : Answering) (bytes : List ℕ)
    (plan : Settings) → datum_of m c.requests ≡ Some a
    → P (after_replacing m b (after_again m x id bytes plan empty now c.requests))) where
  pub changed_so : (change : Change) (m : ℕ) → P (changed_at change m c.requests)
  changed_so change m = by (datum_of m c.requests) refl
    where
      by : (o : Option AskedSeen) → datum_of m c.requests ≡ o
          → P (option_map_or (λ a. after_replacing m (changed change a) c.requests) o c.requests)
      by None there = same
      by (Some a) there = noted m a (changed change a) there (until_stays change a)

  pub forgone_so : (bytes : List ℕ) (o : Option Met) → P (without_memory bytes c o).1.requests
  forgone_so bytes None = same
  forgone_so bytes (Some m) = changed_so (Noted Reasons.OutOfMemory (code_in bytes)) m.number

  module _ (memory : Memory) (now : ℕ) (bytes : List ℕ) (m : Met)
      (there : datum_of m.number c.requests ≡ Some m.asked) where
    turned_so : (why : Why) (d : Option Answered) (s : Spot) (page : Page?)
        → P (turned_by memory c now bytes m why d s page).1.requests
    turned_so why d s (Err refused) =
        changed_so (Noted (unwritten why) (code_in bytes)) m.number
    turned_so why d s (Ok new) =
        sent m.number s.id now m.asked
        (turned memory.is_kept (transaction_id_field bytes) (turn_to s why d) m.asked)
        (new_asked m.asked.method [] None 0 None)
        (record { count = length bytes; moment = Some now }) new (plan_for c m.asked) there

    spot_so : (why : Why) (d : Option Answered) (o : Option Spot)
        → P (turned_at memory c now bytes m why d o).1.requests
    spot_so why d None = changed_so (Noted Reasons.OutOfMemory (code_in bytes)) m.number
    spot_so why d (Some s) =
        turned_so why d s (message_bytes c.form c.identity d s.id m.asked)

    pub goes_on_so : (d : DecisionSeen) → IsNoEnd d
        → P (by_decision memory c now bytes m d).1.requests
    goes_on_so (answered by) goes_on = absurd goes_on
    goes_on_so challenged_out goes_on = absurd goes_on
    goes_on_so (turns why place d) goes_on = spot_so why d (spot_of c m.asked place)
    goes_on_so refuses goes_on = changed_so (Refused (code_in bytes)) m.number
    goes_on_so (drops why) goes_on = changed_so (Noted why (code_in bytes)) m.number

-- and so it does if it also holds after the end of a request
module _ (c : Client) (P : All → Type 0) (same : P c.requests)
    (noted : (m : ℕ) (a b : AskedSeen) → datum_of m c.requests ≡ Some a → b.until ≡ a.until
    → P (after_replacing m b c.requests))
    (ended : (m count : ℕ) (a : AskedSeen) (moment : Option ℕ) (end : EndSeen)
    → datum_of m c.requests ≡ Some a → P (after_answering m count moment end c.requests))
    (sent : (m id now : ℕ) (a b empty : AskedSeen) (x : Answering) (bytes : List ℕ)
    (plan : Settings) → datum_of m c.requests ≡ Some a
    → P (after_replacing m b (after_again m x id bytes plan empty now c.requests))) where
  module _ (memory : Memory) (now : ℕ) (bytes : List ℕ) (m : Met)
      (there : datum_of m.number c.requests ≡ Some m.asked) where
    goes_on : (d : DecisionSeen) → IsNoEnd d → P (by_decision memory c now bytes m d).1.requests
    goes_on = goes_on_so c P same noted sent memory now bytes m there

    decided_so : (d : DecisionSeen) → P (by_decision memory c now bytes m d).1.requests
    decided_so (answered by) =
        ended m.number (length bytes) m.asked (moment_of now m)
        (record {
          end = how.Answered (outcome_of c.understood bytes) by;
          response = bytes;
          round_trip = round_trip_of now m;
        }) there
    decided_so challenged_out =
        ended m.number (length bytes) m.asked (moment_of now m)
        (bare_end (end_after m.asked.signed_for bytes)) there
    decided_so (turns why place d) = goes_on (turns why place d) tt
    decided_so refuses = goes_on refuses tt
    decided_so (drops why) = goes_on (drops why) tt

  met_so : (memory : Memory) (from : SocketAddr) (now : ℕ) (bytes : List ℕ)
      → P (by_met memory c now bytes (heard_in from bytes c)).1.requests
  met_so memory from now bytes = by (heard_in from bytes c) refl
    where
      by : (o : Option Met) → heard_in from bytes c ≡ o
          → P (by_met memory c now bytes o).1.requests
      by None found = same
      by (Some m) found =
          decided_so memory now bytes m
          (met_is_stored bytes c m m.number (heard_is from bytes c m found) refl)
          (decision_for c now bytes m)

  class_so : (memory : Memory) (from : SocketAddr) (now : ℕ) (bytes : List ℕ)
      → (class : MessageClass) → P (by_class memory from c now bytes class).1.requests
  class_so memory from now bytes Classes.Request = same
  class_so memory from now bytes Classes.Indication = by (is_same_address from c.server)
    where
      by : (b : Bool) → P (cond {A = Answer} b (Indication bytes, c) (NotOurs, c)).1.requests
      by true = same
      by false = same
  class_so memory from now bytes Classes.Success = met_so memory from now bytes
  class_so memory from now bytes Classes.Error = met_so memory from now bytes

  received_so : (memory : Memory) (from : SocketAddr) (bytes : List ℕ) (now : ℕ)
      → P (received memory from bytes now c).1.requests
  received_so memory from bytes now = by (is_some (refusal bytes))
    where
      by : (refused : Bool)
          → P
          (cond refused (NotOurs, c) (by_class memory from c now bytes (class_in bytes))).1.requests
      by true = same
      by false = class_so memory from now bytes (class_in bytes)

  pub receives_so : (from : SocketAddr) (bytes : List ℕ) (now : ℕ) (given : Answer)
      → UnlessMemory (λ memory. received memory from bytes now c) bytes (heard_in from bytes c) c
      given
      → P given.1.requests
  receives_so from bytes now given (as_expected memory is) =
      subst (λ (x : Answer). P x.1.requests) (sym is) (received_so memory from bytes now)
  receives_so from bytes now given (forgone is) =
      subst (λ (x : Answer). P x.1.requests) (sym is)
      (forgone_so c P same noted sent bytes (heard_in from bytes c))

-- ---- a request that is started

-- its number of an ID, and its bytes
pub record IsStarted (c : Client) (method : ℕ) (body : Body) (options : Option Options)
    : Type 0 where
  pub number : ℕ
  pub bytes : List ℕ
  pub free : start_refusal c.requests (id_of c.seed number) ≡ None
  pub is_so : (now : ℕ)
      → started method body options now c ≡ started_by c number method body options bytes now

pub started_is : (c : Client) (method : ℕ) (body : Body) (options : Option Options)
    → refusal_to_start c method body options ≡ None → IsStarted c method body options
started_is c method body options none = by (chosen c) refl none
  where
    unrefused : (o : Option StartRefusal) → option_map error_of o ≡ None → o ≡ None
    unrefused None is = refl
    unrefused (Some why) is = cc

    page_is : (number : ℕ) (page : Page?) → chosen c ≡ Some number
        → first_message c method number body options ≡ page → refusal_of_page c number page ≡ None
        → IsStarted c method body options
    page_is number (Err why) is written none = cc
    page_is number (Ok bytes) is written none = record {
      number = number;
      bytes = bytes;
      free = unrefused (start_refusal c.requests (id_of c.seed number)) none;
      is_so = λ now.
          ap (λ (o : Option ℕ). started_at c method body options now o) is
          ∙ ap (λ (p : Page?). started_with c number method body options now p) written;
    }

    by : (o : Option ℕ) → chosen c ≡ o → refusal_of_number c method body options o ≡ None
        → IsStarted c method body options
    by None is none = cc
    by (Some number) is none =
        page_is number (first_message c method number body options) is refl none

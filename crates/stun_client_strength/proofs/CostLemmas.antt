-- What each answer of a server that refuses a request leaves of it.
use Rattle.std.proofs.Common.{◌≡◌, ◌∙◌, ◌≤◌, ◌+◌, ℕ, Bool, true, false, List, [], ◌∷◌, length}
use Rattle.std.proofs.Common.{Option, Some, None, Ok, Err, ap, arith, cond, refl, subst, sym}
use Rattle.std.specs.Bool.{⊤}
use Rattle.std.specs.Option.{IsSome, is_none, option_and_then, option_map}
use Rattle.std.specs.Prelude.{◌||◌}
use Rattle.std.specs.declared.net.socket_addr.SocketAddr.{SocketAddr}
use Rattle.stun_base.specs.Header.{transaction_id_field}
use Rattle.stun_base.specs.Moments.{last_moment}
use Rattle.stun_client.specs.Challenges.{Answered}
use Rattle.stun_client.specs.Challenging.{code_in}
use Rattle.stun_client.specs.Judging.{anew, refused}
use Rattle.stun_client_endpoint.specs.Settings.{is_reliable}
use Rattle.stun_client_endpoint.specs.Refusals.{after_refusal, after_turn}
use Rattle.stun_client_endpoint.specs.Written.{Page?}
use Rattle.stun_client_endpoint.specs.declared.ended.DropReason.TheVariants.{LateChallenge}
use Rattle.stun_client_endpoint.specs.declared.ended.RequestEnd.TheVariants as how
use Rattle.stun_client_endpoint.specs.declared.refusals.Refusals.{Refusals}
use Rattle.stun_client_endpoint.specs.declared.told.Received.TheVariants.{Consumed}
use Rattle.stun_client_requests.specs.Numbers.{id_in}
use Rattle.stun_client_requests.specs.Requests.{Poll as PollOf, after_replacing, datum_of, polled}
use Rattle.stun_client_requests.specs.declared.requests.Polled.TheVariants as Of
use Rattle.stun_client_calls.specs.Clients.{Client, Poll, Told, by_polled, changed_at, given_up}
use Rattle.stun_client_calls.specs.Clients.{handed_out_of, sent_by, told, transmit, with_requests}
use Rattle.stun_client_calls.specs.Deciding.{drops, is_spent, place_of, refuses, turns_for}
use Rattle.stun_client_calls.specs.Deciding.{challenged_out}
use Rattle.stun_client_calls.specs.Messages.{is_late, AskedSeen, is_late as is_late_in}
use Rattle.stun_client_calls.specs.Messages.{message_for, refusing, sent_out, turned}
use Rattle.stun_client_calls.specs.Endpoints.{EndSeen, bare_end}
use Rattle.stun_client_calls.specs.Receiving.{end_after}
use Rattle.stun_client_calls.specs.Receiving.{Answer, Memory, Met, Spot, as_expected, by_decision}
use Rattle.stun_client_calls.specs.Receiving.{judge_for, moment_of, received, spot_of, turn_to}
use Rattle.stun_client_calls.specs.Receiving.{turned_at, turned_by, challenged_out_by}
use Rattle.stun_client_calls.specs.Runs.{Call, Event, call, no_call, polled as says_so, polls}
use Rattle.stun_client_calls.specs.Runs.{receives, silent}
use Rattle.stun_client_calls.specs.Writing.{message_bytes}
use Rattle.stun_client_calls.specs.declared.asked.Change.TheVariants.{Refused, SentOut}
use Rattle.stun_client_calls.specs.declared.turning.Why.TheVariants as Why
use Rattle.stun_client_calls.proofs.TurnLemmas.{All, IsOne}
use Rattle.stun_client_runs.specs.Kept.{IsClient, StaysAClient}
use Rattle.stun_client_runs.specs.Laws.{TransmitsWhatIsThere}
use Rattle.stun_client_strength.specs.Costs.{IsRefusedRun, between, challenged, over, refused_by}
use Rattle.stun_client_strength.specs.Costs.{sent}
use Rattle.stun_client_strength.specs.Hearing.{message_answered, response_verdict}
use Rattle.stun_client_runs.proofs.EachAtLemmas.{datum_in, replaced_is}
use Rattle.stun_client_runs.proofs.PollAtLemmas.{outstanding, sent_datum}
use Rattle.stun_client_strength.proofs.RefusingLemmas.{changed_is, decides, ended_there, heard_met}

-- ---- what is stored then

-- of a request that a response has ended, nothing
ended_none : (c : Client) (now : ℕ) (bytes : List ℕ) (m : Met)
    → datum_of m.number c.requests ≡ Some m.asked
    → datum_of m.number (challenged_out_by c now bytes m).1.requests ≡ None
ended_none c now bytes m some =
    ap (λ o. datum_in (challenged_out_by c now bytes m).1.requests (option_and_then id_in o))
    (ended_there m.number (length bytes) (moment_of now m)
    (bare_end (end_after m.asked.signed_for bytes)) m.asked c.requests some)

-- what one response leaves of a request
pub record IsLeft (signed_for : Option Answered → Type 0) (refusals : Refusals) (b : AskedSeen)
    : Type 0 where
  pub signed : signed_for b.signed_for
  pub counts : b.refusals ≡ refusals

pub nothing_left : (number : ℕ) (r : All) (b : AskedSeen) (P : Type 0) → datum_of number r ≡ None
    → datum_of number r ≡ Some b → P
nothing_left number r b P none some =
    let clash : ◌≡◌ {A = Option AskedSeen} None (Some b) = sym none ∙ some in
    cc

module _ (memory : Memory) (from : SocketAddr) (bytes : List ℕ) (now : ℕ) (c next : Client)
    (m : Met) (hears : message_answered c from bytes ≡ Some m) where
  stored : datum_of m.number c.requests ≡ Some m.asked
  stored = (heard_met from bytes c m hears).stored

  -- a refusal
  refused_left : response_verdict c bytes m ≡ refused None
      → (received memory from bytes now c).1 ≡ next → (b : AskedSeen)
      → datum_of m.number next.requests ≡ Some b
      → (m.asked.refusals.is_earlier ≡ false)
      × IsLeft (λ o. o ≡ m.asked.signed_for) (after_refusal m.asked.refusals) b
  refused_left verdict is b some =
      by (is_reliable c.requests.table.transport) m.asked.refusals.is_earlier refl
      (sym (ap (λ (a : Answer). a.1)
      (decides memory from bytes now c m hears (refused None)
      (cond (is_reliable c.requests.table.transport || m.asked.refusals.is_earlier) challenged_out
      refuses) verdict refl)) ∙ is)
    where
      ended : (challenged_out_by c now bytes m).1 ≡ next
          → (m.asked.refusals.is_earlier ≡ false)
          × IsLeft (λ o. o ≡ m.asked.signed_for) (after_refusal m.asked.refusals) b
      ended same =
          nothing_left m.number next.requests b _
          (subst (λ (x : Client). datum_of m.number x.requests ≡ None) same
          (ended_none c now bytes m stored)) some

      by : (reliable earlier : Bool) → m.asked.refusals.is_earlier ≡ earlier
          → (by_decision memory c now bytes m (cond (reliable || earlier) challenged_out refuses)).1
          ≡ next
          → (m.asked.refusals.is_earlier ≡ false)
          × IsLeft (λ o. o ≡ m.asked.signed_for) (after_refusal m.asked.refusals) b
      by true earlier was same = ended same
      by false true was same = ended same
      by false false was same =
          let left : changed_at (Refused (code_in bytes)) m.number c.requests ≡ next.requests =
          ap (λ (x : Client). x.requests) same in
          let its : refusing (code_in bytes) m.asked ≡ b =
          replaced_is m.number (refusing (code_in bytes) m.asked) b c.requests
          (ap (λ (r : All). datum_of m.number r)
          (sym (changed_is (Refused (code_in bytes)) m.number m.asked c.requests stored) ∙ left)
          ∙ some) in (
            was,
            record {
              signed = ap (λ (x : AskedSeen). x.signed_for) (sym its);
              counts = ap (λ (x : AskedSeen). x.refusals) (sym its);
            },
          )

  -- a challenge to a message that is not signed
  challenged_left : (x : Answered) → response_verdict c bytes m ≡ anew x
      → received memory from bytes now c ≡ (Consumed, next) → (b : AskedSeen)
      → datum_of m.number next.requests ≡ Some b
      → IsLeft (λ o. is_none o ≡ false) (after_turn false m.asked.refusals) b
  challenged_left x verdict is b some =
      by (is_late now m.asked) (is_spent (judge_for c m.asked).limits m.asked)
      (sym (decides memory from bytes now c m hears (anew x)
      (cond (is_late now m.asked) (drops LateChallenge)
      (cond (is_spent (judge_for c m.asked).limits m.asked) challenged_out
      (turns_for Why.Challenged x m.asked))) verdict refl) ∙ is)
    where
      by_page : (s : Spot) (page : Page?)
          → turned_by memory c now bytes m Why.Challenged (Some x) s page ≡ (Consumed, next)
          → IsLeft (λ o. is_none o ≡ false) (after_turn false m.asked.refusals) b
      by_page s (Err why) same = let no = ap (λ (a : Answer). a.0) same in cc
      by_page s (Ok page) same =
          let after = ap (λ (a : Answer). a.1.requests) same in
          let its = replaced_is m.number
          (turned memory.is_kept (transaction_id_field bytes) (turn_to s Why.Challenged (Some x))
          m.asked) b _ (ap (λ (r : All). datum_of m.number r) after ∙ some) in
          record {
            signed = ap (λ (y : AskedSeen). is_none y.signed_for) (sym its);
            counts = ap (λ (y : AskedSeen). y.refusals) (sym its);
          }

      at_spot : (o : Option Spot)
          → turned_at memory c now bytes m Why.Challenged (Some x) o ≡ (Consumed, next)
          → IsLeft (λ o. is_none o ≡ false) (after_turn false m.asked.refusals) b
      at_spot None same = let no = ap (λ (a : Answer). a.0) same in cc
      at_spot (Some s) same =
          by_page s (message_bytes c.form c.identity (Some x) s.id m.asked) same

      by : (late spent : Bool)
          → by_decision memory c now bytes m (cond late (drops LateChallenge)
          (cond spent challenged_out (turns_for Why.Challenged x m.asked))) ≡ (Consumed, next)
          → IsLeft (λ o. is_none o ≡ false) (after_turn false m.asked.refusals) b
      by true spent same = let no = ap (λ (a : Answer). a.0) same in cc
      by false true same =
          nothing_left m.number next.requests b _
          (subst (λ (y : Client). datum_of m.number y.requests ≡ None)
          (ap (λ (a : Answer). a.1) same) (ended_none c now bytes m stored)) some
      by false false same =
          at_spot (spot_of c m.asked (option_map place_of (message_for x m.asked.earlier))) same

-- what a poll that asks for the bytes of a request leaves of it
pub record IsSentOut (now number : ℕ) (c : Client) (b : AskedSeen) : Type 0 where
  pub before : AskedSeen
  pub there : datum_of number c.requests ≡ Some before
  pub same : sent_out now before ≡ b

number_is : (x y : ℕ) → ◌≡◌ {A = Told} (transmit x) (transmit y) → x ≡ y
number_is x y e = cc

module _ (now number : ℕ) (c next : Client) (b : AskedSeen) (one : IsOne c.requests)
    (some : datum_of number next.requests ≡ Some b) where
  handed_left : (n : ℕ) (r : All) → polled now c.requests ≡ (Of.Transmit n, r)
      → (o : Option AskedSeen) → datum_of n r ≡ o
      → handed_out_of now n (with_requests r c) o ≡ (transmit number, next)
      → IsSentOut now number c b
  handed_left n r same None none said =
      let named : n ≡ number = number_is n number (ap (λ (p : Poll). p.0) said) in
      let left : r ≡ next.requests = ap (λ (p : Poll). p.1.requests) said in
      nothing_left number next.requests b (IsSentOut now number c b)
      (subst (λ (x : All). datum_of number x ≡ None) left
      (subst (λ k. datum_of k r ≡ None) named none)) some
  handed_left n r same (Some a) there said = by (is_late_in now a) said
    where
      before : datum_of n c.requests ≡ Some a
      before =
          sent_datum now c.requests n a one (ap (λ (x : PollOf AskedSeen EndSeen). x.0) same)
          (ap (λ (x : PollOf AskedSeen EndSeen). datum_of n x.1) same ∙ there)

      by : (late : Bool)
          → cond late (given_up n a (with_requests r c)) (sent_by now n (with_requests r c))
          ≡ (transmit number, next)
          → IsSentOut now number c b
      by true said = let no = ap (λ (p : Poll). p.0) said in cc
      by false said =
          let named : n ≡ number = number_is n number (ap (λ (p : Poll). p.0) said) in
          let left : changed_at (SentOut now) n r ≡ next.requests =
          ap (λ (p : Poll). p.1.requests) said in
          let stored : datum_of n (after_replacing n (sent_out now a) r) ≡ Some b =
          ap (λ (x : All). datum_of n x) (sym (changed_is (SentOut now) n a r there) ∙ left)
          ∙ ap (λ k. datum_of k next.requests) named ∙ some in
          record {
            before = a;
            there = subst (λ k. datum_of k c.requests ≡ Some a) named before;
            same = replaced_is n (sent_out now a) b r stored;
          }

  sent_left : told now c ≡ (transmit number, next) → IsSentOut now number c b
  sent_left = by (polled now c.requests) refl
    where
      by : (p : PollOf AskedSeen EndSeen) → polled now c.requests ≡ p
          → by_polled now (with_requests p.1 c) p.0 ≡ (transmit number, next)
          → IsSentOut now number c b
      by (Of.Transmit n, r) same said = handed_left n r same (datum_of n r) refl said
      by (Of.Ended n end, r) same said = let no = ap (λ (p : Poll). p.0) said in cc
      by (Of.TimedOut n a, r) same said = let no = ap (λ (p : Poll). p.0) said in cc
      by (Of.Wait until, r) same said = let no = ap (λ (p : Poll). p.0) said in cc

-- ---- how often the bytes are handed out

-- twice for a signed message, or once if it was refused, and once more for a message that is not
-- signed
abbrev units : Option Answered → Refusals → ℕ
units signed_for f = cond (is_none signed_for) 3 (cond (f.is_earlier || f.is_recent) 1 2)

abbrev units_of : AskedSeen → ℕ
units_of a = units a.signed_for a.refusals

abbrev pub IsBound : Bool → ℕ → Option AskedSeen → Type 0
IsBound is_waiting count None = count ≤ 0
IsBound is_waiting count (Some a) = count + cond is_waiting 1 0 ≤ units_of a

-- a message that waits was sent, and was not refused since then
abbrev IsSentFresh : Refusals → Type 0
IsSentFresh f = (f.is_recent ≡ false) × (f.is_sent ≡ true)

abbrev pub IsFresh : Bool → Option AskedSeen → Type 0
IsFresh is_waiting None = ⊤
IsFresh is_waiting (Some a) = is_waiting ≡ true → IsSentFresh a.refusals

no_more : (count : ℕ) (w u x : Bool) → count ≤ 0
    → count + cond w 1 0 ≤ cond u 3 (cond x 1 2)
no_more count true true true low = omega (arith, low)
no_more count true true false low = omega (arith, low)
no_more count true false true low = omega (arith, low)
no_more count true false false low = omega (arith, low)
no_more count false true true low = omega (arith, low)
no_more count false true false low = omega (arith, low)
no_more count false false true low = omega (arith, low)
no_more count false false false low = omega (arith, low)

one_more : (count : ℕ) (u x : Bool) → count + 1 ≤ cond u 3 (cond (x || false) 1 2)
    → count + 1 + 0 ≤ cond u 3 (cond x 1 2)
one_more count true true low = omega (arith, low)
one_more count true false low = omega (arith, low)
one_more count false true low = omega (arith, low)
one_more count false false low = omega (arith, low)

challenged_more : (count : ℕ) (w x : Bool) → count + 0 ≤ 2 → count + cond w 1 0 ≤ 3
challenged_more count true x low = omega (arith, low)
challenged_more count false x low = omega (arith, low)

refused_more : (count : ℕ) (w e r s u : Bool) → u ≡ false → e ≡ false
    → (w ≡ true → (r ≡ false) × (s ≡ true)) → count + 0 ≤ cond u 3 (cond (e || (r || s)) 1 2)
    → count + cond w 1 0 ≤ cond u 3 (cond (e || r) 1 2)
refused_more count w e r s true signed off fresh low = cc
refused_more count w true r s false signed off fresh low = cc
refused_more count true false true s false signed off fresh low =
    let no : true ≡ false = (fresh refl).0 in cc
refused_more count true false false true false signed off fresh low = omega (arith, low)
refused_more count true false false false false signed off fresh low =
    let no : false ≡ true = (fresh refl).1 in cc
refused_more count false false true s false signed off fresh low = omega (arith, low)
refused_more count false false false true false signed off fresh low = omega (arith, low)
refused_more count false false false false false signed off fresh low = omega (arith, low)

-- a request that is over takes none
none_more : (count : ℕ) (w : Bool) (o : Option AskedSeen) → count ≤ 0 → IsBound w count o
none_more count w None low = low
none_more count w (Some a) low =
    no_more count w (is_none a.signed_for) (a.refusals.is_earlier || a.refusals.is_recent) low

sent_bound : (now count : ℕ) (a b : AskedSeen) → sent_out now a ≡ b → count + 1 ≤ units_of b
    → count + 1 + 0 ≤ units_of a
sent_bound now count a b same low =
    one_more count (is_none a.signed_for)
    (a.refusals.is_earlier || a.refusals.is_recent)
    (subst (λ (x : AskedSeen). count + 1 ≤ units_of x) (sym same) low)

challenged_bound : (count : ℕ) (w : Bool) (a b : AskedSeen) → a.signed_for ≡ None
    → IsLeft (λ o. is_none o ≡ false) (after_turn false a.refusals) b
    → count + 0 ≤ units_of b → count + cond w 1 0 ≤ units_of a
challenged_bound count w a b unsigned left low =
    subst (λ (o : Option Answered). count + cond w 1 0 ≤ units o a.refusals) (sym unsigned)
    (challenged_more count w (a.refusals.is_earlier || a.refusals.is_recent)
    (subst (λ (f : Refusals). count + 0 ≤ cond (f.is_earlier || f.is_recent) 1 2) left.counts
    (subst (λ u. count + 0 ≤ cond u 3 (cond (b.refusals.is_earlier || b.refusals.is_recent) 1 2))
    left.signed low)))

signed_one : (o : Option Answered) → IsSome o → is_none o ≡ false
signed_one None some = cc
signed_one (Some x) some = refl

refused_bound : (count : ℕ) (w : Bool) (a b : AskedSeen) → IsSome a.signed_for
    → a.refusals.is_earlier ≡ false → (w ≡ true → IsSentFresh a.refusals)
    → IsLeft (λ o. o ≡ a.signed_for) (after_refusal a.refusals) b → count + 0 ≤ units_of b
    → count + cond w 1 0 ≤ units_of a
refused_bound count w a b some off fresh left low =
    refused_more count w a.refusals.is_earlier a.refusals.is_recent a.refusals.is_sent
    (is_none a.signed_for) (signed_one a.signed_for some) off fresh
    (subst (λ (f : Refusals). count + 0 ≤ units a.signed_for f) left.counts
    (subst (λ (o : Option Answered). count + 0 ≤ units o b.refusals) left.signed low))

module _ (stays : StaysAClient) (transmits : TransmitsWhatIsThere) (number : ℕ) where
  pub next_client : (c : Client) (event : Event) (next : Client) → IsClient c → Call c event next
      → IsClient next
  next_client c event next is made =
      stays c next (event ∷ []) is (call c next next event [] made (no_call next))

  -- after a datagram, that is heard
  heard_client : (memory : Memory) (from : SocketAddr) (bytes : List ℕ) (now : ℕ) (c next : Client)
      → IsClient c → now ≤ last_moment → (received memory from bytes now c).1 ≡ next
      → IsClient next
  heard_client memory from bytes now c next is low same =
      next_client c silent next is
      (receives c next from bytes now (received memory from bytes now c) low
      (as_expected memory refl) (sym same))

  pub costs : (w : Bool) (c : Client) (count : ℕ) (later : Client) → IsClient c
      → IsRefusedRun number w c count later → (o : Option AskedSeen)
      → datum_of number c.requests ≡ o
      → IsFresh w o → IsBound w count o
  costs w c count later is (over _ _) o there fresh = none_more 0 w o (omega arith)
  costs w c count later is (sent _ next _ now n said rest) o there fresh =
      let next_is = next_client c (says_so (transmit number)) next is
      (polls c next now (transmit number) said) in
      let out = outstanding number next.requests next_is.requests.one
      (transmits now number c next is said) in
      let left = sent_left now number c next out.asked is.requests.one out.there said in
      let low = costs true next n later next_is rest (Some out.asked) out.there
      (λ so. subst (λ (x : AskedSeen). IsSentFresh x.refusals) left.same (refl, refl)) in
      subst (λ (x : Option AskedSeen). IsBound false (n + 1) x) (sym left.there ∙ there)
      (sent_bound now n left.before out.asked left.same low)
  costs w c count later is
      (challenged _ _ next _ memory from bytes now n m x low hears named unsigned verdict comes
      rest) o there fresh =
      by (datum_of number next.requests) refl
      (costs false next n later
      (heard_client memory from bytes now c next is low (ap (λ (a : Answer). a.1) comes)) rest
      (datum_of number next.requests) refl (never (datum_of number next.requests)))
    where
      never : (o : Option AskedSeen) → IsFresh false o
      never None = tt
      never (Some a) = λ so. cc

      met : datum_of number c.requests ≡ Some m.asked
      met =
          subst (λ k. datum_of k c.requests ≡ Some m.asked) named
          (heard_met from bytes c m hears).stored

      by : (p : Option AskedSeen) → datum_of number next.requests ≡ p → IsBound false n p
          → IsBound w n o
      by None gone bound = none_more n w o bound
      by (Some b) some bound =
          subst (λ (y : Option AskedSeen). IsBound w n y) (sym met ∙ there)
          (challenged_bound n w m.asked b unsigned
          (challenged_left memory from bytes now c next m hears x verdict comes b
          (ap (λ k. datum_of k next.requests) named ∙ some)) bound)
  costs w c count later is
      (refused_by _ _ next _ memory from bytes now n m low hears named some_signed verdict comes
      rest) o there fresh =
      by (datum_of number next.requests) refl
      (costs false next n later
      (heard_client memory from bytes now c next is low comes) rest
      (datum_of number next.requests) refl (never (datum_of number next.requests)))
    where
      never : (o : Option AskedSeen) → IsFresh false o
      never None = tt
      never (Some a) = λ so. cc

      met : datum_of number c.requests ≡ Some m.asked
      met =
          subst (λ k. datum_of k c.requests ≡ Some m.asked) named
          (heard_met from bytes c m hears).stored

      by : (p : Option AskedSeen) → datum_of number next.requests ≡ p → IsBound false n p
          → IsBound w n o
      by None gone bound = none_more n w o bound
      by (Some b) some bound =
          let left = refused_left memory from bytes now c next m hears verdict comes b
          (ap (λ k. datum_of k next.requests) named ∙ some) in
          subst (λ (y : Option AskedSeen). IsBound w n y) (sym met ∙ there)
          (refused_bound n w m.asked b some_signed left.0
          (subst (λ (y : Option AskedSeen). IsFresh w y) (sym there ∙ met) fresh) left.1 bound)
  costs w c count later is (between _ _ next _ events n calls unsent untouched rest) o there fresh =
      by (datum_of number next.requests) refl
      (λ p some its_fresh.
      costs w next n later (stays c next events is calls) rest p some its_fresh)
    where
      by : (p : Option AskedSeen) → datum_of number next.requests ≡ p
          → ((y : Option AskedSeen) → datum_of number next.requests ≡ y → IsFresh w y
          → IsBound w n y)
          → IsBound w n o
      by None gone bounds = none_more n w o (bounds None gone tt)
      by (Some b) some bounds =
          let u = untouched b some in
          let same : o ≡ Some u.before = sym there ∙ u.there in
          let was : w ≡ true → IsSentFresh u.before.refusals =
          subst (λ (y : Option AskedSeen). IsFresh w y) same fresh in
          let bound = bounds (Some b) some
          (λ so. subst IsSentFresh u.refusals (was so)) in
          subst (λ (y : Option AskedSeen). IsBound w n y) (sym same)
          (subst (λ (s : Option Answered). n + cond w 1 0 ≤ units s u.before.refusals)
          (sym u.signed_for)
          (subst (λ (f : Refusals). n + cond w 1 0 ≤ units b.signed_for f) (sym u.refusals) bound))

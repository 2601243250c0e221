-- What a request that is not to be signed leaves of the standing challenges: all of them.
use Rattle.std.proofs.Common.{◌≡◌, ◌∙◌, ℕ, Bool, true, false, List, Option, Some, None, ap, arith}
use Rattle.std.proofs.Common.{cond, length, refl, subst, sym}
use Rattle.std.specs.Prelude.{◌≢◌}
use Rattle.std.specs.declared.net.socket_addr.SocketAddr.{SocketAddr}
use Rattle.stun_base.specs.MessageType.{class_in}
use Rattle.stun_client.specs.Challenges.{Answered}
use Rattle.stun_client.specs.Challenging.{code_in}
use Rattle.stun_client.specs.Judging.{Identity}
use Rattle.stun_client.specs.Outcomes.{outcome_of}
use Rattle.stun_client_endpoint.specs.declared.ended.RequestEnd.TheVariants as how
use Rattle.stun_client_requests.specs.Requests.{Poll as PollOf, datum_of, polled}
use Rattle.stun_client_requests.specs.declared.requests.Polled.TheVariants as Of
use Rattle.stun_client_requests.specs.declared.requests.Request.{Request}
use Rattle.stun_client_calls.specs.Clients.{Client, Poll, Told, by_polled, ends, given_up}
use Rattle.stun_client_calls.specs.Clients.{handed_out_of, new_client, sent_by, told, with_requests}
use Rattle.stun_client_calls.specs.Deciding.{DecisionSeen, answered, drops, refuses, turns}
use Rattle.stun_client_calls.specs.Deciding.{challenged_out}
use Rattle.stun_client_calls.specs.Endpoints.{EndSeen}
use Rattle.stun_client_calls.specs.Laws.{IsAnswerOrDrop}
use Rattle.stun_client_calls.specs.Messages.{AskedSeen, is_late, stepped_back}
use Rattle.stun_client_calls.specs.OptionLaws.{is_unsigned}
use Rattle.stun_client_calls.specs.Receiving.{Answer, Memory, Met, by_decision, decision_for}
use Rattle.stun_client_calls.specs.Receiving.{is_success_class, judge_for, moment_of}
use Rattle.stun_client_calls.specs.Receiving.{round_trip_of}
use Rattle.stun_client_calls.specs.declared.asked.Change.TheVariants.{Noted}
use Rattle.stun_client_calls.proofs.TurnLemmas.{All, some_is}
use Rattle.stun_client_runs.specs.Kept.{BeginsAsClient, IsClient, StaysAClient}
use Rattle.stun_client_strength.specs.Hearing.{message_answered}
use Rattle.stun_client_strength.specs.Unsigned.{IsNeverSigned, IsNoChallenge, IsReached}
use Rattle.stun_client_runs.proofs.EachAtLemmas.{is_there, numbered}
use Rattle.stun_client_strength.proofs.HeldLemmas.{AreRules, IsSignedAs, calls_held, current_is}
use Rattle.stun_client_strength.proofs.HeldLemmas.{earlier_is}
use Rattle.stun_client_strength.proofs.OtherLemmas.{answered_other, changed_other}
use Rattle.stun_client_runs.proofs.PollAtLemmas.{sent_datum, timed_is}
use Rattle.stun_client_strength.proofs.RefusingLemmas.{any_lapse, any_lets, any_poll, any_standing}
use Rattle.stun_client_strength.proofs.RefusingLemmas.{heard_comes, heard_met, no_facts}
use Rattle.stun_client_strength.proofs.UnsignedLemmas.{StaysUnsigned, changed_unsigned}
use Rattle.stun_client_strength.proofs.UnsignedLemmas.{confirming_none, for_unsigned, none_found}
use Rattle.stun_client_strength.proofs.UnsignedLemmas.{starts_unsigned, stepped_same}
use Rattle.stun_client_strength.proofs.UnsignedLemmas.{turned_unsigned, unsigned_answers_or_drops}

-- ---- over any calls

abbrev StaysSo : ℕ → Request AskedSeen → Type 0
StaysSo id q = StaysUnsigned q.datum

unsigned_rules : (identity : Identity) → AreRules identity 0 any_standing StaysSo any_lapse
unsigned_rules identity = record {
  starts = λ s id number method until body options low any.
      starts_unsigned method until body options s.current;
  changes = λ id number change a its. changed_unsigned change a its;
  turns_so = λ j now id new number former a bytes place t is_kept signed same any its is.
      turned_unsigned is_kept former t a signed;
  answers = λ j now id number a bytes place why d signed same any its is. tt;
  succeeds = λ s id number a o any its signed. tt;
  lapses = λ s a so any. tt;
}

module _ (begins : BeginsAsClient) (stays : StaysAClient) (c : Client) (r : IsReached c) where
  abbrev new : Client
  new =
      new_client r.transport r.server r.counts r.requires_fingerprint r.identity r.form r.understood
      r.turns r.plan r.seed

  new_is : IsClient new
  new_is =
      begins r.transport r.server r.counts r.requires_fingerprint r.identity r.form r.understood
      r.turns r.plan r.seed

  reached : IsClient c
  reached = stays new c r.events new_is r.calls

  -- no message of such a request is signed
  pub never_signed : (number : ℕ) (a : AskedSeen) → datum_of number c.requests ≡ Some a
      → is_unsigned a.options ≡ true → IsNeverSigned a
  never_signed number a there off =
      let held = calls_held r.identity r.form 0 any_standing StaysSo any_lapse
      (unsigned_rules r.identity) any_poll any_lets stays new r.events c new_is r.calls
      (no_facts new r.events c r.calls) (record {
        identity_is = refl;
        form_is = refl;
        next_is = omega arith;
        standing = tt;
        asked = λ id q stored. cc;
      }) in
      let t = is_there number a c.requests reached.requests.one there in
      held.asked t.id (numbered number a) t.there off

  -- ---- responses

  signed_none : (a : AskedSeen) (o : Option Answered) → IsNeverSigned a → IsSignedAs a o → o ≡ None
  signed_none a o never (current_is so) = sym so ∙ never.current
  signed_none a o never (earlier_is e p found so) = absurd (none_found a p e never found)

  pub answers_nothing : (memory : Memory) (from : SocketAddr) (bytes : List ℕ) (now : ℕ) (m : Met)
      → message_answered c from bytes ≡ Some m → is_unsigned m.asked.options ≡ true
      → IsNoChallenge memory c from bytes now m
  answers_nothing memory from bytes now m hears off = record {
    decided = decided;
    standing =
        ap (λ (a : Answer). a.1.standing) (heard_comes memory from bytes now c m hears)
        ∙ left (decision_for c now bytes m) decided;
    others = λ other another.
        ap (λ (a : Answer). datum_of other a.1.requests)
        (heard_comes memory from bytes now c m hears)
        ∙ others_left other another (decision_for c now bytes m) decided;
  }
    where
      decided : IsAnswerOrDrop (decision_for c now bytes m)
      decided =
          unsigned_answers_or_drops (judge_for c m.asked) m.is_current now m.asked m.signed_for
          bytes (for_unsigned m.asked.options c.identity off)

      none : m.signed_for ≡ None
      none =
          let met = heard_met from bytes c m hears in
          signed_none m.asked m.signed_for (never_signed m.number m.asked met.stored off) met.signed

      left : (d : DecisionSeen) → IsAnswerOrDrop d
          → (by_decision memory c now bytes m d).1.standing ≡ c.standing
      left (answered signed_by) is =
          confirming_none (is_success_class (class_in bytes)) c.standing m.signed_for none
      left challenged_out is = absurd is
      left (turns why place d) is = absurd is
      left refuses is = absurd is
      left (drops why) is = refl

      others_left : (other : ℕ) → other ≢ m.number → (d : DecisionSeen) → IsAnswerOrDrop d
          → datum_of other (by_decision memory c now bytes m d).1.requests
          ≡ datum_of other c.requests
      others_left other another (answered signed_by) is =
          answered_other m.number other another c.requests reached.requests.one (length bytes)
          (moment_of now m) (record {
            end = how.Answered (outcome_of c.understood bytes) signed_by;
            response = bytes;
            round_trip = round_trip_of now m;
          })
      others_left other another challenged_out is = absurd is
      others_left other another (turns why place d) is = absurd is
      others_left other another refuses is = absurd is
      others_left other another (drops why) is =
          changed_other m.number other another c.requests reached.requests.one
          (Noted why (code_in bytes))

  -- ---- polls

  end_number : (x y : ℕ) (a b : EndSeen) → ◌≡◌ {A = Told} (ends x a) (ends y b) → x ≡ y
  end_number x y a b is = cc

  module _ (after : Client) (now number : ℕ) (a : AskedSeen) (end : EndSeen)
      (there : datum_of number c.requests ≡ Some a) (off : is_unsigned a.options ≡ true) where
    -- what times out is what is stored
    timed_same : (n : ℕ) (b : AskedSeen) (e : EndSeen) → datum_of n c.requests ≡ Some b
        → ◌≡◌ {A = Told} (ends n e) (ends number end) → stepped_back b c.standing ≡ c.standing
    timed_same n b e stored said =
        let named = end_number n number e end said in
        let same : a ≡ b =
        some_is a b (sym there ∙ sym (ap (λ k. datum_of k c.requests) named) ∙ stored) in
        stepped_same b c.standing (subst IsNeverSigned same (never_signed number a there off))

    handed_same : (n : ℕ) (r : All) → polled now c.requests ≡ (Of.Transmit n, r)
        → (o : Option AskedSeen) → datum_of n r ≡ o
        → handed_out_of now n (with_requests r c) o ≡ (ends number end, after)
        → after.standing ≡ c.standing
    handed_same n r same None none said = let no = ap (λ (p : Poll). p.0) said in cc
    handed_same n r same (Some b) some said = by (is_late now b) said
      where
        before : datum_of n c.requests ≡ Some b
        before =
            sent_datum now c.requests n b reached.requests.one
            (ap (λ (x : PollOf AskedSeen EndSeen). x.0) same)
            (ap (λ (x : PollOf AskedSeen EndSeen). datum_of n x.1) same ∙ some)

        by : (late : Bool)
            → cond late (given_up n b (with_requests r c)) (sent_by now n (with_requests r c))
            ≡ (ends number end, after)
            → after.standing ≡ c.standing
        by true said =
            sym (ap (λ (p : Poll). p.1.standing) said)
            ∙ timed_same n b _ before (ap (λ (p : Poll). p.0) said)
        by false said = let no = ap (λ (p : Poll). p.0) said in cc

    pub doubts_nothing : told now c ≡ (ends number end, after) → after.standing ≡ c.standing
    doubts_nothing = by (polled now c.requests) refl
      where
        by : (p : PollOf AskedSeen EndSeen) → polled now c.requests ≡ p
            → by_polled now (with_requests p.1 c) p.0 ≡ (ends number end, after)
            → after.standing ≡ c.standing
        by (Of.Transmit n, r) same said = handed_same n r same (datum_of n r) refl said
        by (Of.Ended n e, r) same said = sym (ap (λ (p : Poll). p.1.standing) said)
        by (Of.TimedOut n b, r) same said =
            sym (ap (λ (p : Poll). p.1.standing) said)
            ∙ timed_same n b _
            (timed_is now c.requests n b reached.requests.one
            (ap (λ (x : PollOf AskedSeen EndSeen). x.0) same))
            (ap (λ (p : Poll). p.0) said)
        by (Of.Wait until, r) same said = let no = ap (λ (p : Poll). p.0) said in cc

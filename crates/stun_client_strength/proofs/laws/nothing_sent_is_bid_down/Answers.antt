-- What holds of the challenges of a client holds for every sequence of calls.
use Rattle.std.proofs.Common.{◌≡◌, ◌∙◌, ℕ, Bool, true, false, List, [], ◌∷◌, Option, Some, None}
use Rattle.std.proofs.Common.{Ok, ap, arith, refl, sym}
use Rattle.std.specs.Bool.{⊤}
use Rattle.std.specs.Prelude.{IsUtf8}
use Rattle.std.specs.Option.{IfSome}
use Rattle.stun_judging.specs.Signed.{IsText}
use Rattle.stun_client.specs.Challenges.{Answered}
use Rattle.stun_client.specs.Standing.{confirming}
use Rattle.stun_client.specs.Judging.{Identity, long_term, unsigned as unsigned_identity}
use Rattle.stun_client.specs.Rule.{IsChosen}
use Rattle.stun_client.specs.Standing.{after_success, confirmed}
use Rattle.stun_client.proofs.ChosenLemmas.{chosen_of_rule}
use Rattle.stun_base.specs.MessageType.{class_in}
use Rattle.stun_client_endpoint.specs.Bodies.{Body}
use Rattle.stun_client_endpoint.specs.Written.{Form, request_bytes}
use Rattle.stun_client_calls.specs.Receiving.{is_success_class}
use Rattle.stun_client_requests.specs.Numbers.{id_at}
use Rattle.stun_client_requests.specs.Requests.{datum_of}
use Rattle.stun_client_calls.specs.Clients.{Client, Told, ends, started, told, transmit}
use Rattle.stun_client_calls.specs.Deciding.{DecisionSeen}
use Rattle.stun_client_calls.specs.Endpoints.{bare_end}
use Rattle.stun_client_calls.specs.Messages.{AskedSeen}
use Rattle.stun_client_calls.specs.NewClients.{NewClient, made_of}
use Rattle.stun_client_calls.specs.OptionLaws.{is_unsigned}
use Rattle.stun_client_calls.specs.Options.{Options, identity_by}
use Rattle.stun_client_calls.specs.Receiving.{Answer, Memory, Met, by_decision, received}
use Rattle.stun_client_calls.specs.Runs.{Call, Calls, Event, call, changes_nothing, ends_one}
use Rattle.stun_client_calls.specs.Runs.{next_number, no_call, polled, polls, receives, requests}
use Rattle.stun_client_calls.specs.Runs.{starts}
use Rattle.stun_client_endpoint.specs.declared.ended.RequestEnd.TheVariants as how
use Rattle.stun_client_runs.specs.Kept.{IsClient}
use Rattle.stun_requests.specs.ReadBack.{added_to}
use Rattle.stun_client_strength.specs.Strength.{IsByRuleFor, OfCall, OfEachPoll, SaysNoTimeout}
use Rattle.stun_client_strength.specs.Strength.{as_before, in_doubt, IsStrongSince, signed}
use Rattle.stun_client_strength.specs.Strength.{unsigned}
use Rattle.stun_client_runs.proofs.EachAtLemmas.{is_there, numbered, stored_one}
use Rattle.stun_client_strength.proofs.HeldLemmas.{AreHeld, calls_held, poll_held}
use Rattle.stun_client_runs.proofs.PollAtLemmas.{outstanding}
use Rattle.stun_client_strength.proofs.RefusingLemmas.{heard_comes}
use Rattle.stun_client_strength.proofs.RuleLemmas.{AreFine, ChallengeLaws, IsFine, IsFineFor}
use Rattle.stun_client_strength.proofs.RuleLemmas.{always, fine_rules, sent_there}
use Rattle.stun_client_strength.proofs.StrengthLemmas.{AreStrong, IsSound, IsStrongFor, any_asked}
use Rattle.stun_client_strength.proofs.StrengthLemmas.{by_challenge, by_doubt, by_options, by_time}
use Rattle.stun_client_strength.proofs.StrengthLemmas.{is_other}
use Rattle.stun_client_strength.proofs.StrengthLemmas.{its_own, sound_rules, strong_rules}
use Rattle.stun_client_strength.proofs.UnsignedLemmas.{StaysUnsigned, for_signed, for_unsigned}
use Rattle.stun_client_strength.proofs.laws.nothing_sent_is_bid_down.Goals as goal

-- ---- facts of polls

-- nothing has to be known
abbrev no_fact : Client → Told → Type 0
no_fact c says = ⊤

of_call : (c : Client) (event : Event) (after : Client) (made : Call c event after)
    → OfCall no_fact c event after made
of_call c event after (requests _ _ method body options now low none so) = tt
of_call c event after (receives _ _ from bytes now answer low made so) = tt
of_call c event after (polls _ _ now says said) = tt
of_call c event after (ends_one _ _ number a there so) = tt
of_call c event after (changes_nothing _) = tt

of_calls : (c : Client) (events : List Event) (after : Client) (calls : Calls c events after)
    → OfEachPoll no_fact c events after calls
of_calls c events after (no_call _) = tt
of_calls c events after (call _ next _ event others made rest) =
    (of_call c event next made, of_calls next others after rest)

-- ---- what is known of a challenge

text_for : (c : NewClient) (o : Option Answered) → IfSome o (IsFine c.preferences c.who)
    → IsText (added_to o)
text_for c None fine = record { nonce = tt; realm = tt; username = tt; userhash = tt }
text_for c (Some x) fine = fine.text

chosen_for : (c : NewClient) (o : Option Answered) → IfSome o (IsFine c.preferences c.who)
    → IfSome o (λ x. IsChosen c.preferences x.challenge)
chosen_for c None fine = tt
chosen_for c (Some x) fine = chosen_of_rule c.preferences c.who x.challenge fine.by_rule

rule_for : (c : NewClient) (o : Option Answered) → IfSome o (IsFine c.preferences c.who)
    → IsByRuleFor c o
rule_for c None fine = tt
rule_for c (Some x) fine = fine.by_rule

laws_of : goal.After-requests_can_be_written → ChallengeLaws
laws_of g = record {
  anew = λ required. g.requests_are_sent_again_for_new_challenges.ensures required true;
  by_rule = g.challenges_are_by_the_rule.ensures.by_rule;
  of_message = g.challenges_are_by_the_rule.ensures.of_message;
}

abbrev who_of : NewClient → Identity
who_of c = long_term c.who c.preferences c.accepts_unsigned

made_is : goal.After-requests_can_be_written → (c : NewClient) → IsClient (made_of c)
made_is g c =
    g.clients_stay_in_order.ensures.begins c.transport c.server c.counts c.requires_fingerprint
    (who_of c) c.form c.understood c.turns c.plan c.seed

-- ---- any

-- the bytes of a request, which are those of one that is not signed if it is not to be
no_identity : (c : NewClient) (method id : ℕ) (body : Body)
    → request_bytes c.form (who_of c) None method id body
    ≡ request_bytes c.form unsigned_identity None method id body
unfolding request_bytes
no_identity c method id body = refl

written_so : (c : NewClient) (options : Option Options) (o : Option Answered) (method id : ℕ)
    (body : Body) (bytes : List ℕ) → (is_unsigned options ≡ true → o ≡ None)
    → request_bytes c.form (identity_by options (who_of c)) o method id body ≡ Ok bytes
    → request_bytes c.form (who_of c) o method id body ≡ Ok bytes
written_so c options o method id body bytes none is = by (is_unsigned options) refl
  where
    by : (b : Bool) → is_unsigned options ≡ b
        → request_bytes c.form (who_of c) o method id body ≡ Ok bytes
    by false on =
        ap (λ (i : Identity). request_bytes c.form i o method id body)
        (sym (for_signed options (who_of c) on))
        ∙ is
    by true off =
        ap (λ (x : Option Answered). request_bytes c.form (who_of c) x method id body) (none off)
        ∙ no_identity c method id body
        ∙ ap (λ (i : Identity). request_bytes c.form i None method id body)
        (sym (for_unsigned options (who_of c) off))
        ∙ ap (λ (x : Option Answered).
        request_bytes c.form (identity_by options (who_of c)) x method id body) (sym (none off))
        ∙ is

abbrev Fine : NewClient → Client → Type 0
Fine c x =
    AreHeld (who_of c) c.form 0 (AreFine c.preferences c.who) (IsFineFor c.preferences c.who) x

module _ (g : goal.After-requests_can_be_written) (c : NewClient)
    (text : IsUtf8 c.who.username) where
  fine_calls : (e : Client) (events : List Event) (after : Client) → IsClient e
      → Calls e events after → Fine c e → Fine c after
  fine_calls e events after is calls held =
      calls_held (who_of c) c.form 0 (AreFine c.preferences c.who) (IsFineFor c.preferences c.who)
      always (fine_rules (laws_of g) c.preferences c.who c.accepts_unsigned text) no_fact
      (λ x n a its there. tt) g.clients_stay_in_order.ensures.stays e events after is calls
      (of_calls e events after calls) held

  fine_poll : (now : ℕ) (e after : Client) (says : Told) → IsClient e → told now e ≡ (says, after)
      → Fine c e → Fine c after
  fine_poll now e after says is said held =
      poll_held (who_of c) c.form 0 (AreFine c.preferences c.who) (IsFineFor c.preferences c.who)
      always (fine_rules (laws_of g) c.preferences c.who c.accepts_unsigned text) no_fact
      (λ x n a its there. tt) now e after says is said tt held

  fine_new : Fine c (made_of c)
  fine_new = record {
    identity_is = refl;
    form_is = refl;
    next_is = omega arith;
    standing = record { current = tt; validated = tt };
    asked = λ id q there. cc;
  }

pub returns-clause-any : goal.returns-clause-any
returns-clause-any g = λ c e later last before between method body options start now text begun low
    built in_time none calls said.
    let number = next_number e in
    let first = started method body options start e in
    let stays = g.clients_stay_in_order.ensures.stays in
    let e_is = stays (made_of c) e before (made_is g c) begun in
    let made : Call e (starts number) first =
    requests e first method body options start in_time none refl in
    let first_is = stays e first (starts number ∷ []) e_is
    (call e first first (starts number) [] made (no_call first)) in
    let later_is = stays first later between first_is calls in
    let fine_e = fine_calls g c text (made_of c) before e (made_is g c) begun (fine_new g c text) in
    let fine_first = fine_calls g c text e (starts number ∷ []) first e_is
    (call e first first (starts number) [] made (no_call first)) fine_e in
    let fine_later = fine_calls g c text first between later first_is calls fine_first in
    let fine_last = fine_poll g c text now later last (transmit number) later_is said fine_later in
    let last_is = stays later last (polled (transmit number) ∷ []) later_is
    (call later last last (polled (transmit number)) []
    (polls later last now (transmit number) said) (no_call last)) in
    let has = g.requests_are_sent_as_they_were_started.ensures.sent e later last between method body
    options start now e_is low none calls said in
    let a = has.asked in
    let t = is_there number a last.requests last_is.requests.one has.there in
    let fine = fine_last.asked t.id (numbered number a) t.there in
    let bytes = has.sent.bytes in
    let id = has.sent.id in
    let stays_so : StaysUnsigned a = fine.unsigned in
    let never = λ (off : is_unsigned options ≡ true).
    stays_so (ap is_unsigned has.sent.options ∙ off) in
    let written : request_bytes c.form (who_of c) a.signed_for method id body ≡ Ok bytes =
    written_so c options a.signed_for method id body bytes (λ off. (never off).current)
    (ap (λ (f : Form). request_bytes f (identity_by options (who_of c)) a.signed_for method id body)
    (sym fine_e.form_is)
    ∙ ap (λ (i : Identity). request_bytes e.form (identity_by options i) a.signed_for method id
    body) (sym fine_e.identity_is)
    ∙ has.sent.written) in
    let ordinary = (g.requests_can_be_written.ensures.bodies body built).0 in
    let texts = text_for c a.signed_for fine.current in
    record {
      asked = a;
      there = has.there;
      options_are = has.sent.options;
      unsigned = never;
      by_rule = rule_for c a.signed_for fine.current;
      earlier = λ rank s at_rank.
          rule_for c s.signed_for
          (sent_there (IsFine c.preferences c.who) rank s a.earlier fine.earlier at_rank);
      bytes = bytes;
      found = has.sent.there;
      reads = g.requests_are_read_back.ensures.as_made c.form c.who c.preferences c.accepts_unsigned
          a.signed_for method id body bytes low ordinary texts written;
      not_bid_down = g.written_requests_are_not_bid_down.ensures c.form c.who c.preferences
          c.accepts_unsigned a.signed_for method id body bytes low ordinary texts
          (chosen_for c a.signed_for fine.current) written;
    }

-- ---- confirms

success_standing : (memory : Memory) (c : Client) (bytes : List ℕ) (now : ℕ) (m : Met)
    (b : Bool) → is_success_class (class_in bytes) ≡ b → (o : Option Answered) → m.signed_for ≡ o
    → confirming (is_success_class (class_in bytes)) c.standing m.signed_for
    ≡ confirming b c.standing o
success_standing memory c bytes now m b is o signed_for =
    ap (λ x. confirming x c.standing m.signed_for) is
    ∙ ap (λ (x : Option Answered). confirming b c.standing x) signed_for

pub returns-clause-confirms : goal.returns-clause-confirms
returns-clause-confirms g = λ memory c from bytes now m x is.
    let comes = heard_comes memory from bytes now c m is.heard_so in
    let after : (received memory from bytes now c).1.standing ≡ after_success c.standing (Some x) =
    ap (λ (a : Answer). a.1.standing) comes
    ∙ ap (λ (d : DecisionSeen). (by_decision memory c now bytes m d).1.standing) is.answers
    ∙ success_standing memory c bytes now m true is.success (Some x) is.signed_for in
    record {
      standing = λ standing.
          ap confirmed after
          ∙ g.successes_weaken_nothing.ensures.standing c.standing x standing;
      stronger = λ other strong.
          ap confirmed after
          ∙ g.successes_weaken_nothing.ensures.stronger c.standing x other strong;
    }

-- ---- since

-- the request that may time out has no message for the confirmed challenge
lets_other : (c : Client) (n : ℕ) (a : AskedSeen)
    → SaysNoTimeout c (ends n (bare_end (how.TimedOut a.drops)))
    → datum_of n c.requests ≡ Some a → is_other c.standing a
lets_other c n a its there = its a there

module _ (g : goal.After-requests_can_be_written) (c : NewClient) (strong : Answered) (e : Client)
  where
    abbrev Strong : Client → Type 0
    Strong x =
        AreHeld (who_of c) c.form 0 (AreStrong strong)
        (IsStrongFor strong e.requests.table.attached) x

    strong_begins : (before : List Event) → Calls (made_of c) before e
        → confirmed e.standing ≡ Some strong → Strong e
    strong_begins before begun is =
        let sound = calls_held (who_of c) c.form 0 IsSound any_asked always
        (sound_rules g.requests_never_turn_to_weaker_messages.ensures (who_of c)) no_fact
        (λ x n a its there. tt) g.clients_stay_in_order.ensures.stays (made_of c) before e
        (made_is g c) begun (of_calls (made_of c) before e begun) (record {
          identity_is = refl;
          form_is = refl;
          next_is = omega arith;
          standing = record { sound = λ x so. cc };
          asked = λ id q there. tt;
        }) in
        record {
          identity_is = sound.identity_is;
          form_is = sound.form_is;
          next_is = sound.next_is;
          standing = record {
            current = sound.standing.sound strong is;
            confirmed_one = its_own (confirmed e.standing) strong is;
          };
          asked = λ id q there. by_time q.datum there refl;
        }

    strong_calls : (later : Client) (events : List Event) → IsClient e
        → (calls : Calls e events later) → OfEachPoll SaysNoTimeout e events later calls
        → Strong e → Strong later
    strong_calls later events is calls usual held =
        calls_held (who_of c) c.form 0 (AreStrong strong)
        (IsStrongFor strong e.requests.table.attached) is_other
        (strong_rules g.requests_never_turn_to_weaker_messages.ensures (who_of c) strong
        e.requests.table.attached) SaysNoTimeout lets_other g.clients_stay_in_order.ensures.stays e
        events later is calls usual held

    strong_poll : (now number : ℕ) (later last : Client) → IsClient later
        → told now later ≡ (transmit number, last) → Strong later → Strong last
    strong_poll now number later last is said held =
        poll_held (who_of c) c.form 0 (AreStrong strong)
        (IsStrongFor strong e.requests.table.attached) is_other
        (strong_rules g.requests_never_turn_to_weaker_messages.ensures (who_of c) strong
        e.requests.table.attached) SaysNoTimeout lets_other now later last (transmit number) is said
        tt held

    -- a request that is so is sent strongly
    since : (number : ℕ) (last : Client) (a : AskedSeen) (id : ℕ) → IsClient e
        → id_at number last.requests.numbers ≡ Some id
        → IsStrongFor strong e.requests.table.attached id (numbered number a)
        → IsStrongSince e strong number last a
    since number last a id is named (by_challenge its) = signed its
    since number last a id is named (by_doubt none many) = in_doubt none many
    since number last a id is named (by_options off never) = unsigned off never
    since number last a id is named (by_time b there same) =
        let before = stored_one id (numbered number b) e.requests is.requests.one there in
        as_before (record {
          before = b;
          there = before.1;
          id = named ∙ sym before.0;
          signed_for = same;
        })

pub returns-clause-since : goal.returns-clause-since
returns-clause-since g = λ c e later last before between strong now number begun is calls usual
    said.
    let stays = g.clients_stay_in_order.ensures.stays in
    let e_is = stays (made_of c) e before (made_is g c) begun in
    let later_is = stays e later between e_is calls in
    let last_is = stays later last (polled (transmit number) ∷ []) later_is
    (call later last last (polled (transmit number)) []
    (polls later last now (transmit number) said) (no_call last)) in
    let held = strong_poll g c strong e now number later last later_is said
    (strong_calls g c strong e later between e_is calls usual
    (strong_begins g c strong e before begun is)) in
    let out = outstanding number last.requests last_is.requests.one
    (g.what_is_to_be_sent_is_there.ensures now number later last later_is said) in
    let t = is_there number out.asked last.requests last_is.requests.one out.there in
    record {
      asked = out.asked;
      there = out.there;
      strength = since g c strong e number last out.asked t.id e_is t.named
          (held.asked t.id (numbered number out.asked) t.there);
    }

pub returns-clause-starts : goal.returns-clause-starts
returns-clause-starts g = λ c e later before between strong begun is calls usual.
    let e_is = g.clients_stay_in_order.ensures.stays (made_of c) e before (made_is g c) begun in
    (strong_calls g c strong e later between e_is calls usual
    (strong_begins g c strong e before begun is)).standing.current

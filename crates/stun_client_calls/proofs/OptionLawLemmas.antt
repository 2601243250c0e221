-- A request that is not signed, and a response from elsewhere.
use Rattle.std.proofs.Common.{◌≡◌, ◌∙◌, ℕ, Bool, true, false, List, Option, Some, None, ap, cond, refl}
use Rattle.std.proofs.Common.{subst, sym}
use Rattle.std.specs.Option.{is_some}
use Rattle.std.specs.Prelude.{not}
use Rattle.std.specs.declared.net.socket_addr.SocketAddr.{SocketAddr}
use Rattle.stun_base.specs.Header.{transaction_id_field}
use Rattle.stun_base.specs.MessageType.{class_in}
use Rattle.stun_base.specs.declared.wire.message_type.MessageClass.{MessageClass}
use Rattle.stun_base.specs.declared.wire.message_type.MessageClass.TheVariants as Classes
use Rattle.stun_types.specs.Message.{refusal}
use Rattle.stun_extra.specs.CanonicalAddress.{is_same_address}
use Rattle.stun_client.specs.Challenges.{Answered}
use Rattle.stun_client.specs.Ids.{id_of}
use Rattle.stun_client.specs.Judging.{Identity, IsEndOrNothing, fault_in, judged, judged_by, unsigned}
use Rattle.stun_client.specs.Judging.{unless_faulty}
use Rattle.stun_client.specs.Answers.{is_answer, is_answer_of}
use Rattle.stun_client.specs.Standing.{StandingSeen, after_success}
use Rattle.stun_client.specs.declared.judged.Distrust.{Distrust}
use Rattle.stun_client.proofs.JudgingLemmas.{earlier_ends_or_nothing}
use Rattle.stun_client_endpoint.specs.Bodies.{Body}
use Rattle.stun_client_endpoint.specs.Written.{request_bytes}
use Rattle.stun_client_endpoint.specs.declared.told.Received.TheVariants.{NotOurs}
use Rattle.stun_client_calls.specs.Clients.{Client, address_for, first_asked, first_message}
use Rattle.stun_client_calls.specs.Clients.{identity_for}
use Rattle.stun_client_calls.specs.Endpoints.{EndSeen}
use Rattle.stun_client_calls.specs.Laws.{IsAnswerOrDrop}
use Rattle.stun_client_calls.specs.Options.{Options, challenge_by, identity_by}
use Rattle.stun_client_calls.specs.OptionLaws.{is_unsigned}
use Rattle.stun_client_calls.specs.Receiving.{Answer, Memory, Met, answered_by, answered_in, by_class}
use Rattle.stun_client_calls.specs.Receiving.{by_met, decision_for, heard_in, if_from, if_method}
use Rattle.stun_client_calls.specs.Receiving.{is_success_class, judge_for, met, received}
use Rattle.stun_client_calls.proofs.DecidingLemmas.{answers_or_drops}
use Rattle.stun_client_calls.proofs.ReceivingLemmas.{if_method_is}

-- ---- nobody

nobody_by : (options : Option Options) (identity : Identity) → is_unsigned options ≡ true
    → identity_by options identity ≡ unsigned
nobody_by None identity is = cc
nobody_by (Some o) identity is = by o.is_signed is
  where
    by : (b : Bool) → not b ≡ true → cond b identity unsigned ≡ unsigned
    by true is = cc
    by false is = refl

no_challenge_by : (options : Option Options) (standing : Option Answered)
    → is_unsigned options ≡ true → challenge_by options standing ≡ None
no_challenge_by None standing is = cc
no_challenge_by (Some o) standing is = by o.is_signed is
  where
    by : (b : Bool) → not b ≡ true → ◌≡◌ {A = Option Answered} (cond b standing None) None
    by true is = cc
    by false is = refl

pub written_unsigned : (c : Client) (method number : ℕ) (body : Body) (options : Option Options)
    → is_unsigned options ≡ true
    → first_message c method number body options
    ≡ request_bytes c.form unsigned None method (id_of c.seed number) body
written_unsigned c method number body options is =
    ap (λ (i : Identity). request_bytes c.form i (challenge_by options c.standing.current) method
    (id_of c.seed number) body) (nobody_by options c.identity is)
    ∙ ap (λ (o : Option Answered). request_bytes c.form unsigned o method (id_of c.seed number) body)
    (no_challenge_by options c.standing.current is)

pub starts_unsigned : (c : Client) (method : ℕ) (body : Body) (options : Option Options) (now : ℕ)
    → is_unsigned options ≡ true
    → ◌≡◌ {A = Option Answered} (first_asked c method body options now).signed_for None
starts_unsigned c method body options now is = no_challenge_by options c.standing.current is

-- ---- responses

-- without credentials a response is believed or dropped
nobody_ends : (required is_current : Bool) (standing : StandingSeen) (before : Option Answered)
    (bytes : List ℕ) → IsEndOrNothing (judged required is_current unsigned standing before bytes)
nobody_ends required true standing before bytes = by (fault_in required bytes)
  where
    by : (o : Option Distrust)
        → IsEndOrNothing (unless_faulty (judged_by unsigned standing before bytes) o)
    by None = tt
    by (Some why) = tt
nobody_ends required false standing before bytes =
    earlier_ends_or_nothing required unsigned standing before bytes

pub not_sent_otherwise : (c : Client) (now : ℕ) (bytes : List ℕ) (m : Met)
    → is_unsigned m.asked.options ≡ true → IsAnswerOrDrop (decision_for c now bytes m)
not_sent_otherwise c now bytes m is =
    answers_or_drops (judge_for c m.asked).limits c.standing now m.asked
    (judged c.requires_fingerprint m.is_current (identity_for c m.asked) c.standing m.signed_for bytes)
    (subst (λ (i : Identity).
    IsEndOrNothing (judged c.requires_fingerprint m.is_current i c.standing m.signed_for bytes))
    (sym (nobody_by m.asked.options c.identity is))
    (nobody_ends c.requires_fingerprint m.is_current c.standing m.signed_for bytes))

pub confirms_nothing : (c : Client) (now : ℕ) (bytes : List ℕ) (m : Met) (end : EndSeen)
    → m.signed_for ≡ None → (answered_by c now bytes m end).1.standing ≡ c.standing
confirms_nothing c now bytes m end none = by (is_success_class (class_in bytes))
  where
    by : (b : Bool) → cond b (after_success c.standing m.signed_for) c.standing ≡ c.standing
    by true = ap (λ (o : Option Answered). after_success c.standing o) none
    by false = refl

-- ---- responses from elsewhere

abbrev not_ours : Client → Answer
not_ours c = (NotOurs, c)

-- what answers a message has its method
has_method : (bytes : List ℕ) (o : Option Met) (m : Met) → if_method bytes o ≡ Some m
    → is_answer m.asked.method bytes ≡ true
has_method bytes o m is =
    by (is_answer m.asked.method bytes) refl
    (subst (λ (x : Option Met). if_method bytes x ≡ Some m) (if_method_is bytes o m is) is)
  where
    by : (b : Bool) → is_answer m.asked.method bytes ≡ b
        → ◌≡◌ {A = Option Met} (cond (is_answer m.asked.method bytes) (Some m) None) (Some m)
        → is_answer m.asked.method bytes ≡ true
    by true answers is = answers
    by false answers is =
        let none : ◌≡◌ {A = Option Met} None (Some m) =
        sym (ap (λ (b : Bool). cond b (Some m) None) answers) ∙ is in
        cc

pub not_heard_elsewhere : (memory : Memory) (from : SocketAddr) (bytes : List ℕ) (now : ℕ)
    (c : Client) (m : Met) → answered_in bytes c ≡ Some m
    → is_same_address from (address_for c m.asked) ≡ false
    → received memory from bytes now c ≡ (NotOurs, c)
not_heard_elsewhere memory from bytes now c m found elsewhere = by (is_some (refusal bytes))
  where
    unheard : heard_in from bytes c ≡ None
    unheard =
        ap (λ (o : Option Met). if_from from c o) found
        ∙ ap (λ (b : Bool). none_or b) elsewhere
      where
        none_or : Bool → Option Met
        none_or b = cond b (Some m) None

    by_its_class : (class : MessageClass) → class_in bytes ≡ class
        → is_answer_of m.asked.method class bytes ≡ true
        → by_class memory from c now bytes class ≡ not_ours c
    by_its_class Classes.Request is answers = refl
    by_its_class Classes.Indication is answers = cc
    by_its_class Classes.Success is answers =
        ap (λ (o : Option Met). by_met memory c now bytes o) unheard
    by_its_class Classes.Error is answers =
        ap (λ (o : Option Met). by_met memory c now bytes o) unheard

    by : (b : Bool)
        → cond b (not_ours c) (by_class memory from c now bytes (class_in bytes)) ≡ not_ours c
    by true = refl
    by false =
        by_its_class (class_in bytes) refl
        (has_method bytes (met (transaction_id_field bytes) c) m found)

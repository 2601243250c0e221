-- The outcome of a datagram at a server (RFC 8489, sections 6.3 and 9.2.4). It is a function of the
-- settings, the users, the source, the time and the datagram, and so of no earlier datagram.
use Rattle.std.specs.Prelude.{ℕ, List, if◌then◌else◌, Option, Some, None}
use Rattle.std.specs.Option.{option_map}
use Rattle.std.specs.declared.net.socket_addr.SocketAddr.{SocketAddr}
use Rattle.std.specs.declared.result.Result.{Result}
use Rattle.std.specs.declared.result.Result.TheVariants.{Ok, Err}
use Rattle.stun_base.specs.MessageType.{class_in}
use Rattle.stun_base.specs.declared.wire.message_type.MessageClass.{MessageClass}
use Rattle.stun_base.specs.declared.wire.message_type.MessageClass.TheVariants.{Request}
use Rattle.stun_base.specs.declared.wire.message_type.MessageClass.TheVariants.{Indication}
use Rattle.stun_base.specs.declared.wire.message_type.MessageClass.TheVariants.{Success, Error}
use Rattle.stun_types.specs.Integrity.{deciding_algorithm}
use Rattle.stun_judging.specs.Verdict.{told_refusal, ClientSeen}
use Rattle.stun_judging.specs.Reading.{reading_of}
use Rattle.stun_judging.specs.Registered.{Registered}
use Rattle.stun_judging.specs.declared.refusal.VerdictRefusal.{VerdictRefusal}
use Rattle.stun_judging.specs.declared.refusal.VerdictRefusal.TheVariants as verdict
use Rattle.stun_extra.specs.Unknown.{unknown_types}
use Rattle.stun_endpoint.specs.Answers.{Signature, challenge_page, with_end}
use Rattle.stun_endpoint.specs.Judged.{Realm, has_other_realm, judged, key_of_client, realm_of_user}
use Rattle.stun_endpoint.specs.Nonces.{current_nonce}
use Rattle.stun_endpoint.specs.Refusals.{code_of, phrase_of}
use Rattle.stun_endpoint.specs.Responding.{OutcomeOf, Responding, drop_reason, ending_by, own_answer}
use Rattle.stun_endpoint.specs.Responding.{refusal_by, reply_by}
pub use Rattle.stun_endpoint.specs.Responding.{Answer, Reply, is_binding, is_empty}
pub use Rattle.stun_endpoint.specs.Responding.{answered, dropped, indicated, requested, responded}
pub use Rattle.stun_endpoint.specs.Responding.{no_message, unless_dropped}
use Rattle.stun_endpoint.specs.Settings.{Settings}
use Rattle.stun_endpoint.specs.declared.received.DropReason.TheVariants.{OtherRealm}
use Rattle.stun_endpoint.specs.declared.received.DropReason.TheVariants.{UnknownAttribute}
use Rattle.stun_endpoint.specs.declared.received.Refusal.{Refusal}
use Rattle.stun_endpoint.specs.declared.received.Refusal.TheVariants as refused

-- an accepted request: the message, its user, and the algorithm that both sides agreed on
pub record AcceptedRequest : Type 0 where
  pub message : List ℕ
  pub client : ClientSeen
  pub reply : Reply

-- the outcome of a datagram
abbrev pub Outcome : Type 0
Outcome = OutcomeOf AcceptedRequest (List ℕ)

-- ---- an accepted request

-- what the settings determine about responses
abbrev pub responding_of : Settings → Responding
responding_of s = record {
  known = s.known;
  software = s.software;
  answers_binding = s.answers_binding;
  requires_fingerprint = s.requires_fingerprint;
}

-- the signature of the responses to an accepted request: the integrity attribute that the request
-- has, under the key of its user (section 9.2.4)
abbrev pub signature_for : List ℕ → List ℕ → Option Signature
signature_for key bytes =
    option_map (λ a. record { algorithm = a; key = key }) (deciding_algorithm bytes)

-- an accepted request gets the server's own response, or else is returned to the caller
abbrev pub or_handed : Settings → List ℕ → SocketAddr → List ℕ → ClientSeen → Option Answer
    → Outcome
or_handed s key from bytes client (Some answer) = answered answer
or_handed s key from bytes client None = requested (record {
  message = bytes;
  client = client;
  reply = reply_by (responding_of s) (signature_for key bytes) from bytes;
})

abbrev pub outcome_of_accepted : Settings → List ℕ → SocketAddr → List ℕ → ClientSeen → Outcome
outcome_of_accepted s key from bytes client =
    or_handed s key from bytes client
    (own_answer (responding_of s) (signature_for key bytes) from bytes)

-- ---- a refused request

-- 401 and 438: an error response that asks for credentials, with the current nonce
unfoldable pub challenge_answer : Settings → Refusal → List ℕ → SocketAddr → List ℕ → Answer
challenge_answer s refusal nonce from request = record {
  to = from;
  refusal = Some refusal;
  bytes = with_end (ending_by (responding_of s) None request)
      (challenge_page s nonce request (code_of refusal) (phrase_of refusal));
}

-- the response to a refused request
abbrev pub answer_to_refused : Settings → List ℕ → SocketAddr → List ℕ → VerdictRefusal → Answer
answer_to_refused s nonce from bytes verdict.Unauthorized =
    challenge_answer s refused.Unauthenticated nonce from bytes
answer_to_refused s nonce from bytes verdict.StaleNonce =
    challenge_answer s refused.StaleNonce nonce from bytes
answer_to_refused s nonce from bytes verdict.BadRequest =
    refusal_by (responding_of s) refused.BadRequest from bytes

-- a refused request gets a response. This is a 400 only if the request is malformed, or has the
-- current nonce and algorithms that were not offered with this nonce
abbrev pub refused_with : Settings → List ℕ → SocketAddr → List ℕ → VerdictRefusal → Outcome
refused_with s nonce from bytes refusal =
    answered (answer_to_refused s nonce from bytes (told_refusal nonce (reading_of bytes) refusal))

-- ---- a datagram

abbrev pub by_verdict : Settings → Realm → SocketAddr → ℕ → List ℕ
    → Result ClientSeen VerdictRefusal
    → Outcome
by_verdict s realm from now bytes (Ok client) =
    outcome_of_accepted s (key_of_client realm client) from bytes client
by_verdict s realm from now bytes (Err refusal) =
    refused_with s (current_nonce s from now) from bytes refusal

-- the outcome of a datagram by its class. A request is judged, and then its attributes are checked
-- (section 6.3.1). Long-term credentials do not protect indications (section 9.2). An indication
-- whose attributes are not understood is dropped (section 6.3.2). A response is for a client on the
-- same socket
abbrev pub by_class : Settings → Realm → SocketAddr → ℕ → List ℕ → MessageClass → Outcome
by_class s realm from now bytes Request =
    by_verdict s realm from now bytes (judged s realm from now (reading_of bytes))
by_class s realm from now bytes Indication =
    if is_empty (unknown_types s.known bytes) then indicated bytes else dropped UnknownAttribute
by_class s realm from now bytes Success = responded bytes
by_class s realm from now bytes Error = responded bytes

-- the outcome of a datagram by what the server judges by
abbrev pub received_by : Settings → Realm → SocketAddr → ℕ → List ℕ → Outcome
received_by s realm from now bytes =
    unless_dropped (by_class s realm from now bytes (class_in bytes))
    (drop_reason s.requires_fingerprint bytes)

-- the outcome of a datagram at a server that is passed a table of users, one user, or nobody. Users
-- of another realm have keys for that realm, so the server drops each datagram that it is passed
-- with them
abbrev pub received_for : Settings → Option Registered → SocketAddr → ℕ → List ℕ → Outcome
received_for s users from now bytes =
    if has_other_realm s users then dropped OtherRealm
    else received_by s (realm_of_user s users) from now bytes

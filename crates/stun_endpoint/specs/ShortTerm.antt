-- The outcome of a datagram at a server with short-term credentials (RFC 8489, section 9.1.3). It
-- is a function of what the server understands, the users, the source and the datagram, and so of
-- no earlier datagram.
use Rattle.std.specs.Prelude.{◌≡◌, ℕ, List, if◌then◌else◌, Option, Some, None}
use Rattle.std.specs.FinMap as map
use Rattle.std.specs.Option.{is_none}
use Rattle.std.specs.declared.net.socket_addr.SocketAddr.{SocketAddr}
use Rattle.std.specs.declared.result.Result.{Result}
use Rattle.std.specs.declared.result.Result.TheVariants.{Ok, Err}
use Rattle.stun_base.specs.Attributes.{USERNAME}
use Rattle.stun_base.specs.MessageType.{class_in}
use Rattle.stun_base.specs.declared.keys.algorithm.IntegrityAlgorithm.{IntegrityAlgorithm}
use Rattle.stun_base.specs.declared.wire.message_type.MessageClass.{MessageClass}
use Rattle.stun_base.specs.declared.wire.message_type.MessageClass.TheVariants.{Request}
use Rattle.stun_base.specs.declared.wire.message_type.MessageClass.TheVariants.{Indication}
use Rattle.stun_base.specs.declared.wire.message_type.MessageClass.TheVariants.{Success, Error}
use Rattle.stun_types.specs.Integrity.{deciding, first_of, verified_algorithm}
use Rattle.stun_types.specs.Limits.{USERNAME_LIMIT}
use Rattle.stun_types.specs.Text.{text_of}
use Rattle.stun_types.specs.Visible.{visible}
use Rattle.stun_types.specs.Walk.{Member}
use Rattle.stun_judging.specs.Registered.{name_cmp}
use Rattle.stun_judging.specs.Verdict.{ClientSeen}
use Rattle.stun_extra.specs.Unknown.{unknown_types}
use Rattle.stun_endpoint.specs.Answers.{Signature}
use Rattle.stun_endpoint.specs.Received.{AcceptedRequest}
use Rattle.stun_endpoint.specs.Responding.{Answer, OutcomeOf, Responding, drop_reason, is_empty}
use Rattle.stun_endpoint.specs.Responding.{own_answer, refusal_by, reply_by}
pub use Rattle.stun_endpoint.specs.Responding.{answered, dropped, indicated, requested, responded}
pub use Rattle.stun_endpoint.specs.Responding.{unless_dropped}
use Rattle.stun_endpoint.specs.declared.received.DropReason.TheVariants.{NotSigned}
use Rattle.stun_endpoint.specs.declared.received.DropReason.TheVariants.{UnknownAttribute}
use Rattle.stun_endpoint.specs.declared.received.Refusal.{Refusal}
use Rattle.stun_endpoint.specs.declared.received.Refusal.TheVariants.{BadRequest}
use Rattle.stun_endpoint.specs.declared.received.Refusal.TheVariants.{Unauthenticated}

-- the key of each user, by name: the bytes of the password (section 9.1.1)
abbrev pub Keys : Type 0
Keys = map.FinMap name_cmp (List ℕ)

-- ---- who has signed a message

-- a user whose key signed a message, and the algorithm of the signature
pub record Signer : Type 0 where
  pub client : ClientSeen
  pub key : List ℕ

-- the digest must be that under the user's key
abbrev pub by_digest : List ℕ → List ℕ → Option IntegrityAlgorithm → Result Signer Refusal
by_digest name key None = Err Unauthenticated
by_digest name key (Some algorithm) =
    Ok (record { client = record { name = name; algorithm = algorithm }; key = key })

-- before that, the name must be a user's
abbrev pub by_key : List ℕ → List ℕ → Option (List ℕ) → Result Signer Refusal
by_key bytes name None = Err Unauthenticated
by_key bytes name (Some key) = by_digest name key (verified_algorithm bytes key)

-- the name in USERNAME. A text that is not a name belongs to no user
abbrev pub name_or_refusal : Option (List ℕ) → Result (List ℕ) Refusal
name_or_refusal None = Err Unauthenticated
name_or_refusal (Some name) = Ok name

-- before that, there must be a USERNAME, of which the first visible one counts
abbrev pub named_or_refusal : Option Member → Result (List ℕ) Refusal
named_or_refusal None = Err BadRequest
named_or_refusal (Some m) = name_or_refusal (text_of USERNAME USERNAME_LIMIT m.1)

-- whom a message names
abbrev pub named_by : List ℕ → Result (List ℕ) Refusal
named_by bytes = named_or_refusal (first_of USERNAME (visible bytes))

abbrev pub signer_named : Keys → List ℕ → Result (List ℕ) Refusal → Result Signer Refusal
signer_named users bytes (Err refusal) = Err refusal
signer_named users bytes (Ok name) = by_key bytes name (map.get users name)

-- who has signed a message, or the first reason that applies why nobody has. First of all the
-- message must have MESSAGE-INTEGRITY or MESSAGE-INTEGRITY-SHA256
abbrev pub signer_of : Keys → List ℕ → Result Signer Refusal
signer_of users bytes =
    if is_none (deciding bytes) then Err BadRequest else signer_named users bytes (named_by bytes)

-- `signer_of` as a conjunction: the message names the user, whose key verifies its digest
pub record IsSignedBy (users : Keys) (bytes : List ℕ) (signer : Signer) : Type 0 where
  pub name : named_by bytes ≡ Ok signer.client.name
  pub key : map.get users signer.client.name ≡ Some signer.key
  pub digest : verified_algorithm bytes signer.key ≡ Some signer.client.algorithm

-- ---- the outcome of a datagram

-- an indication, and who has signed it
pub record SignedIndication : Type 0 where
  pub message : List ℕ
  pub client : ClientSeen

abbrev pub ShortTermOutcome : Type 0
ShortTermOutcome = OutcomeOf AcceptedRequest SignedIndication

-- the signature of the responses to a signed request: the same key and algorithm
abbrev pub signature_of : Signer → Signature
signature_of signer = record { algorithm = signer.client.algorithm; key = signer.key }

-- an accepted request gets the server's own response, or else is returned to the caller
abbrev pub or_handed : Responding → SocketAddr → List ℕ → Signer → Option Answer
    → ShortTermOutcome
or_handed s from bytes signer (Some answer) = answered answer
or_handed s from bytes signer None = requested (record {
  message = bytes;
  client = signer.client;
  reply = reply_by s (Some (signature_of signer)) from bytes;
})

-- a request that is not signed by a user is refused, and the response is not signed
abbrev pub by_signer : Responding → SocketAddr → List ℕ → Result Signer Refusal
    → ShortTermOutcome
by_signer s from bytes (Err refusal) = answered (refusal_by s refusal from bytes)
by_signer s from bytes (Ok signer) =
    or_handed s from bytes signer (own_answer s (Some (signature_of signer)) from bytes)

-- an indication must be signed too, and is dropped if a request with the same attributes would be
-- refused. Then its attributes must be understood (section 6.3.2)
abbrev pub indicated_by : Responding → List ℕ → Result Signer Refusal → ShortTermOutcome
indicated_by s bytes (Err refusal) = dropped (NotSigned refusal)
indicated_by s bytes (Ok signer) =
    if is_empty (unknown_types s.known bytes)
    then indicated (record { message = bytes; client = signer.client })
    else dropped UnknownAttribute

-- a response is for a client on the same socket
abbrev pub by_class_signed : Responding → Keys → SocketAddr → List ℕ → MessageClass
    → ShortTermOutcome
by_class_signed s users from bytes Request = by_signer s from bytes (signer_of users bytes)
by_class_signed s users from bytes Indication = indicated_by s bytes (signer_of users bytes)
by_class_signed s users from bytes Success = responded bytes
by_class_signed s users from bytes Error = responded bytes

-- the outcome of a datagram
abbrev pub received_signed : Responding → Keys → SocketAddr → List ℕ → ShortTermOutcome
received_signed s users from bytes =
    unless_dropped (by_class_signed s users from bytes (class_in bytes)) (drop_reason s.requires_fingerprint bytes)

-- The words of the three sentences of Headline.antt, and where each of them is defined.

-- ---- what the sentences rest on, one step down, with the file in specs/
-- - realm, current nonce, user, algorithms: `IsAccepted`, `current_place`, `named_user`,
--   `agreement` (stun_auth Server)
-- - what a message says, and its digest: `reading_of`, `verified_under` (stun_auth Reading)
-- - the attribute that decides: `deciding` (stun_types Integrity)
-- - HMAC: `digest`, `hmac` (stun_base Algorithm, Hmac)
-- - an address's own calls: `concerns`, `own_calls` (Isolation)
-- - what they leave, by the replies to them: `sight_by_replies` (Replies)
-- - the run of a server: `replies` (Serving)
-- - strongest that both support: `IsStrongestShared` (Best)
-- - ready: `IsReady` (Honest)
-- - the run of a driven agent: `IsDriven`, `Run`, `Turns`, `Turn` (Run)
-- - plan, prefix sums: `plan`, `transmission` (Schedule)
-- - timeouts, slots, end: `sum_of_timeouts`, `slots`, `planned_end` (stun_agent Timing)
-- - undisturbed, asks: `IsUndisturbed`, `IsAimedAt`, `Asks` (Schedule)

-- ---- the library of the toolchain
pub use Rattle.std.specs.Prelude.{ℕ, false, List, filter, length, slice_get, take, Some, None}
pub use Rattle.std.specs.List.{AllByRecursion}
pub use Rattle.std.specs.Option.{IsSome}
pub use Rattle.std.specs.Global.{Vec}
pub use Rattle.std.specs.declared.net.socket_addr.SocketAddr.{SocketAddr}
pub use Rattle.std.specs.declared.result.Result.{Result}
pub use Rattle.std.specs.declared.result.Result.TheVariants.{Ok, Err}
-- ---- messages, keys and digests
pub use Rattle.stun_base.specs.Algorithm.{digest}
pub use Rattle.stun_base.specs.Credentials.{NameAndPassword}
pub use Rattle.stun_base.specs.Header.{HEADER_LENGTH, header_refusal, transaction_id_field}
pub use Rattle.stun_base.specs.Keys.{long_term_key}
pub use Rattle.stun_base.specs.MessageType.{class_in, is_response}
pub use Rattle.stun_base.specs.declared.keys.algorithm.IntegrityAlgorithm.{IntegrityAlgorithm}
pub use Rattle.stun_base.specs.declared.wire.message_type.MessageClass.TheVariants.{Request}
pub use Rattle.stun_types.specs.Attribute.{TypedValue}
pub use Rattle.stun_types.specs.Integrity.{deciding, integrity_algorithm}
pub use Rattle.stun_types.specs.Limits.{TEXT_LIMIT, USERNAME_LIMIT}
pub use Rattle.stun_types.specs.Message.{with_length}
-- ---- server and client
pub use Rattle.stun_auth.specs.declared.client.answer.LongTermClientAuthErrorReason.TheVariants.{
  UnsupportedFeature,
}
pub use Rattle.stun_judging.specs.Algorithms.{algorithms_of}
pub use Rattle.stun_auth.specs.Client.{Challenge, ClientState, authenticated, initial}
pub use Rattle.stun_judging.specs.Reading.{Reading, verified_under}
pub use Rattle.stun_auth.specs.Seen.{PlaceSeen}
pub use Rattle.stun_auth.specs.Server.{Sight}
pub use Rattle.stun_auth.specs.Validation.{AcceptedWith, Answer, ServerSeen, sight}
pub use Rattle.stun_proto.specs.declared.replay.call.ServerCall.{ServerCall}
pub use Rattle.stun_proto.specs.declared.replay.call.ServerCall.TheVariants.{Validate}
pub use Rattle.stun_proto.specs.declared.replay.negotiation.NegotiateError.{NegotiateError}
pub use Rattle.stun_proto.specs.declared.replay.negotiation.NegotiateError.TheVariants.{Memory}
pub use Rattle.stun_proto.specs.declared.replay.negotiation.Outcome.{Outcome}
pub use Rattle.stun_proto.specs.declared.replay.negotiation.Outcome.TheVariants.{Validated}
pub use Rattle.stun_proto.specs.declared.replay.negotiation.Outcome.TheVariants.{ClientRefused}
pub use Rattle.stun_proto.specs.Best.{HashIsRefused, IsShared, IsStrongestShared}
pub use Rattle.stun_proto.specs.Honest.{IsReady}
pub use Rattle.stun_proto.specs.Isolation.{own_calls, own_replies}
pub use Rattle.stun_proto.specs.Negotiation.{Meeting}
pub use Rattle.stun_proto.specs.Replies.{Reads, sight_by_replies}
pub use Rattle.stun_proto.specs.Serving.{Reply}
-- ---- the agent
pub use Rattle.stun_agent.specs.Agent.{Agent}
pub use Rattle.stun_agent.specs.Timing.{planned_end}
pub use Rattle.stun_agent.specs.Transactions.{at}
pub use Rattle.stun_proto.specs.declared.replay.event.AgentEvent.{AgentEvent}
pub use Rattle.stun_proto.specs.declared.replay.event.AgentEvent.TheVariants.{SendRequest}
pub use Rattle.stun_proto.specs.RunLaws.{requester}
pub use Rattle.stun_proto.specs.Schedule.{Requester, Asks, IsUndisturbed, plan, steps_until}
pub use Rattle.stun_proto.specs.Steps.{Step, is_of}

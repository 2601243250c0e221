-- What the sides of a meeting answer to the first messages, in the code's types (RFC 8489, sections
-- 9.2.4 and 9.2.5).
use Rattle.std.specs.Prelude.{Option, Some, None}
use Rattle.std.specs.declared.result.Result.{Result}
use Rattle.std.specs.declared.result.Result.TheVariants.{Ok, Err}
use Rattle.stun_base.specs.declared.keys.algorithm.IntegrityAlgorithm.{IntegrityAlgorithm}
use Rattle.stun_auth.specs.ClientStep.{ClientAnswer}
use Rattle.stun_auth.specs.Validation.{Answer}
use Rattle.stun_auth.specs.declared.client.answer.LongTermClientAuthErrorReason.TheVariants
    as Client
use Rattle.stun_auth.specs.declared.client.answer.LongTermClientValidation.TheVariants as Read
use Rattle.stun_auth.specs.declared.server.reason.LongTermServerValidation.TheVariants.{Validated}
use Rattle.stun_auth.specs.declared.server.reason.LongTermServerAuthErrorReason.{
  LongTermServerAuthErrorReason,
}
use Rattle.stun_auth.specs.declared.server.reason.LongTermServerAuthErrorReason.TheVariants.{
  Unauthorized,
}
use Rattle.stun_proto.specs.declared.replay.negotiation.Outcome.{Outcome}
use Rattle.stun_proto.specs.declared.replay.negotiation.Outcome.TheVariants.{AlreadyValidated}
use Rattle.stun_proto.specs.declared.replay.negotiation.Outcome.TheVariants.{ServerRefused}
use Rattle.stun_proto.specs.declared.replay.negotiation.Outcome.TheVariants.{ClientRefused}

-- the answer: the algorithm of an accepted request, or the reason of a refusal
abbrev pub answer_of : Result IntegrityAlgorithm LongTermServerAuthErrorReason → Answer
answer_of (Ok algorithm) = Ok (Validated algorithm)
answer_of (Err reason) = Err reason

-- the outcome if a first request does not need a challenge
abbrev pub end_of_first : Result IntegrityAlgorithm LongTermServerAuthErrorReason → Option Outcome
end_of_first (Ok algorithm) = Some (AlreadyValidated algorithm)
end_of_first (Err Unauthorized) = None
end_of_first (Err reason) = Some (ServerRefused reason)

-- the outcome if a client does not accept a challenge
abbrev pub end_of_challenge : ClientAnswer → Option Outcome
end_of_challenge (Ok (Read.ResendRequest a)) = None
end_of_challenge (Ok (Read.Validated a)) = Some (ClientRefused Client.Unauthorized)
end_of_challenge (Err reason) = Some (ClientRefused reason)

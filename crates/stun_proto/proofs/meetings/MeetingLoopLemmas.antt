-- From the last call to the first: what is left by the clauses of the calls is what is left of the
-- meeting.
use Rattle.std.proofs.Common.{◌≡◌, true, sym, subst, ap, ◌∙◌, Ok, Err}
use Rattle.std.specs.declared.result.Result.{Result}
use Rattle.stun_base.specs.declared.keys.algorithm.IntegrityAlgorithm.{IntegrityAlgorithm}
use Rattle.stun_base.specs.declared.wire.error.StunWriteError.{StunWriteError}
use Rattle.stun_auth.specs.declared.client.answer.LongTermClientValidation.TheVariants as Read
use Rattle.stun_auth.specs.declared.server.reason.LongTermServerAuthErrorReason.TheVariants
    as Server
use Rattle.stun_auth.specs.declared.server.reason.LongTermServerValidation.TheVariants as Served
use Rattle.stun_judging.specs.Additions.{Page}
use Rattle.stun_auth.specs.Client.{ClientState, initial}
use Rattle.stun_auth.specs.ClientStep.{ClientAnswer, client_step}
use Rattle.stun_judging.specs.Reading.{reading_of}
use Rattle.stun_auth.specs.ServerSigning.{after_signing}
use Rattle.stun_auth.specs.Validation.{Answer, ServerSeen}
use Rattle.stun_proto.specs.Honest.{ComesTo, StrongestIsAgreed, strongest}
use Rattle.stun_proto.specs.MeetingLoop.{ChallengeRead, ChallengeSigned, FirstRead}
use Rattle.stun_proto.specs.MeetingLoop.{FirstSigned, MeetingsAgree, MeetingsAreNegotiated}
use Rattle.stun_proto.specs.MeetingLoop.{SecondRead, SecondSigned, SuccessSigned}
use Rattle.stun_proto.specs.Negotiation.{Meeting, Met, client_request, challenge_answered}
use Rattle.stun_proto.specs.Negotiation.{challenge_read}
use Rattle.stun_proto.specs.Negotiation.{challenge_sent, ending_with, first_answered, first_asked}
use Rattle.stun_proto.specs.Negotiation.{outcome_of_success, server_response, second_answered}
use Rattle.stun_proto.specs.Negotiation.{second_asked, second_read, success_sent, ending_unwritten}
use Rattle.stun_proto.specs.Serving.{after_calls}
use Rattle.stun_proto.specs.Signing.{if_signed}
use Rattle.stun_proto.proofs.server_runs.ServerLoopLemmas.{calls_are_served}

module _ (m : Meeting) where
  success_signed : (a : IntegrityAlgorithm) (state : ClientState) (server after : ServerSeen)
      (signed : Result Page StunWriteError) (met : Met)
      → after ≡ if_signed signed server (after_signing server m.from true)
      → SuccessSigned m a state signed after met → met ≡ success_sent m a state server signed
  success_signed a state server after (Err reason) met left is = is
      ∙ ap (ending_unwritten reason state) left
  success_signed a state server after (Ok page) met left (given, then, reads, is) =
      is ∙ (λ i. ending_with (outcome_of_success a (reads.answered i)) (reads.left i) (left i))

  second_read_left : (state : ClientState) (server : ServerSeen) (given : Answer) (met : Met)
      → SecondRead m state given server met → met ≡ second_answered m state server given
  unfolding server_response
  second_read_left state server (Err reason) met is = is
  second_read_left state server (Ok (Served.Validated a)) met (signed, after, signs, others) =
      success_signed a state server after signed met signs.left others
      ∙ ap (success_sent m a state server) signs.answered

  second_signed : (state : ClientState) (server : ServerSeen) (signed : Result Page StunWriteError)
      (met : Met) → SecondSigned m state signed server met
      → met ≡ second_asked m state server signed
  second_signed state server (Err reason) met is = is
  second_signed state server (Ok page) met (told, called, made, given, after, reads, others) =
      second_read_left state after given met others
      ∙ (λ i. second_answered m state (reads.left i) (reads.answered i))
      ∙ ap (λ s. second_read m state s (reading_of page.bytes))
      (calls_are_served server called m.second.before told made).1

  challenge_read_left : (state : ClientState) (server : ServerSeen) (given : ClientAnswer)
      (met : Met) → ChallengeRead m given state server met
      → met ≡ challenge_answered m server state given
  unfolding client_request
  challenge_read_left state server (Ok (Read.ResendRequest a)) met (signed, signs, others) =
      second_signed state server signed met others ∙ ap (second_asked m state server) signs
  challenge_read_left state server (Ok (Read.Validated a)) met is = is
  challenge_read_left state server (Err reason) met is = is

  challenge_signed : (state : ClientState) (server after : ServerSeen)
      (signed : Result Page StunWriteError) (met : Met)
      → after ≡ if_signed signed server (after_signing server m.from true)
      → ChallengeSigned m state signed after met → met ≡ challenge_sent m state server signed
  challenge_signed state server after (Err reason) met left is = is
      ∙ ap (ending_unwritten reason state) left
  challenge_signed state server after (Ok page) met left
      (told, called, made, given, then, reads, others) =
      challenge_read_left then called given met others
      ∙ (λ i. challenge_answered m called (reads.left i) (reads.answered i))
      ∙ ap (λ s. challenge_read m s (client_step m.settings state (reading_of page.bytes)))
      ((calls_are_served after called m.first.before told made).1 ∙ ap
      (λ s. after_calls s m.first.before) left)

  first_read_left : (state : ClientState) (server : ServerSeen) (given : Answer) (met : Met)
      → FirstRead m state given server met → met ≡ first_answered m state server given
  unfolding server_response
  first_read_left state server (Ok (Served.Validated a)) met is = is
  first_read_left state server (Err Server.Unauthorized) met (signed, after, signs, others) =
      challenge_signed state server after signed met signs.left others
      ∙ ap (challenge_sent m state server) signs.answered
  first_read_left state server (Err Server.IntegrityFailed) met is = is
  first_read_left state server (Err Server.UnsupportedFeature) met is = is
  first_read_left state server (Err Server.BadRequest) met is = is
  first_read_left state server (Err Server.StaleNonce) met is = is
  first_read_left state server (Err Server.OutOfMemory) met is = is

  first_signed : (state : ClientState) (server : ServerSeen) (signed : Result Page StunWriteError)
      (met : Met) → FirstSigned m state signed server met → met ≡ first_asked m state server signed
  first_signed state server (Err reason) met is = is
  first_signed state server (Ok page) met (given, after, reads, others) =
      first_read_left state after given met others
      ∙ (λ i. first_answered m state (reads.left i) (reads.answered i))

pub meetings_are_negotiated : MeetingsAreNegotiated
unfolding client_request
meetings_are_negotiated m state server met (signed, signs, others) = first_signed m state server
    signed met others ∙ ap (first_asked m state server) signs

pub meetings_agree : StrongestIsAgreed → MeetingsAgree
meetings_agree law m who server met texts honest have_met =
    subst (ComesTo m.from who (strongest m server))
    (sym (meetings_are_negotiated m initial server met have_met))
    (law m who server texts honest)

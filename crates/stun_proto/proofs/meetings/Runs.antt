-- How a run of a meeting ends, or goes on.
use Rattle.std.proofs.Common.{◌≡◌, ◌≢◌, Option, Some, None, refl, sym, ◌∙◌, ap, subst, Ok, Err}
use Rattle.std.specs.Prelude.{IfSome, IsErrAnd, MatchOption}
use Rattle.std.specs.declared.result.Result.{Result}
use Rattle.stun_base.specs.declared.keys.algorithm.IntegrityAlgorithm.{IntegrityAlgorithm}
use Rattle.stun_base.specs.declared.wire.error.StunWriteError.{StunWriteError}
use Rattle.stun_base.specs.declared.wire.error.StunWriteError.TheVariants.{NotAllowed}
use Rattle.stun_base.specs.declared.wire.error.StunWriteError.TheVariants.{MessageIntegrityExists}
use Rattle.stun_base.specs.declared.wire.error.StunWriteError.TheVariants.{AttributeExists}
use Rattle.stun_base.specs.declared.wire.error.StunWriteError.TheVariants.{TooLarge, TooSmall}
use Rattle.stun_base.specs.declared.wire.error.StunWriteError.TheVariants.{IntegrityFailed}
use Rattle.stun_base.specs.declared.wire.error.StunWriteError.TheVariants.{OutOfMemory}
use Rattle.stun_types.specs.WriteVec.{Written}
use Rattle.stun_auth.specs.declared.client.answer.LongTermClientValidation.TheVariants as Read
use Rattle.stun_auth.specs.declared.server.reason.LongTermServerAuthErrorReason.{
  LongTermServerAuthErrorReason,
}
use Rattle.stun_auth.specs.declared.server.reason.LongTermServerAuthErrorReason.TheVariants
    as Server
use Rattle.stun_judging.specs.Additions.{Page, UnlessMemory}
use Rattle.stun_auth.specs.Client.{ClientState}
use Rattle.stun_auth.specs.ClientStep.{ClientAnswer, IsResend}
use Rattle.stun_auth.specs.Validation.{ServerSeen}
use Rattle.stun_proto.specs.code.FirstAnswers.{answer_of, end_of_challenge, end_of_first}
use Rattle.stun_proto.specs.code.Sides.{IsRun}
use Rattle.stun_proto.specs.Negotiating.{error_of_write, met_by}
use Rattle.stun_proto.specs.Negotiation.{Meeting, Met, client_request, challenge_answered}
use Rattle.stun_proto.specs.Negotiation.{ending_with}
use Rattle.stun_proto.specs.Negotiation.{first_answered, second_asked, ending_unwritten}
use Rattle.stun_proto.specs.Sides.{Sides, sides}
use Rattle.stun_proto.specs.declared.replay.negotiation.NegotiateError.{NegotiateError}
use Rattle.stun_proto.specs.declared.replay.negotiation.NegotiateError.TheVariants.{Memory, Write}
use Rattle.stun_proto.specs.declared.replay.negotiation.Outcome.{Outcome}

module _ {client : ClientState} {server : ServerSeen} where
  -- with an outcome
  pub ends : (outcome : Outcome) {met : Met} (P : Sides → Type 0)
      → ending_with outcome client server ≡ met → IsRun (Ok outcome) client server met P
  ends outcome P is = record { steps = is; memory = λ h. cc; write = λ h. cc }

  -- an allocation fails
  pub stops : (r : Result Outcome NegotiateError) (met : Met) (P : Sides → Type 0)
      → IsErrAnd r (λ e. e ≡ Memory) → P (sides client server) → IsRun r client server met P
  stops (Ok outcome) met P failed at = absurd failed
  stops (Err e) met P failed at =
      record {
        steps = subst (λ x. IfSome (met_by (Err x) client server) (λ end. end ≡ met))
            (sym failed) tt;
        memory = λ h. at;
        write = λ h. cc;
      }

  -- a signing is refused, where that ends a run
  pub refused : (r : Result Outcome NegotiateError) (reason : StunWriteError)
      (o : Result Page StunWriteError) (chain : Result Page StunWriteError → Met)
      (P : Sides → Type 0)
      → IsErrAnd r (λ e. e ≡ error_of_write reason)
      → UnlessMemory {V = Written} (Err reason) (Err reason ≡ o) (Unit {0})
      → ((x : StunWriteError) → chain (Err x) ≡ ending_unwritten x client server)
      → P (sides client server)
      → IsRun r client server (chain o) P
  refused (Ok outcome) reason o chain P failed told ends at = absurd failed
  refused (Err e) reason o chain P failed told ends at =
      subst (λ x. IsRun (Err x) client server (chain o) P) (sym failed) (by_reason reason told)
    where
      written : (x : StunWriteError) → (x ≡ OutOfMemory → ⊥) → Err x ≡ o
          → IsRun (Err (Write x)) client server (chain o) P
      written x other is = record {
        steps = sym (ends x) ∙ ap chain is;
        memory = λ h. cc;
        write = λ h. other (let inner : Write x ≡ Write OutOfMemory = cc in cc);
      }

      by_reason : (x : StunWriteError) → UnlessMemory {V = Written} (Err x) (Err x ≡ o) (Unit {0})
          → IsRun (Err (error_of_write x)) client server (chain o) P
      by_reason NotAllowed h = written NotAllowed (λ x. cc) h
      by_reason MessageIntegrityExists h = written MessageIntegrityExists (λ x. cc) h
      by_reason (AttributeExists kind) h = written (AttributeExists kind) (λ x. cc) h
      by_reason TooLarge h = written TooLarge (λ x. cc) h
      by_reason TooSmall h = written TooSmall (λ x. cc) h
      by_reason IntegrityFailed h = written IntegrityFailed (λ x. cc) h
      by_reason OutOfMemory h = stops (Err Memory) (chain o) P refl at

  -- it goes on as a later one
  pub goes_on : (r : Result Outcome NegotiateError) {met later : Met} (P Q : Sides → Type 0)
      → later ≡ met → ((x : Sides) → Q x → P x) → IsRun r client server later Q
      → IsRun r client server met P
  goes_on r P Q is further run = record {
    steps = subst (λ x. IfSome (met_by r client server) (λ end. end ≡ x)) is run.steps;
    memory = λ h. further (sides client server) (run.memory h);
    write = run.write;
  }

-- a signing that is refused is not a failed allocation, if memory is granted
pub not_memory : (r : Result Outcome NegotiateError) (reason : StunWriteError)
    → IsErrAnd r (λ e. e ≡ error_of_write reason)
    → UnlessMemory {V = Written} (Err reason) (Unit {0}) ⊥ → r ≢ Err Memory
not_memory (Ok outcome) reason failed told = absurd failed
not_memory (Err e) reason failed told =
    subst (λ x. failed_with x ≢ Err Memory) (sym failed) (by_reason reason told)
  where
    failed_with : NegotiateError → Result Outcome NegotiateError
    failed_with x = Err x

    by_reason : (x : StunWriteError) → UnlessMemory {V = Written} (Err x) (Unit {0}) ⊥
        → failed_with (error_of_write x) ≢ Err Memory
    by_reason NotAllowed h = λ is. cc
    by_reason MessageIntegrityExists h = λ is. cc
    by_reason (AttributeExists kind) h = λ is. cc
    by_reason TooLarge h = λ is. cc
    by_reason TooSmall h = λ is. cc
    by_reason IntegrityFailed h = λ is. cc
    by_reason OutOfMemory h = absurd h

-- ---- the answers that end a run, and those that do not
module _ (m : Meeting) (state : ClientState) (server : ServerSeen) where
  pub first_ends : (given : Result IntegrityAlgorithm LongTermServerAuthErrorReason)
      → MatchOption (end_of_first given) (Err Server.Unauthorized ≡ answer_of given)
      (λ outcome. ending_with outcome state server
      ≡ first_answered m state server (answer_of given))
  first_ends (Ok a) = refl
  first_ends (Err Server.Unauthorized) = refl
  first_ends (Err Server.IntegrityFailed) = refl
  first_ends (Err Server.UnsupportedFeature) = refl
  first_ends (Err Server.BadRequest) = refl
  first_ends (Err Server.StaleNonce) = refl
  first_ends (Err Server.OutOfMemory) = refl

  pub challenge_ends : (given : ClientAnswer)
      → MatchOption (end_of_challenge given)
      (IsResend given
      × (second_asked m state server (client_request m.second.id state)
      ≡ challenge_answered m server state given))
      (λ outcome. ending_with outcome state server ≡ challenge_answered m server state given)
  challenge_ends (Ok (Read.ResendRequest a)) = (tt, refl)
  challenge_ends (Ok (Read.Validated a)) = refl
  challenge_ends (Err reason) = refl

pub ended_by : (o : Option Outcome) (P : Type 0) (Q : Outcome → Type 0) (outcome : Outcome)
    → o ≡ Some outcome → MatchOption o P Q → Q outcome
ended_by o P Q outcome is h = subst (λ x. MatchOption x P Q) is h

pub not_ended : (o : Option Outcome) (P : Type 0) (Q : Outcome → Type 0) → o ≡ None
    → MatchOption o P Q → P
not_ended o P Q is h = subst (λ x. MatchOption x P Q) is h

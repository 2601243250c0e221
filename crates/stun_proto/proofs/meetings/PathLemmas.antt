-- A meeting that ends with both sides' acceptance has gone through each of its steps.
use Rattle.std.proofs.Common.{◌≡◌, true, refl, ap, Result, Ok, Err}
use Rattle.stun_base.specs.declared.keys.algorithm.IntegrityAlgorithm.{IntegrityAlgorithm}
use Rattle.stun_base.specs.declared.wire.error.StunWriteError.{StunWriteError}
use Rattle.stun_auth.specs.declared.client.answer.LongTermClientValidation.TheVariants as Read
use Rattle.stun_auth.specs.declared.server.reason.LongTermServerAuthErrorReason.TheVariants
    as Server
use Rattle.stun_auth.specs.declared.server.reason.LongTermServerValidation.TheVariants as Served
use Rattle.stun_judging.specs.Additions.{Page}
use Rattle.stun_auth.specs.Client.{ClientState}
use Rattle.stun_auth.specs.ClientStep.{ClientAnswer, client_step}
use Rattle.stun_judging.specs.Reading.{UNAUTHORIZED, reading_of}
use Rattle.stun_auth.specs.ServerSigning.{after_signing}
use Rattle.stun_auth.specs.Validation.{Answer, ServerSeen, after_validation, answer, sight}
use Rattle.stun_proto.specs.Negotiation.{Meeting, client_request, challenge_answered}
use Rattle.stun_proto.specs.Negotiation.{challenge_sent}
use Rattle.stun_proto.specs.Negotiation.{failure, first_answered, first_asked, whole_negotiation}
use Rattle.stun_proto.specs.Negotiation.{outcome_of_success, server_response, second_answered}
use Rattle.stun_proto.specs.Negotiation.{second_asked, success_sent, success}
use Rattle.stun_proto.specs.Serving.{after_calls}
use Rattle.stun_proto.specs.declared.replay.negotiation.Outcome.{Outcome}
use Rattle.stun_proto.specs.declared.replay.negotiation.Outcome.TheVariants.{Validated}

module _ (m : Meeting) (state : ClientState) (server : ServerSeen) (a : IntegrityAlgorithm) where
  -- the server after the first request, and the one that reads the second
  abbrev pub after_first : Page → ServerSeen
  after_first first =
      after_validation server m.from m.first.now m.first.words (reading_of first.bytes)

  abbrev pub at_challenge : Page → ServerSeen
  at_challenge first = after_calls (after_signing (after_first first) m.from true) m.first.before

  abbrev pub at_second : Page → ServerSeen
  at_second first = after_calls (at_challenge first) m.second.before

  -- the client that has read the challenge
  abbrev pub told_client : Page → ClientState
  told_client told = (client_step m.settings state (reading_of told.bytes)).state

  pub record Path : Type 0 where
    pub first : Page
    pub told : Page
    pub second : Page
    pub first_is : client_request m.first.id state ≡ Ok first
    pub unauthorized : answer (sight server m.from) m.first.now m.first.words
        (reading_of first.bytes)
        ≡ Err Server.Unauthorized
    pub told_is : server_response (failure UNAUTHORIZED m.first.id)
        (sight (after_first first) m.from)
        ≡ Ok told
    pub second_is : client_request m.second.id (told_client told) ≡ Ok second
    pub validated : answer (sight (at_second first) m.from) m.second.now m.second.words
        (reading_of second.bytes)
        ≡ Ok (Served.Validated a)

  abbrev Ends : Result Outcome StunWriteError → Type 0
  Ends ending = ending ≡ Ok (Validated a)

  -- the success is of the algorithm that the second request was validated with
  by_success : (b : IntegrityAlgorithm) (given : ClientAnswer)
      → Ends (Ok (outcome_of_success b given)) → b ≡ a
  by_success b (Ok (Read.Validated x)) h = cc
  by_success b (Ok (Read.ResendRequest x)) h = cc
  by_success b (Err reason) h = cc

  by_signed : (b : IntegrityAlgorithm) (c : ClientState) (s : ServerSeen)
      (o : Result Page StunWriteError)
      → Ends (success_sent m b c s o).ending → b ≡ a
  by_signed b c s (Err reason) h = cc
  by_signed b c s (Ok page) h = by_success b
      (client_step m.settings c (reading_of page.bytes)).answer h

  by_second : (c : ClientState) (s : ServerSeen) (given : Answer)
      → Ends (second_answered m c s given).ending
      → given ≡ Ok (Served.Validated a)
  by_second c s (Err reason) h = cc
  by_second c s (Ok (Served.Validated b)) h =
      ap (λ x. Ok (Served.Validated x))
      (by_signed b c s (server_response (success m.second.id) (sight s m.from)) h)

  -- the second request was signed
  pub record Rest (c : ClientState) (s : ServerSeen) : Type 0 where
    pub second : Page
    pub second_is : client_request m.second.id c ≡ Ok second
    pub validated : answer (sight (after_calls s m.second.before) m.from) m.second.now
        m.second.words (reading_of second.bytes)
        ≡ Ok (Served.Validated a)

  by_asking : (c : ClientState) (s : ServerSeen) (o : Result Page StunWriteError)
      → client_request m.second.id c ≡ o
      → Ends (second_asked m c s o).ending → Rest c s
  by_asking c s (Err reason) is h = cc
  by_asking c s (Ok page) is h =
      let called = after_calls s m.second.before in
      record {
        second = page;
        second_is = is;
        validated = by_second c
            (after_validation called m.from m.second.now m.second.words (reading_of page.bytes))
            (answer (sight called m.from) m.second.now m.second.words (reading_of page.bytes)) h;
      }

  -- the challenge was taken up
  by_challenge : (c : ClientState) (s : ServerSeen) (given : ClientAnswer)
      → Ends (challenge_answered m s c given).ending → Rest c s
  by_challenge c s (Ok (Read.ResendRequest b)) h =
      by_asking c s (client_request m.second.id c) refl h
  by_challenge c s (Ok (Read.Validated b)) h = cc
  by_challenge c s (Err reason) h = cc

  -- the challenge was signed
  by_challenged : (first : Page) → client_request m.first.id state ≡ Ok first
      → answer (sight server m.from) m.first.now m.first.words (reading_of first.bytes)
      ≡ Err Server.Unauthorized
      → (o : Result Page StunWriteError)
      → server_response (failure UNAUTHORIZED m.first.id) (sight (after_first first) m.from) ≡ o
      → Ends (challenge_sent m state (after_first first) o).ending → Path
  by_challenged first first_is unauthorized (Err reason) is h = cc
  by_challenged first first_is unauthorized (Ok page) is h =
      let rest = by_challenge (told_client page) (at_challenge first)
      (client_step m.settings state (reading_of page.bytes)).answer h in
      record {
        first = first;
        told = page;
        second = rest.second;
        first_is = first_is;
        unauthorized = unauthorized;
        told_is = is;
        second_is = rest.second_is;
        validated = rest.validated;
      }

  -- the first request was to be challenged
  by_first : (first : Page) → client_request m.first.id state ≡ Ok first → (given : Answer)
      → answer (sight server m.from) m.first.now m.first.words (reading_of first.bytes) ≡ given
      → Ends (first_answered m state (after_first first) given).ending → Path
  by_first first first_is (Ok (Served.Validated b)) is h = cc
  by_first first first_is (Err Server.Unauthorized) is h =
      by_challenged first first_is is
      (server_response (failure UNAUTHORIZED m.first.id) (sight (after_first first) m.from)) refl h
  by_first first first_is (Err Server.IntegrityFailed) is h = cc
  by_first first first_is (Err Server.UnsupportedFeature) is h = cc
  by_first first first_is (Err Server.BadRequest) is h = cc
  by_first first first_is (Err Server.StaleNonce) is h = cc
  by_first first first_is (Err Server.OutOfMemory) is h = cc

  by_start : (o : Result Page StunWriteError) → client_request m.first.id state ≡ o
      → Ends (first_asked m state server o).ending → Path
  by_start (Err reason) is h = cc
  by_start (Ok page) is h =
      by_first page is (answer (sight server m.from) m.first.now m.first.words
      (reading_of page.bytes)) refl h

  pub path : (whole_negotiation m state server).ending ≡ Ok (Validated a) → Path
  path h = by_start (client_request m.first.id state) refl h

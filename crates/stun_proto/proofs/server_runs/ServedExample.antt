-- The three calls of a client, as the server of its meeting replies to them.
use Rattle.std.proofs.Common.{◌≡◌, ◌≢◌, ℕ, ◌<◌, ◌≤◌, ◌^◌, Bool, true, List, [], ◌∷◌}
use Rattle.std.proofs.Common.{length, None, refl, sym, ap, ◌∙◌, arith, Ok, Err}
use Rattle.std.specs.List.{AllByRecursion}
use Rattle.std.specs.declared.net.socket_addr.SocketAddr.{SocketAddr}
use Rattle.stun_base.specs.MessageType.{class_of, type_number}
use Rattle.stun_base.specs.declared.keys.algorithm.IntegrityAlgorithm.TheVariants.{Sha256}
use Rattle.stun_base.specs.declared.wire.error.StunWriteError.TheVariants.{TooSmall}
use Rattle.stun_base.specs.declared.wire.message_type.MessageClass.TheVariants as Class
use Rattle.stun_types.specs.Grammar.{spelled_message}
use Rattle.stun_types.specs.Message.{refusal}
use Rattle.stun_types.specs.Visible.{visible}
use Rattle.stun_types.specs.Walk.{walk_up_to}
use Rattle.stun_types.specs.Writing.{IsOpen}
use Rattle.stun_types.proofs.MessageLemmas.{refusal-none}
use Rattle.stun_auth.specs.declared.server.reason.LongTermServerAuthErrorReason.TheVariants
    as Server
use Rattle.stun_auth.specs.declared.server.reason.LongTermServerValidation.TheVariants as Served
use Rattle.stun_judging.specs.Additions.{Addition, Page, added_all, page_of}
use Rattle.stun_auth.specs.Client.{ClientState, initial}
use Rattle.stun_auth.specs.ClientSigning.{client_additions}
use Rattle.stun_judging.specs.Reading.{UNAUTHORIZED, reading_of}
use Rattle.stun_judging.specs.Joined.{HasAdded, IsTyped}
use Rattle.stun_auth.specs.ServerSigning.{after_signing}
use Rattle.stun_judging.specs.Signed.{IsBuilt, additions_of}
use Rattle.stun_auth.specs.Signed.{added_by_client}
use Rattle.stun_auth.specs.Validation.{after_validation}
use Rattle.stun_judging.proofs.SignedReading.{typed-additions}
use Rattle.stun_proto.specs.Honest.{ShortNamesAreSigned, StrongestIsAgreed}
use Rattle.stun_proto.specs.MeetingExample.{IsServed, a_meeting, a_server}
use Rattle.stun_proto.specs.Negotiation.{client_request, failure, request, server_response}
use Rattle.stun_proto.specs.ServerLoop.{AreMade}
use Rattle.stun_proto.specs.Serving.{Reply, Refused, Signed, Validated}
use Rattle.stun_proto.specs.Signing.{written_anew}
use Rattle.stun_proto.specs.declared.replay.call.ServerCall.{ServerCall}
use Rattle.stun_proto.specs.declared.replay.call.ServerCall.TheVariants as Call
use Rattle.stun_proto.proofs.meetings.ExampleLemmas.{agrees}
use Rattle.stun_proto.proofs.server_runs.MadeLemmas.{made_sign, made_validate}
use Rattle.stun_proto.proofs.meetings.PathLemmas.{Path, path}
use Rattle.stun_proto.proofs.server_runs.ServerLoopLemmas.{calls_are_served}
use Rattle.stun_proto.proofs.meetings.Typed.{failure_responds}

ok_not_small : {page : Page} → Ok page ≢ Err TooSmall
ok_not_small is = cc

-- ---- the messages of the client
request_is : refusal (request 7) ≡ None
unfolding request walk_up_to
request_is = refl

error_is : refusal (failure UNAUTHORIZED 7) ≡ None
unfolding failure walk_up_to
error_is = refl

error_plain : written_anew (failure UNAUTHORIZED 7) ≡ Ok (failure UNAUTHORIZED 7)
unfolding failure written_anew visible walk_up_to
error_plain = refl

bare : (page : Page) → client_request 7 initial ≡ Ok page → page.bytes ≡ request 7
unfolding client_request
bare page is = let same : page_of (request 7) ≡ page = cc in ap (λ (p : Page). p.bytes) (sym same)

pub record MessageLaws : Type 0 where
  pub bare : (message_type transaction_id : ℕ) → message_type < 2 ^ 14
      → IsBuilt (spelled_message message_type transaction_id []) (class_of message_type) None
  pub added : (list : List Addition) (message : List ℕ) (room : ℕ) (page : Page) → IsOpen message
      → AllByRecursion IsTyped list
      → added_all list (record { bytes = message; room = room }) ≡ Ok page
      → HasAdded message list page.bytes
  pub client : (is_request : Bool) (state : ClientState)
      → client_additions is_request state ≡ additions_of (added_by_client is_request state)

module _ (laws : MessageLaws) where
  asked_is : (id : ℕ) (state : ClientState) (page : Page) → client_request id state ≡ Ok page
      → refusal page.bytes ≡ None
  unfolding client_request request
  asked_is id state page is =
      let done = sym (ap (λ l. added_all l (page_of (request id))) (laws.client true state)) ∙ is in
      let built = laws.bare (type_number Class.Request 1) id (omega arith) in
      refusal-none page.bytes
      (laws.added (additions_of (added_by_client true state)) (request id) _ page
      built.unsigned.is_open (typed-additions (added_by_client true state)) done).is_message

  -- ---- the run
  module _ (from : SocketAddr) (words more : List ℕ)
      (went : Path (a_meeting from words more) initial a_server Sha256) where
    served : IsServed from words more
    unfolding server_response
    served =
        let first_bytes = bare went.first went.first_is in
        let s = a_server in
        let t = after_validation s from 0 words (reading_of went.first.bytes) in
        let u = after_signing t from true in
        let v = after_validation u from 1_000_000_000 more (reading_of went.second.bytes) in
        record {
          challenge = went.told;
          again = went.second;
          signed_again = went.second_is;
          replied = λ first error second first_holds error_holds second_holds.
              let calls : List ServerCall = Call.Validate from 0 first words ∷ Call.Sign from error
              ∷ Call.Validate from 1_000_000_000 second more ∷ [] in
              let given : List Reply = Refused Server.Unauthorized ∷ Signed went.told.bytes ∷
              Validated Sha256 ∷ [] in
              let made : AreMade s calls given v = (
                t,
                made_validate s from 0 first words went.first.bytes (Err Server.Unauthorized)
                    (first_holds ∙ sym first_bytes)
                    (ap refusal first_bytes ∙ request_is) went.unauthorized,
                (
                  u,
                  made_sign t from error (failure UNAUTHORIZED 7)
                      (page_of (failure UNAUTHORIZED 7)).room true (Ok went.told) error_holds
                      error_is error_plain
                      (failure_responds UNAUTHORIZED 7 (failure UNAUTHORIZED 7) refl)
                      (sym went.told_is) ok_not_small,
                  (
                    v,
                    made_validate u from 1_000_000_000 second more went.second.bytes
                        (Ok (Served.Validated Sha256)) second_holds
                        (asked_is 8 _ went.second went.second_is) went.validated,
                    refl,
                  ),
                ),
              ) in
              sym (calls_are_served s v calls given made).0;
        }

  pub is_served : ShortNamesAreSigned → StrongestIsAgreed
      → (from : SocketAddr) (words more : List ℕ) → length words ≤ 16 → IsServed from words more
  is_served signed agreed from words more few =
      served from words more
      (path (a_meeting from words more) initial a_server Sha256
      (agrees from words more signed agreed few).ending)

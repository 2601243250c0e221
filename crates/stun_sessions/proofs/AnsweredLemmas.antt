-- Whatever comes of an accepted request is signed with its key.
use Rattle.std.proofs.Common.{◌≡◌, ℕ, Bool, true, false, List, Option, Some, None}
use Rattle.std.proofs.Common.{ap, sym, subst}
use Rattle.std.specs.Prelude.{cond, ◌&&◌}
use Rattle.std.specs.Option.{option_map}
use Rattle.std.specs.declared.net.socket_addr.SocketAddr.{SocketAddr}
use Rattle.stun_base.specs.declared.keys.algorithm.IntegrityAlgorithm.{IntegrityAlgorithm}
use Rattle.stun_types.specs.Integrity.{deciding_algorithm}
use Rattle.stun_judging.specs.Verdict.{ClientSeen}
use Rattle.stun_extra.specs.Unknown.{refusing_answer, unknown_types}
use Rattle.stun_endpoint.specs.Answers.{Signature, with_end}
use Rattle.stun_endpoint.specs.Received.{or_handed, outcome_of_accepted, responding_of}
use Rattle.stun_endpoint.specs.Received.{signature_for}
use Rattle.stun_endpoint.specs.Responding.{binding_by, ending_by, is_binding, is_empty}
use Rattle.stun_endpoint.specs.Responding.{own_answer, unknown_by}
use Rattle.stun_endpoint.specs.Settings.{Settings}
use Rattle.stun_exchanges.specs.Exchange.{AnswersAreSigned, BindingAnswersAreSigned}
use Rattle.stun_exchanges.specs.Exchange.{IsPage, IsServer, SendsRequired}
use Rattle.stun_sessions.specs.Responses.{EndsAtClient, OutcomeEnds, IsShortRequest, UnknownIsPage}

module _ (written : AnswersAreSigned) (own : BindingAnswersAreSigned) (unknown : UnknownIsPage)
    (s : Settings) (key : List ℕ) (from : SocketAddr) (request : List ℕ) (client : ClientSeen)
    (required : Bool) (a : IntegrityAlgorithm) (fine : IsServer s) (is : IsShortRequest request)
    (sends : SendsRequired required request) where
  abbrev by : Signature
  by = record { algorithm = a; key = key }

  ended : (page : List ℕ) → IsPage request page
      → EndsAtClient required request key a
      (with_end (ending_by (responding_of s) (Some by) request) page)
  ended page is_page =
      let both = written s by required request page fine is_page sends in
      record { answers = both.0; signed = both.1 }

  unknown_ends : EndsAtClient required request key a
      (unknown_by (responding_of s) (Some by) from request).bytes
  unfolding unknown_by
  unknown_ends = ended (refusing_answer s.known request) (unknown s.known request is)

  binding_ends : EndsAtClient required request key a
      (binding_by (responding_of s) (Some by) from request).bytes
  binding_ends =
      let both = own s by required from request fine is.identified sends in
      record { answers = both.0; signed = both.1 }

  module _ (decides : deciding_algorithm request ≡ Some a) where
    signed : signature_for key request ≡ Some by
    signed =
        ap (option_map (λ (n : IntegrityAlgorithm). record { algorithm = n; key = key })) decides

    -- by what the server understands, and whether it answers Binding requests
    by_case : (none answers : Bool) → OutcomeEnds required request key a
        (or_handed s key from request client
        (cond none (cond answers (Some (binding_by (responding_of s) (Some by) from request)) None)
        (Some (unknown_by (responding_of s) (Some by) from request))))
    by_case true true = binding_ends
    by_case true false =
        λ page is_page. subst (λ (o : Option Signature). EndsAtClient required request key a
        (with_end (ending_by (responding_of s) o request) page)) (sym signed) (ended page is_page)
    by_case false answers = unknown_ends

    pub accepted_is_answered : OutcomeEnds required request key a
        (outcome_of_accepted s key from request client)
    accepted_is_answered =
        subst (λ (o : Option Signature). OutcomeEnds required request key a
        (or_handed s key from request client (own_answer (responding_of s) o from request)))
        (sym signed)
        (by_case (is_empty (unknown_types s.known request))
        (s.answers_binding && is_binding request))

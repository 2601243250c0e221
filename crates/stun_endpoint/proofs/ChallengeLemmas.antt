-- A 401 or a 438, put together of its parts.
use Rattle.std.proofs.Common.{◌≡◌, ℕ, List, Bool, Some, None, ◌∙◌, ap}
use Rattle.std.specs.declared.net.socket_addr.SocketAddr.{SocketAddr}
use Rattle.stun_endpoint.specs.Answers.{challenge_page, is_fingerprinted, with_end}
use Rattle.stun_endpoint.specs.Received.{Answer, challenge_answer}
use Rattle.stun_endpoint.specs.Refusals.{code_of, phrase_of}
use Rattle.stun_endpoint.specs.Settings.{Settings}
use Rattle.stun_endpoint.specs.declared.received.Refusal.{Refusal}

pub challenge_from_parts : (s : Settings) (refusal : Refusal) (nonce : List ℕ) (from : SocketAddr)
    (request : List ℕ) (answer : Answer) (page bytes : List ℕ) (has : Bool)
    → bytes ≡ with_end (record {
      software = s.software;
      signature = None;
      has_fingerprint = has;
    }) page
    → has ≡ is_fingerprinted request
    → answer ≡ record { to = from; refusal = Some refusal; bytes = bytes }
    → page ≡ challenge_page s nonce request (code_of refusal) (phrase_of refusal)
    → answer ≡ challenge_answer s refusal nonce from request
unfolding challenge_answer
challenge_from_parts s refusal nonce from request answer page bytes has ended right whole begun =
    whole ∙ ap (λ x. record { to = from; refusal = Some refusal; bytes = x })
    (ended ∙ (λ i. with_end (record {
      software = s.software;
      signature = None;
      has_fingerprint = right i;
    }) (begun i)))

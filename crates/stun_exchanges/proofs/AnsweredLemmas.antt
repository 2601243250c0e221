-- What a client makes of a challenge that it reads.
use Rattle.std.proofs.Common.{◌≡◌, ℕ, List, Option, Some, None, refl, ◌∙◌, ap}
use Rattle.std.specs.Prelude.{◌&&◌, cond}
use Rattle.std.specs.Option.{option_map}
use Rattle.stun_base.specs.Credentials.{NameAndPassword}
use Rattle.stun_judging.specs.Reading.{UNAUTHORIZED, is_code}
use Rattle.stun_client.specs.Challenge.{Challenge}
use Rattle.stun_client.specs.Challenges.{Answered, by_rule, challenge_of, is_alike}
use Rattle.stun_client.specs.Challenging.{code_in}
use Rattle.stun_client.specs.Judging.{anew, answered_in, refused, sent_for}
use Rattle.stun_client.specs.declared.preferences.Preferences.{Preferences}
use Rattle.stun_endpoint.specs.Refusals.{code_of}
use Rattle.stun_endpoint.specs.declared.received.Refusal.{Refusal}
use Rattle.stun_endpoint.specs.declared.received.Refusal.TheVariants.{BadRequest, StaleNonce}
use Rattle.stun_endpoint.specs.declared.received.Refusal.TheVariants.{Unauthenticated}
use Rattle.stun_endpoint.specs.declared.received.Refusal.TheVariants.{UnknownAttribute}
use Rattle.stun_exchanges.specs.Exchange.{answered_to}

-- what is read by the rule is the challenge that is answered
pub answered_is : (p : Preferences) (who : NameAndPassword) (before : Option Answered)
    (bytes realm nonce list : List ℕ) (c : Challenge)
    → challenge_of p who (option_map (λ (b : Answered). b.challenge) before) bytes
    ≡ by_rule p who realm nonce list
    → by_rule p who realm nonce list ≡ Some c
    → answered_in p who before bytes ≡ Some (record { preferences = p; challenge = c })
answered_is p who before bytes realm nonce list c read rule =
    ap (option_map (λ (x : Challenge). record { preferences = p; challenge = x })) (read ∙ rule)

-- a 438 is no refusal
pub sent_so : (kind : Refusal) (before : Option Answered) (response : List ℕ) (c : Answered)
    → code_in response ≡ Some (code_of kind)
    → sent_for before response c ≡ answered_to kind before response c
sent_so BadRequest before response c code = refl
sent_so Unauthenticated before response c code = refl
sent_so UnknownAttribute before response c code = refl
sent_so StaleNonce None response c code = refl
sent_so StaleNonce (Some b) response c code =
    ap (λ o. cond (is_code UNAUTHORIZED o && is_alike c.challenge b.challenge) (refused (Some c))
    (anew c)) code

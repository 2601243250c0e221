-- Which client a server accepts under a nonce that its caller passes, for a server that stores
-- nothing about an address (RFC 8489, section 9.2.4).
use Rattle.std.specs.Prelude.{◌≡◌, ◌↔◌, ℕ, List, Some}
use Rattle.std.specs.Option.{IsSome}
use Rattle.std.specs.declared.result.Result.{Result}
use Rattle.std.specs.declared.result.Result.TheVariants.{Ok, Err}
use Rattle.stun_judging.specs.declared.algorithm_set.AlgorithmSet.{AlgorithmSet}
use Rattle.stun_judging.specs.declared.feature.Feature.{Feature}
use Rattle.stun_judging.specs.declared.refusal.VerdictRefusal.{VerdictRefusal}
use Rattle.stun_judging.specs.Reading.{Reading, verified_under}
use Rattle.stun_judging.specs.Registered.{Registered, key_at}
use Rattle.stun_judging.specs.Verdict.{ClientSeen, IsAcceptedOffering}

-- the user who is accepted, the algorithm that was agreed on, and the user's key for it
pub record AcceptedSeen : Type 0 where
  pub client : ClientSeen
  pub key : List ℕ

-- the client alone, without the key
abbrev pub client_judged : Result AcceptedSeen VerdictRefusal → Result ClientSeen VerdictRefusal
client_judged (Ok accepted) = Ok accepted.client
client_judged (Err refusal) = Err refusal

-- the key is the one that the client's user has, and the digest verifies under it
abbrev pub HasVerifyingKey : Registered → Reading → AcceptedSeen → Type 0
HasVerifyingKey users r accepted =
    (key_at users accepted.client.name accepted.client.algorithm ≡ Some accepted.key)
    × IsSome (verified_under r accepted.key)

-- a message is judged to be from a client if and only if it is accepted from that client
abbrev pub JudgesAccepted : Registered → Feature → List ℕ → AlgorithmSet → Reading
    → Result AcceptedSeen VerdictRefusal
    → Type 0
JudgesAccepted users feature nonce supported r given =
    (client : ClientSeen)
    → (client_judged given ≡ Ok client) ↔ IsAcceptedOffering users feature nonce supported r client

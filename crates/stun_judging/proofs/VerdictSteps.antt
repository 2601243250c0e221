-- The verdict of a server as the code finds it, exit by exit.
use Rattle.std.specs.Prelude.{ℕ, List, not, if◌then◌else◌, Option, Some, None}
use Rattle.std.specs.Option.{is_some, option_and_then}
use Rattle.std.specs.Str.{bytes_eq}
use Rattle.std.specs.declared.result.Result.{Result}
use Rattle.std.specs.declared.result.Result.TheVariants.{Ok, Err}
use Rattle.stun_base.specs.declared.keys.algorithm.IntegrityAlgorithm.{IntegrityAlgorithm}
use Rattle.stun_judging.specs.declared.algorithm_set.AlgorithmSet.{AlgorithmSet}
use Rattle.stun_judging.specs.declared.feature.Feature.{Feature}
use Rattle.stun_judging.specs.declared.refusal.VerdictRefusal.{VerdictRefusal}
use Rattle.stun_judging.specs.declared.refusal.VerdictRefusal.TheVariants.{Unauthorized, BadRequest}
use Rattle.stun_judging.specs.code.Claims.{name_in}
use Rattle.stun_judging.specs.Reading.{Reading, verified_under, is_complete}
use Rattle.stun_judging.specs.Registered.{Registered, key_at}
use Rattle.stun_judging.specs.Verdict.{ClientSeen, agreement, nonce_refusal}

abbrev pub by_digest : Registered → Reading → List ℕ → IntegrityAlgorithm
    → Result ClientSeen VerdictRefusal
by_digest users r name a =
    if is_some (option_and_then (verified_under r) (key_at users name a))
    then Ok (record { name = name; algorithm = a })
    else Err Unauthorized

abbrev pub by_name : Registered → Reading → Option (List ℕ) → IntegrityAlgorithm
    → Result ClientSeen VerdictRefusal
by_name users r None a = Err Unauthorized
by_name users r (Some name) a = by_digest users r name a

abbrev pub by_nonce : Registered → Feature → List ℕ → Reading → List ℕ → IntegrityAlgorithm
    → Result ClientSeen VerdictRefusal
by_nonce users feature ours r theirs a =
    if bytes_eq theirs ours then by_name users r (name_in users feature r) a
    else Err (nonce_refusal ours theirs)

abbrev pub by_choice : Registered → Feature → List ℕ → Reading → List ℕ → Option IntegrityAlgorithm
    → Result ClientSeen VerdictRefusal
by_choice users feature ours r theirs None = Err BadRequest
by_choice users feature ours r theirs (Some a) = by_nonce users feature ours r theirs a

abbrev pub by_attributes : Registered → Feature → List ℕ → Option AlgorithmSet → Reading
    → Option (List ℕ) → Result ClientSeen VerdictRefusal
by_attributes users feature ours offered r None = Err BadRequest
by_attributes users feature ours offered r (Some theirs) =
    by_choice users feature ours r theirs (agreement r theirs offered)

abbrev pub by_steps : Registered → Feature → List ℕ → Option AlgorithmSet → Reading
    → Result ClientSeen VerdictRefusal
by_steps users feature ours offered r =
    if not (is_some r.integrity) then Err Unauthorized
    else (if not (is_complete r) then Err BadRequest
    else by_attributes users feature ours offered r r.nonce)

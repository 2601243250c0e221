-- A user who was found elsewhere, of whose keys only the one that a message needs is made (RFC
-- 8489, section 9.2.4).
use Rattle.std.specs.Prelude.{ℕ, List, Bool, ◌&&◌, if◌then◌else◌, Option, Some, None}
use Rattle.std.specs.Option.{is_some, option_map}
use Rattle.std.specs.Str.{bytes_eq}
use Rattle.std.specs.declared.result.Result.{Result}
use Rattle.std.specs.declared.result.Result.TheVariants.{Ok, Err}
use Rattle.stun_base.specs.Keys.{userhash_of}
use Rattle.stun_base.specs.declared.keys.algorithm.IntegrityAlgorithm.{IntegrityAlgorithm}
use Rattle.stun_judging.specs.declared.algorithm_set.AlgorithmSet.{AlgorithmSet}
use Rattle.stun_judging.specs.declared.feature.Feature.{Feature}
use Rattle.stun_judging.specs.declared.refusal.VerdictRefusal.{VerdictRefusal}
use Rattle.stun_judging.specs.declared.refusal.VerdictRefusal.TheVariants.{Unauthorized}
use Rattle.stun_judging.specs.Named.{Named, by_hash, by_name, named_in}
use Rattle.stun_judging.specs.Reading.{Reading, reading_of, verified_under, is_complete}
use Rattle.stun_judging.specs.Registered.{Registered, RegisteredUser, key_of}
use Rattle.stun_judging.specs.Verdict.{ClientSeen, agreement_offering}

-- ---- what a message claims

-- a signed message, the user whom it names, and the algorithm that both sides agree on
pub record ClaimSeen : Type 0 where
  pub message : List ℕ
  pub user : Named
  pub algorithm : IntegrityAlgorithm

-- a claim has an algorithm and a user
abbrev pub claim_by : List ℕ → Option IntegrityAlgorithm → Option Named → Option ClaimSeen
claim_by bytes None user = None
claim_by bytes (Some a) None = None
claim_by bytes (Some a) (Some user) =
    Some (record { message = bytes; user = user; algorithm = a })

-- the claim in the reading of a message: it must be signed, and have a realm, a nonce and a name
abbrev pub claim_read : AlgorithmSet → Feature → List ℕ → Reading → Option ClaimSeen
claim_read algorithms feature bytes r =
    if is_some r.integrity && is_complete r
    then claim_by bytes (agreement_offering algorithms r)
    (named_in r.userhash r.username feature)
    else None

-- what a message claims, if a server supports these algorithms
abbrev pub claim_of : AlgorithmSet → Feature → List ℕ → Option ClaimSeen
claim_of algorithms feature bytes = claim_read algorithms feature bytes (reading_of bytes)

-- ---- whether it is the user's

-- whether a message names the user of a name at a realm
abbrev pub is_claimed : Named → List ℕ → List ℕ → Bool
is_claimed (by_name name) username realm = bytes_eq name username
is_claimed (by_hash hash) username realm = bytes_eq (userhash_of username realm) hash

-- an algorithm and the key for it, if a digest of the message verifies under the key
abbrev pub verifying : Reading → IntegrityAlgorithm → Option (List ℕ)
    → Option (IntegrityAlgorithm × List ℕ)
verifying r a None = None
verifying r a (Some key) = option_map (λ by. (a, key)) (verified_under r key)

-- the agreed algorithm, and the key that the user who was found has for it at the realm, if the
-- message names the user, and its digest verifies under this key
abbrev pub found_key : Registered → ClaimSeen → RegisteredUser
    → Option (IntegrityAlgorithm × List ℕ)
found_key users claim user =
    if is_claimed claim.user user.username users.realm
    then verifying (reading_of claim.message) claim.algorithm (key_of users user claim.algorithm)
    else None

-- the verdict that follows from this key: it is the user's with the agreed algorithm, or nobody's
abbrev pub found_verdict : ClaimSeen → RegisteredUser → Option (IntegrityAlgorithm × List ℕ)
    → Result ClientSeen VerdictRefusal
found_verdict claim user None = Err Unauthorized
found_verdict claim user (Some found) =
    Ok (record { name = user.username; algorithm = claim.algorithm })

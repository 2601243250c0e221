-- What the code finds out about a request that waits, and about the user who was found for it.
use Rattle.std.specs.Prelude.{◌≡◌, ℕ, List, if◌then◌else◌, Option, Some, None}
use Rattle.std.specs.declared.net.socket_addr.SocketAddr.{SocketAddr}
use Rattle.std.specs.declared.result.Result.TheVariants.{Ok, Err}
use Rattle.stun_judging.specs.declared.refusal.VerdictRefusal.{VerdictRefusal}
use Rattle.stun_judging.specs.Found.{ClaimSeen, claim_of}
use Rattle.stun_judging.specs.Named.{just}
use Rattle.stun_judging.specs.Reading.{Reading, reading_of}
use Rattle.stun_judging.specs.Registered.{RegisteredUser, key_at}
use Rattle.stun_judging.specs.Verdict.{verdict_offering}
use Rattle.stun_base.specs.declared.keys.algorithm.IntegrityAlgorithm.{IntegrityAlgorithm}
use Rattle.stun_endpoint.specs.Judged.{Realm, judged_in}
use Rattle.stun_endpoint.specs.Lookups.{accepted_nonces, has_one_of}
use Rattle.stun_endpoint.specs.Nonces.{nonce_in}
use Rattle.stun_endpoint.specs.Settings.{Settings, registered_of}

-- the claim of a request that waits in an epoch
abbrev pub waiting_claim : Settings → SocketAddr → ℕ → List ℕ → Option ClaimSeen
waiting_claim s from epoch bytes =
    if has_one_of (reading_of bytes) (accepted_nonces s from epoch)
    then claim_of s.algorithms s.feature bytes else None

-- the server's realm with the user who was found
abbrev pub realm_of_found : Settings → RegisteredUser → Realm
realm_of_found s user = record {
  users = just (registered_of s) (Some user);
  feature = s.feature;
  offered = s.algorithms;
}

-- a request is accepted from the user with this algorithm, for which the user has this key
pub record IsAcceptedByKey (s : Settings) (user : RegisteredUser) (from : SocketAddr) (epoch : ℕ)
    (r : Reading) (algorithm : IntegrityAlgorithm) (key : List ℕ) : Type 0 where
  pub judged : judged_in s (realm_of_found s user) from epoch r
      ≡ Ok (record { name = user.username; algorithm = algorithm })
  pub has : key_at (realm_of_found s user).users user.username algorithm ≡ Some key

-- a request is refused for the reason for which a server without users refuses it under the current
-- nonce
pub record IsRefusedAsNobody (s : Settings) (user : RegisteredUser) (from : SocketAddr)
    (epoch : ℕ) (r : Reading) : Type 0 where
  pub why : VerdictRefusal
  pub judged : judged_in s (realm_of_found s user) from epoch r ≡ Err why
  pub nobody : verdict_offering (registered_of s) s.feature (nonce_in s s.secret from epoch)
      s.algorithms r
      ≡ Err why

-- the key that the code finds is the one by which the request is accepted, or none if it is refused
abbrev pub IsFoundKey : Settings → RegisteredUser → SocketAddr → ℕ → Reading
    → Option (IntegrityAlgorithm × List ℕ) → Type 0
IsFoundKey s user from epoch r (Some found) = IsAcceptedByKey s user from epoch r found.0 found.1
IsFoundKey s user from epoch r None = IsRefusedAsNobody s user from epoch r

-- Requests whose user a server looks up elsewhere: a request is judged as far as that is possible
-- without its user, and waits for the user if the outcome depends on it (RFC 8489, section 9.2.4).
use Rattle.std.specs.Prelude.{◌≡◌, ◌⊎◌, ℕ, zero, suc, List, [], ◌∷◌, ◌++◌, Bool, false}
use Rattle.std.specs.Prelude.{◌&&◌, ◌||◌, if◌then◌else◌, Option, Some, None}
use Rattle.std.specs.FinMap as map
use Rattle.std.specs.Option.{is_some, IsSome}
use Rattle.std.specs.Str.{bytes_eq}
use Rattle.std.specs.declared.net.socket_addr.SocketAddr.{SocketAddr}
use Rattle.stun_base.specs.MessageType.{class_in}
use Rattle.stun_base.specs.declared.wire.message_type.MessageClass.{MessageClass}
use Rattle.stun_base.specs.declared.wire.message_type.MessageClass.TheVariants.{Request}
use Rattle.stun_base.specs.declared.wire.message_type.MessageClass.TheVariants.{Indication}
use Rattle.stun_base.specs.declared.wire.message_type.MessageClass.TheVariants.{Success, Error}
use Rattle.stun_judging.specs.Named.{Named, named_in}
use Rattle.stun_judging.specs.Reading.{Reading, reading_of, is_complete}
use Rattle.stun_judging.specs.Registered.{Registered, UserSecret, name_cmp}
use Rattle.stun_judging.specs.Verdict.{agreement_offering, their_nonce}
use Rattle.stun_endpoint.specs.Judged.{realm_of_user}
use Rattle.stun_endpoint.specs.Nonces.{epoch_of, nonce_in}
use Rattle.stun_endpoint.specs.Received.{Outcome, received_by}
use Rattle.stun_endpoint.specs.Responding.{drop_reason}
use Rattle.stun_endpoint.specs.Settings.{Settings, registered_of}

-- ---- the nonces that are accepted

-- the nonces of a secret: that of the epoch, and that of the epoch before
abbrev pub nonces_of : Settings → List ℕ → SocketAddr → ℕ → List (List ℕ)
nonces_of s secret from zero = nonce_in s secret from 0 ∷ []
nonces_of s secret from (suc e) = nonce_in s secret from (suc e) ∷ nonce_in s secret from e ∷ []

-- the nonces of the previous secret, if there is one
abbrev pub previous_nonces : Settings → Option (List ℕ) → SocketAddr → ℕ → List (List ℕ)
previous_nonces s None from epoch = []
previous_nonces s (Some secret) from epoch = nonces_of s secret from epoch

-- the nonces that a server accepts for an address in an epoch
abbrev pub accepted_nonces : Settings → SocketAddr → ℕ → List (List ℕ)
accepted_nonces s from epoch =
    nonces_of s s.secret from epoch ++ previous_nonces s s.previous from epoch

-- whether a request has one of these nonces
abbrev pub has_one_of : Reading → List (List ℕ) → Bool
has_one_of r [] = false
has_one_of r (nonce ∷ nonces) = bytes_eq (their_nonce r) nonce || has_one_of r nonces

-- ---- the user whom a request waits for

-- whether only nonce and user are left to check: the request is signed, has a realm, a nonce and a
-- name, and its algorithms are those that were offered
abbrev pub is_ready : Settings → Reading → Bool
is_ready s r =
    is_some r.integrity && is_complete r
    && is_some (agreement_offering s.algorithms r)

-- the user whom a request waits for in an epoch, if it has a nonce that is accepted, and names a
-- user
abbrev pub waits_for : Settings → SocketAddr → ℕ → Reading → Option Named
waits_for s from epoch r =
    if is_ready s r && has_one_of r (accepted_nonces s from epoch)
    then named_in r.userhash r.username s.feature else None

-- only requests wait
abbrev pub waiting_by_class : Settings → SocketAddr → ℕ → List ℕ → MessageClass → Option Named
waiting_by_class s from now bytes Request = waits_for s from (epoch_of s now) (reading_of bytes)
waiting_by_class s from now bytes Indication = None
waiting_by_class s from now bytes Success = None
waiting_by_class s from now bytes Error = None

-- the user whom a datagram waits for
abbrev pub awaited : Settings → SocketAddr → ℕ → List ℕ → Option Named
awaited s from now bytes =
    if is_some (drop_reason s.requires_fingerprint bytes) then None
    else waiting_by_class s from now bytes (class_in bytes)

-- ---- the first of two steps

-- a request that waits for its user: its source, when it arrived, and the user whom it names
pub record LookupSeen : Type 0 where
  pub message : List ℕ
  pub from : SocketAddr
  pub arrived : ℕ
  pub user : Named

-- the outcome of a datagram, or a request that waits for its user
pub data Identification : Type 0 where
  done : Outcome → Identification
  looked_up : LookupSeen → Identification

abbrev pub identified_as : Settings → SocketAddr → ℕ → List ℕ → Option Named → Identification
identified_as s from now bytes None = done (received_by s (realm_of_user s None) from now bytes)
identified_as s from now bytes (Some user) =
    looked_up (record { message = bytes; from = from; arrived = now; user = user })

-- a datagram that waits for nobody has the outcome that it has at a server without users
abbrev pub identified_by : Settings → SocketAddr → ℕ → List ℕ → Identification
identified_by s from now bytes = identified_as s from now bytes (awaited s from now bytes)

-- the server's realm with these users
abbrev pub users_with : Settings → map.FinMap name_cmp UserSecret → Registered
users_with s secrets = record (registered_of s) { secrets = secrets }

-- ---- what is known of the request of a look-up

-- a nonce is one of these
abbrev pub IsOneOf : List ℕ → List (List ℕ) → Type 0
IsOneOf nonce [] = ⊥
IsOneOf nonce (first ∷ others) = (nonce ≡ first) ⊎ IsOneOf nonce others

-- the request is signed, names the user, and has a nonce that the server accepts for its source at
-- the time at which it arrived
pub record WaitsUnderItsNonce (s : Settings) (lookup : LookupSeen) : Type 0 where
  pub signed : IsSome (reading_of lookup.message).integrity
  pub user : named_in (reading_of lookup.message).userhash (reading_of lookup.message).username
      s.feature ≡ Some lookup.user
  pub nonce : List ℕ
  pub theirs : (reading_of lookup.message).nonce ≡ Some nonce
  pub accepted : IsOneOf nonce (accepted_nonces s lookup.from (epoch_of s lookup.arrived))

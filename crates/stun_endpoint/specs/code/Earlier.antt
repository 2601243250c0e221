-- The nonce of a request, if a server sent it earlier to the request's source and still accepts it.
use Rattle.std.specs.Prelude.{ℕ, zero, suc, List, [], ◌∷◌, ◌++◌, if◌then◌else◌}
use Rattle.std.specs.Prelude.{Option, Some, None}
use Rattle.std.specs.declared.net.socket_addr.SocketAddr.{SocketAddr}
use Rattle.stun_judging.specs.Reading.{Reading}
use Rattle.stun_judging.specs.Verdict.{their_nonce}
use Rattle.stun_endpoint.specs.Lookups.{has_one_of, previous_nonces}
use Rattle.stun_endpoint.specs.Nonces.{nonce_in}
use Rattle.stun_endpoint.specs.Settings.{Settings}

-- the nonce of a request, if it is one of these
abbrev pub their_nonce_among : Reading → List (List ℕ) → Option (List ℕ)
their_nonce_among r nonces = if has_one_of r nonces then Some (their_nonce r) else None

-- the nonce of a secret for the epoch before, if there is such an epoch
abbrev pub nonces_before : Settings → List ℕ → SocketAddr → ℕ → List (List ℕ)
nonces_before s secret from zero = []
nonces_before s secret from (suc e) = nonce_in s secret from e ∷ []

-- all nonces that are accepted, except the current one
abbrev pub earlier_nonces : Settings → SocketAddr → ℕ → List (List ℕ)
earlier_nonces s from epoch =
    nonces_before s s.secret from epoch ++ previous_nonces s s.previous from epoch

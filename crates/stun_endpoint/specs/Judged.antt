-- Which client is accepted: under the nonce of the epoch or, if the request's nonce is stale, under
-- the nonce of the epoch before, or under a nonce of the previous secret (RFC 8489, section 9.2.4).
use Rattle.std.specs.Prelude.{ℕ, zero, suc, List, [], Bool, false, not, Option, Some, None, ◌⊎◌}
use Rattle.std.specs.Prelude.{unwrap_or}
use Rattle.std.specs.Str.{bytes_eq}
use Rattle.std.specs.declared.net.socket_addr.SocketAddr.{SocketAddr}
use Rattle.std.specs.declared.result.Result.{Result}
use Rattle.stun_judging.specs.declared.algorithm_set.AlgorithmSet.{AlgorithmSet}
use Rattle.stun_judging.specs.declared.feature.Feature.{Feature}
use Rattle.stun_judging.specs.declared.refusal.VerdictRefusal.{VerdictRefusal}
use Rattle.stun_judging.specs.Verdict.{or_before, ClientSeen, IsAcceptedOffering, verdict_offering}
use Rattle.stun_judging.specs.Reading.{Reading}
use Rattle.stun_judging.specs.Registered.{Registered, at_realm, key_at}
use Rattle.stun_endpoint.specs.Nonces.{epoch_of, nonce_in}
use Rattle.stun_endpoint.specs.Settings.{Settings, registered_of}

-- what a request is judged by: the users, whether they may be named by a hash, and the algorithms
-- that are supported and, if HMAC-SHA256 is among them, offered
pub record Realm : Type 0 where
  pub users : Registered
  pub feature : Feature
  pub offered : AlgorithmSet

-- the users whom a server is passed, at the realm of the server: the users of a table, one user, or
-- nobody
abbrev pub users_at : Settings → Option Registered → Registered
users_at s None = registered_of s
users_at s (Some users) = at_realm (registered_of s) users

-- what a server judges by if it is passed one user, a table, or nobody. All but the users is as the
-- settings of the server say
abbrev pub realm_of_user : Settings → Option Registered → Realm
realm_of_user s users = record {
  users = users_at s users;
  feature = s.feature;
  offered = s.algorithms;
}

-- whether a server is passed users of a realm with another name than its own
abbrev pub has_other_realm : Settings → Option Registered → Bool
has_other_realm s None = false
has_other_realm s (Some users) = not (bytes_eq users.realm s.realm)

-- the verdict under a nonce
abbrev pub verdict_under : Realm → List ℕ → Reading → Result ClientSeen VerdictRefusal
verdict_under realm nonce r = verdict_offering realm.users realm.feature nonce realm.offered r

-- the verdict by the nonces of one secret
abbrev pub judged_under : Settings → Realm → List ℕ → SocketAddr → ℕ → Reading
    → Result ClientSeen VerdictRefusal
judged_under s realm secret from zero r = verdict_under realm (nonce_in s secret from 0) r
judged_under s realm secret from (suc e) r =
    or_before (verdict_under realm (nonce_in s secret from (suc e)) r)
    (verdict_under realm (nonce_in s secret from e) r)

-- a verdict or, if the verdict is that the nonce is stale, an acceptance by the nonces of the
-- previous secret
abbrev pub or_previous : Settings → Realm → Option (List ℕ) → SocketAddr → ℕ → Reading
    → Result ClientSeen VerdictRefusal
    → Result ClientSeen VerdictRefusal
or_previous s realm None from epoch r verdict = verdict
or_previous s realm (Some secret) from epoch r verdict =
    or_before verdict (judged_under s realm secret from epoch r)

-- the verdict in an epoch
abbrev pub judged_in : Settings → Realm → SocketAddr → ℕ → Reading
    → Result ClientSeen VerdictRefusal
judged_in s realm from epoch r =
    or_previous s realm s.previous from epoch r (judged_under s realm s.secret from epoch r)

-- the verdict at a time
abbrev pub judged : Settings → Realm → SocketAddr → ℕ → Reading → Result ClientSeen VerdictRefusal
judged s realm from now r = judged_in s realm from (epoch_of s now) r

-- the key of an accepted client, which has one
abbrev pub key_of_client : Realm → ClientSeen → List ℕ
key_of_client realm client = unwrap_or (key_at realm.users client.name client.algorithm) []

-- ---- the verdict as a conjunction

-- a client is accepted under a nonce
abbrev pub IsAcceptedBy : Realm → List ℕ → Reading → ClientSeen → Type 0
IsAcceptedBy realm nonce r client =
    IsAcceptedOffering realm.users realm.feature nonce realm.offered r client

-- a client is accepted under a nonce of a secret: that of an epoch, or of the epoch before
abbrev pub IsAcceptedUnder : Settings → Realm → List ℕ → SocketAddr → ℕ → Reading → ClientSeen
    → Type 0
IsAcceptedUnder s realm secret from zero r client =
    IsAcceptedBy realm (nonce_in s secret from 0) r client
IsAcceptedUnder s realm secret from (suc e) r client =
    IsAcceptedBy realm (nonce_in s secret from (suc e)) r client
    ⊎ IsAcceptedBy realm (nonce_in s secret from e) r client

-- a client is accepted under a nonce of the previous secret, if there is one
abbrev pub IsAcceptedByPrevious : Settings → Realm → Option (List ℕ) → SocketAddr → ℕ → Reading
    → ClientSeen
    → Type 0
IsAcceptedByPrevious s realm None from epoch r client = ⊥
IsAcceptedByPrevious s realm (Some secret) from epoch r client =
    IsAcceptedUnder s realm secret from epoch r client

-- a client is accepted at a time
abbrev pub IsAcceptedAt : Settings → Realm → SocketAddr → ℕ → Reading → ClientSeen → Type 0
IsAcceptedAt s realm from now r client =
    IsAcceptedUnder s realm s.secret from (epoch_of s now) r client
    ⊎ IsAcceptedByPrevious s realm s.previous from (epoch_of s now) r client

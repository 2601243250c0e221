-- The users whom a server is passed, at its realm.
use Rattle.std.proofs.Common.{◌≡◌, ℕ, List, Option, Some, None, Bool, true, false, refl, ◌∙◌, ap}
use Rattle.std.specs.Prelude.{◌≢◌, cond, not}
use Rattle.std.specs.Str.{bytes_eq}
use Rattle.std.proofs.lemmas.Slice.Eq.{bytes_eq-Decides}
use Rattle.std.specs.declared.net.socket_addr.SocketAddr.{SocketAddr}
use Rattle.stun_judging.specs.Named.{just}
use Rattle.stun_judging.specs.Registered.{Registered, RegisteredUser}
use Rattle.stun_judging.proofs.TableUsers.{at_same}
use Rattle.stun_endpoint.specs.Judged.{Realm, has_other_realm, realm_of_user, users_at}
use Rattle.stun_endpoint.specs.Received.{Outcome, dropped, received_by, received_for}
use Rattle.stun_endpoint.specs.Settings.{Settings, registered_of}
use Rattle.stun_endpoint.specs.code.Found.{realm_of_found}
use Rattle.stun_endpoint.specs.declared.received.DropReason.TheVariants.{OtherRealm}

-- users of the server's realm
pub own_realm : (s : Settings) (users : Registered) → users.realm ≡ s.realm
    → has_other_realm s (Some users) ≡ false
own_realm s users same = ap not ((bytes_eq-Decides users.realm s.realm).1 same)

-- they are judged as they are in their table
pub realm_of_own : (s : Settings) (users : Registered) → users.realm ≡ s.realm
    → realm_of_user s (Some users)
    ≡ record {
      users = record (registered_of s) { secrets = users.secrets };
      feature = s.feature;
      offered = s.algorithms;
    }
realm_of_own s users same =
    ap (λ (r : Registered). record { users = r; feature = s.feature; offered = s.algorithms })
    (at_same (registered_of s) users same)

-- with them the outcome is the one that they are judged to have
pub received_of_own : (s : Settings) (users : Option Registered) (from : SocketAddr) (now : ℕ)
    (bytes : List ℕ) → has_other_realm s users ≡ false
    → received_for s users from now bytes ≡ received_by s (realm_of_user s users) from now bytes
received_of_own s users from now bytes fine =
    ap (λ b. cond {A = Outcome} b (dropped OtherRealm)
    (received_by s (realm_of_user s users) from now bytes)) fine

-- with users of another realm each datagram is dropped
pub dropped_for_other : (s : Settings) (users : Registered) (from : SocketAddr) (now : ℕ)
    (bytes : List ℕ) → users.realm ≢ s.realm
    → received_for s (Some users) from now bytes ≡ dropped OtherRealm
dropped_for_other s users from now bytes other = by (bytes_eq users.realm s.realm) refl
  where
    by : (b : Bool) → bytes_eq users.realm s.realm ≡ b
        → cond {A = Outcome} (not b) (dropped OtherRealm)
        (received_by s (realm_of_user s (Some users)) from now bytes)
        ≡ dropped OtherRealm
    by true h = absurd (other ((bytes_eq-Decides users.realm s.realm).0 h))
    by false h = refl

-- a user who was found is of the server's realm
pub found_received : (s : Settings) (user : RegisteredUser) (from : SocketAddr) (now : ℕ)
    (bytes : List ℕ)
    → received_for s (Some (just (registered_of s) (Some user))) from now bytes
    ≡ received_by s (realm_of_found s user) from now bytes
found_received s user from now bytes =
    received_of_own s (Some (just (registered_of s) (Some user))) from now bytes
    (own_realm s (just (registered_of s) (Some user)) refl)
    ∙ ap (λ (realm : Realm). received_by s realm from now bytes)
    (realm_of_own s (just (registered_of s) (Some user)) refl)

-- the algorithms are those of the server
pub algorithms_at : (s : Settings) (users : Option Registered)
    → (users_at s users).algorithms ≡ s.algorithms
algorithms_at s None = refl
algorithms_at s (Some users) = refl

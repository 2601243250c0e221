-- The part of a server that concerns one address, and the nonce that is current there (RFC 8489,
-- section 9.2.4).
use Rattle.std.specs.Prelude.{ℕ, nat_le, List, Bool, false}
use Rattle.std.specs.Prelude.{if◌then◌else◌, Option, Some, None}
use Rattle.stun_base.specs.Moments.{moment_after}
use Rattle.stun_judging.specs.declared.feature.Feature.{Feature}
use Rattle.stun_judging.specs.Nonces.{nonce_of}
use Rattle.stun_judging.specs.Registered.{Registered}
use Rattle.stun_auth.specs.Seen.{PlaceSeen, renewed_place}

-- the part of a server that concerns one address
pub record Sight : Type 0 where
  pub registered : Registered
  pub feature : Feature
  pub expiry : ℕ
  pub place : Option PlaceSeen

-- whether a nonce is current at a time, which must not be later than its expiry time
abbrev pub has_current_nonce : ℕ → Option PlaceSeen → Bool
has_current_nonce now None = false
has_current_nonce now (Some place) = nat_le now place.expires

-- the record if its nonce is current, and otherwise the record with this new nonce
abbrev pub current_place_of : Option PlaceSeen → List ℕ → ℕ → ℕ → PlaceSeen
current_place_of None nonce now end = renewed_place None nonce end
current_place_of (Some place) nonce now end =
    if nat_le now place.expires then place else renewed_place (Some place) nonce end

-- the record of the address when a nonce is needed: a current nonce stays, and otherwise a new
-- nonce is made from the random words
abbrev pub current_place : Sight → ℕ → List ℕ → PlaceSeen
current_place s now words =
    current_place_of s.place (nonce_of s.registered.algorithms s.feature words) now
    (moment_after now s.expiry)

-- A server as data, for its Model.
use Rattle.std.specs.Prelude.{ℕ, refl}
use Rattle.std.specs.FinMap as map
use Rattle.std.specs.Coded.{Coded, code_by, coded×, coded_ℕ}
use Rattle.stun_base.specs.Address.{address_cmp}
use Rattle.stun_judging.specs.declared.feature.Feature.{Feature}
use Rattle.stun_auth.specs.code.AddressCode.{coded_address}
use Rattle.stun_judging.specs.code.Feature.{coded_feature}
use Rattle.stun_judging.specs.Registered.{Registered}
use Rattle.stun_judging.specs.code.Registered.{coded_registered}
use Rattle.stun_auth.specs.Seen.{PlaceSeen}
use Rattle.stun_auth.specs.code.Seen.{coded_place}
use Rattle.stun_auth.specs.Validation.{ServerSeen}

abbrev pub coded_server : Coded ServerSeen
coded_server = code_by (Registered × (Feature × (ℕ × map.FinMap address_cmp PlaceSeen)))
    (coded× coded_registered
    (coded× coded_feature (coded× coded_ℕ (map.code coded_address coded_place))))
    (λ s. (s.registered, (s.feature, (s.expiry, s.places))))
    (λ p. record { registered = p.0; feature = p.1.0; expiry = p.1.1.0; places = p.1.1.1 })
    (λ _. refl)

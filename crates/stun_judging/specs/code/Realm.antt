-- A realm as data, for Models.
use Rattle.std.specs.Prelude.{refl}
use Rattle.std.specs.Coded.{Coded, code_by, coded×}
use Rattle.stun_judging.specs.declared.feature.Feature.{Feature}
use Rattle.stun_judging.specs.code.Feature.{coded_feature}
use Rattle.stun_judging.specs.code.Registered.{coded_registered}
use Rattle.stun_judging.specs.Realm.{RealmSeen}
use Rattle.stun_judging.specs.Registered.{Registered}

abbrev pub coded_realm : Coded RealmSeen
coded_realm =
    code_by (Registered × Feature) (coded× coded_registered coded_feature)
    (λ realm. (realm.registered, realm.feature))
    (λ p. record { registered = p.0; feature = p.1 }) (λ _. refl)

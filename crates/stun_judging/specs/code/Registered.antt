-- The users of a realm as data, for Models.
use Rattle.std.specs.Prelude.{◌≡◌, ℕ, List, Option, ◌⊎◌, refl}
use Rattle.std.proofs.Common.{inl, inr}
use Rattle.std.specs.FinMap as map
use Rattle.std.specs.Coded.{Coded, code_by, coded×, coded⊎, coded_ℕ, coded_list, coded_option}
use Rattle.stun_judging.specs.declared.algorithm_set.AlgorithmSet.{AlgorithmSet}
use Rattle.stun_judging.specs.declared.stored_keys.StoredKeys.{StoredKeys}
use Rattle.stun_judging.specs.code.Algorithms.{coded_set}
use Rattle.stun_judging.specs.Registered.{Registered, UserSecret, name_cmp, of_keys, of_password}

abbrev pub coded_stored : Coded StoredKeys
coded_stored =
    code_by (Option (List ℕ) × Option (List ℕ))
    (coded× (coded_option (coded_list coded_ℕ)) (coded_option (coded_list coded_ℕ)))
    (λ keys. (keys.sha1, keys.sha256)) (λ p. record { sha1 = p.0; sha256 = p.1 }) (λ _. refl)

abbrev pub secret_parts : UserSecret → List ℕ ⊎ StoredKeys
secret_parts (of_password password) = inl password
secret_parts (of_keys keys) = inr keys

abbrev pub from_secret_parts : List ℕ ⊎ StoredKeys → UserSecret
from_secret_parts (inl password) = of_password password
from_secret_parts (inr keys) = of_keys keys

pub secret_again : (secret : UserSecret) → from_secret_parts (secret_parts secret) ≡ secret
secret_again (of_password password) = refl
secret_again (of_keys keys) = refl

abbrev pub coded_secret : Coded UserSecret
coded_secret =
    code_by (List ℕ ⊎ StoredKeys) (coded⊎ (coded_list coded_ℕ) coded_stored) secret_parts
    from_secret_parts secret_again

abbrev pub coded_registered : Coded Registered
coded_registered = code_by (List ℕ × (AlgorithmSet × map.FinMap name_cmp UserSecret))
    (coded× (coded_list coded_ℕ) (coded× coded_set (map.code (coded_list coded_ℕ) coded_secret)))
    (λ r. (r.realm, (r.algorithms, r.secrets)))
    (λ p. record { realm = p.0; algorithms = p.1.0; secrets = p.1.1 }) (λ _. refl)

-- The settings of a client and what it stores, as data, for Models.
use Rattle.std.specs.Prelude.{◌≡◌, ℕ, List, Bool, true, false, Option, Some, None, ◌⊎◌, refl}
use Rattle.std.proofs.Common.{inl, inr}
use Rattle.std.specs.Coded.{Coded, code_by, coded×, coded⊎, coded_ℕ}
use Rattle.std.specs.Coded.{coded_bool, coded_list, coded_option}
use Rattle.stun_base.specs.Credentials.{NameAndPassword}
use Rattle.stun_base.specs.declared.keys.algorithm.IntegrityAlgorithm.{IntegrityAlgorithm}
use Rattle.stun_judging.specs.code.Algorithms.{coded_algorithm}
use Rattle.stun_judging.specs.code.Feature.{coded_feature}
use Rattle.stun_judging.specs.declared.feature.Feature.{Feature}
use Rattle.stun_auth.specs.Client.{Challenge, ClientSettings, ClientSide, ClientState}
use Rattle.stun_judging.specs.Naming.{Naming, hashed, plain}
use Rattle.stun_auth.specs.Client.{authenticated, authenticating, initial}

-- ---- a client as data
abbrev pub naming_parts : Naming → List ℕ ⊎ List ℕ
naming_parts (plain name) = inl name
naming_parts (hashed hash) = inr hash

abbrev pub from_naming_parts : List ℕ ⊎ List ℕ → Naming
from_naming_parts (inl name) = plain name
from_naming_parts (inr hash) = hashed hash

pub naming_again : (naming : Naming) → from_naming_parts (naming_parts naming) ≡ naming
naming_again (plain name) = refl
naming_again (hashed hash) = refl

abbrev pub coded_naming : Coded Naming
coded_naming =
    code_by (List ℕ ⊎ List ℕ) (coded⊎ (coded_list coded_ℕ) (coded_list coded_ℕ)) naming_parts
    from_naming_parts naming_again

abbrev pub coded_challenge : Coded Challenge
coded_challenge =
    code_by (Naming
    × (List ℕ × (List ℕ × (List IntegrityAlgorithm × (IntegrityAlgorithm × List ℕ)))))
    (coded× coded_naming
    (coded× (coded_list coded_ℕ)
    (coded× (coded_list coded_ℕ)
    (coded× (coded_list coded_algorithm) (coded× coded_algorithm (coded_list coded_ℕ))))))
    (λ c. (c.naming, (c.realm, (c.nonce, (c.algorithms, (c.algorithm, c.key))))))
    (λ p. record {
      naming = p.0;
      realm = p.1.0;
      nonce = p.1.1.0;
      algorithms = p.1.1.1.0;
      algorithm = p.1.1.1.1.0;
      key = p.1.1.1.1.1;
    }) (λ _. refl)

abbrev pub state_parts : ClientState → Option (Bool × Challenge)
state_parts initial = None
state_parts (authenticating c) = Some (false, c)
state_parts (authenticated c) = Some (true, c)

abbrev pub from_state_parts : Option (Bool × Challenge) → ClientState
from_state_parts None = initial
from_state_parts (Some (false, c)) = authenticating c
from_state_parts (Some (true, c)) = authenticated c

pub state_again : (state : ClientState) → from_state_parts (state_parts state) ≡ state
state_again initial = refl
state_again (authenticating c) = refl
state_again (authenticated c) = refl

abbrev pub coded_user : Coded NameAndPassword
coded_user =
    code_by (List ℕ × List ℕ) (coded× (coded_list coded_ℕ) (coded_list coded_ℕ))
    (λ u. (u.username, u.password)) (λ p. record { username = p.0; password = p.1 }) (λ _. refl)

abbrev pub coded_settings : Coded ClientSettings
coded_settings = code_by (List IntegrityAlgorithm × (Feature × Option NameAndPassword))
    (coded× (coded_list coded_algorithm) (coded× coded_feature (coded_option coded_user)))
    (λ s. (s.supported, (s.feature, s.credentials)))
    (λ p. record { supported = p.0; feature = p.1.0; credentials = p.1.1 }) (λ _. refl)

abbrev pub coded_client_side : Coded ClientSide
coded_client_side = code_by (ClientSettings × ClientState)
    (coded× coded_settings
    (code_by (Option (Bool × Challenge)) (coded_option (coded× coded_bool coded_challenge))
    state_parts from_state_parts state_again))
    (λ c. (c.settings, c.state)) (λ p. record { settings = p.0; state = p.1 }) (λ _. refl)

-- A feature as data, for Models.
use Rattle.std.specs.Prelude.{◌≡◌, ℕ, zero, suc, refl}
use Rattle.std.specs.Coded.{Coded, code_by, coded_ℕ}
use Rattle.stun_judging.specs.declared.feature.Feature.{Feature}
use Rattle.stun_judging.specs.declared.feature.Feature.TheVariants.{Auto, Required, Disabled}

abbrev pub feature_number : Feature → ℕ
feature_number Auto = 0
feature_number Required = 1
feature_number Disabled = 2

abbrev pub feature_of : ℕ → Feature
feature_of zero = Auto
feature_of (suc zero) = Required
feature_of (suc (suc n)) = Disabled

pub feature_again : (f : Feature) → feature_of (feature_number f) ≡ f
feature_again Auto = refl
feature_again Required = refl
feature_again Disabled = refl

-- a feature as data
abbrev pub coded_feature : Coded Feature
coded_feature = code_by ℕ coded_ℕ feature_number feature_of feature_again

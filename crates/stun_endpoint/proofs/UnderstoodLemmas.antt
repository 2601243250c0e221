-- No type is left to tell if and only if no attribute is of one.
use Rattle.std.proofs.Common.{◌≡◌, ℕ, Bool, true, false, cond, List, [], ◌∷◌, refl}
use Rattle.std.specs.List.{list_any}
use Rattle.std.specs.Prelude.{filter, not, ◌||◌}
use Rattle.stun_types.specs.Walk.{Member}
use Rattle.stun_endpoint.specs.Received.{is_empty}
use Rattle.stun_extra.specs.Unknown.{kinds_of, types_of, without_repeats}

pub is_empty-types : (test : ℕ → Bool) (ms : List Member)
    → is_empty (types_of (without_repeats (filter test (kinds_of ms))))
    ≡ not (list_any (λ m. test m.1.kind) ms)
is_empty-types test [] = refl
is_empty-types test (m ∷ ms) = by (is_empty-types test ms) (test m.1.kind)
  where
    others : List ℕ
    others = filter test (kinds_of ms)

    by : (is_empty (types_of (without_repeats others)) ≡ not (list_any (λ m. test m.1.kind) ms))
        → (passes : Bool)
        → is_empty (types_of (without_repeats (cond passes (m.1.kind ∷ others) others)))
        ≡ not (passes || list_any (λ m. test m.1.kind) ms)
    by rest true = refl
    by rest false = rest

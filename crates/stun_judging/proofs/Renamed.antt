-- A nonce whose letters begin as the cookie does.
use Rattle.std.proofs.Common.{◌≡◌, ◌<◌, ℕ, ◌++◌, List, [], ◌∷◌, drop, map, true, sym, ap, ◌∙◌, refl}
use Rattle.std.proofs.Common.{length, set, arith}
use Rattle.std.proofs.lemmas.List.{drop-map}
use Rattle.std.specs.Prelude.{cond, ◌==◌}
use Rattle.stun_judging.specs.declared.algorithm_set.AlgorithmSet.{AlgorithmSet}
use Rattle.stun_judging.specs.declared.feature.Feature.{Feature}
use Rattle.stun_judging.specs.Nonces.{begins_with_cookie, letter, security_byte}
use Rattle.stun_judging.specs.Nonces.{front, without_cookie, nonce_of}

-- 41 is a number of the letter p
pub first_replaced : (words : List ℕ) → 0 < length words
    → map letter (set words 0 41) ≡ 112 ∷ map letter (drop 1 words)
first_replaced [] l = grind arith
first_replaced (w ∷ ws) l = refl

-- the first letter is p, and the others stay
pub renamed : (algorithms : AlgorithmSet) (feature : Feature) (words : List ℕ)
    → security_byte algorithms feature ≡ 0 → begins_with_cookie (map letter words) ≡ true
    → 112 ∷ map letter (drop 1 words) ≡ nonce_of algorithms feature words
renamed algorithms feature words plain spelled =
    ap (λ ws. 112 ∷ ws) (sym (drop-map letter 1 words))
    ∙ sym (ap (λ b. cond b (112 ∷ drop 1 (map letter words)) (map letter words)) spelled)
    ∙ sym (ap (λ n. cond (n == 0) (without_cookie (map letter words)) (front n ++ map letter words))
    plain)

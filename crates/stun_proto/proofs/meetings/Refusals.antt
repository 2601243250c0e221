-- The first refusal of a server that holds.
use Rattle.std.proofs.Common.{◌≡◌, ℕ, List, [], ◌∷◌, Option, Some, None}
use Rattle.std.proofs.Common.{Bool, true, false, refl, ◌∙◌, ap, Err}
use Rattle.std.specs.Prelude.{not, ◌&&◌, ◌||◌}
use Rattle.std.specs.List.{find}
use Rattle.std.specs.Option.{is_some, is_none, option_map_or}
use Rattle.std.specs.Str.{bytes_eq}
use Rattle.stun_judging.specs.declared.algorithm_set.AlgorithmSet.{AlgorithmSet}
use Rattle.stun_judging.specs.declared.feature.Feature.{Feature}
use Rattle.stun_judging.specs.Reading.{Reading}
use Rattle.stun_auth.specs.Reasons.{ServerRefusal}
use Rattle.stun_auth.specs.code.Reasons.{bad_request, unauthorized}
use Rattle.stun_judging.specs.Registered.{Registered}
use Rattle.stun_judging.specs.Verdict.{agreement, client_of, nonce_refusal}
use Rattle.stun_judging.specs.Verdict.{or_refused, verified_named, their_nonce, verdict}

-- the first refusal that holds
abbrev pub refused_by : Bool → Bool → Bool → Bool → Bool → Bool → ServerRefusal
    → Option ServerRefusal
refused_by b1 b2 b3 b4 b5 b6 other =
    option_map_or (λ (row : Bool × ServerRefusal). Some row.1)
    (find (λ (row : Bool × ServerRefusal). row.0)
    ((b1, unauthorized) ∷ (b2, bad_request) ∷ (b3, bad_request) ∷ (b4, bad_request) ∷ (b5, other)
    ∷ (b6, unauthorized) ∷ [])) None

four_fail : (b1 b2 b3 b4 b5 b6 : Bool) (other : ServerRefusal) → b1 ≡ false → b2 ≡ false
    → b3 ≡ false → b4 ≡ false
    → refused_by b1 b2 b3 b4 b5 b6 other ≡ refused_by false false false false b5 b6 other
four_fail b1 b2 b3 b4 b5 b6 other h1 h2 h3 h4 =
    ap (λ b. refused_by b b2 b3 b4 b5 b6 other) h1
    ∙ ap (λ b. refused_by false b b3 b4 b5 b6 other) h2
    ∙ ap (λ b. refused_by false false b b4 b5 b6 other) h3
    ∙ ap (λ b. refused_by false false false b b5 b6 other) h4

pub none_holds : (b1 b2 b3 b4 b5 b6 : Bool) (other : ServerRefusal) → b1 ≡ false → b2 ≡ false
    → b3 ≡ false → b4 ≡ false → b5 ≡ false → b6 ≡ false
    → refused_by b1 b2 b3 b4 b5 b6 other ≡ None
none_holds b1 b2 b3 b4 b5 b6 other h1 h2 h3 h4 h5 h6 =
    four_fail b1 b2 b3 b4 b5 b6 other h1 h2 h3 h4
    ∙ ap (λ b. refused_by false false false false b b6 other) h5
    ∙ ap (λ b. refused_by false false false false false b other) h6

pub fifth_holds : (b1 b2 b3 b4 b5 b6 : Bool) (other : ServerRefusal) → b1 ≡ false → b2 ≡ false
    → b3 ≡ false → b4 ≡ false → b5 ≡ true
    → refused_by b1 b2 b3 b4 b5 b6 other ≡ Some other
fifth_holds b1 b2 b3 b4 b5 b6 other h1 h2 h3 h4 h5 =
    four_fail b1 b2 b3 b4 b5 b6 other h1 h2 h3 h4
    ∙ ap (λ b. refused_by false false false false b b6 other) h5

pub some_there : {A : Type 0} (o : Option A) → is_some o ≡ true → is_none o ≡ false
some_there None h = cc
some_there (Some x) h = refl

none_there : {A : Type 0} (o : Option A) → is_some o ≡ false → is_none o ≡ true
none_there None h = refl
none_there (Some x) h = cc

first_holds : (b1 b2 b3 b4 b5 b6 : Bool) (other : ServerRefusal) → b1 ≡ true
    → refused_by b1 b2 b3 b4 b5 b6 other ≡ Some unauthorized
first_holds b1 b2 b3 b4 b5 b6 other h = ap (λ b. refused_by b b2 b3 b4 b5 b6 other) h

-- a message without a digest is refused for that
pub bare_verdict : (users : Registered) (feature : Feature) (ours : List ℕ)
    (offered : Option AlgorithmSet) (r : Reading)
    → is_some r.integrity ≡ false → verdict users feature ours offered r ≡ Err unauthorized
bare_verdict users feature ours offered r bare =
    ap (λ o. or_refused o (client_of users feature ours offered r))
    (first_holds (is_none r.integrity) (is_none r.realm || is_none r.nonce)
    (is_none r.userhash && is_none r.username)
    (is_none (agreement r (their_nonce r) offered)) (not (bytes_eq (their_nonce r) ours))
    (is_none (verified_named users feature r (agreement r (their_nonce r) offered)))
    (nonce_refusal ours (their_nonce r)) (none_there r.integrity bare))

-- What a refusal that is looked for tells of an answer.
use Rattle.std.proofs.Common.{◌≡◌, refl, ap}
use Rattle.std.specs.Prelude.{Option, Some, None, Result, Ok, Err, MatchOption, IsOkUnless, IsErrOf}
use Rattle.std.specs.Option.{option_or}

pub none-from_ok : {T E : Type 0} (o : Option E) (x y : T)
    → MatchOption o (◌≡◌ {A = Result T E} (Ok y) (Ok x)) (λ e. ◌≡◌ {A = Result T E} (Ok y) (Err e))
    → o ≡ None
none-from_ok None x y h = refl
none-from_ok (Some e) x y h = cc

pub some-from_err : {T E : Type 0} (o : Option E) (x : T) (e : E)
    → MatchOption o (◌≡◌ {A = Result T E} (Err e) (Ok x))
    (λ f. ◌≡◌ {A = Result T E} (Err e) (Err f)) → o ≡ Some e
some-from_err None x e h = cc
some-from_err (Some f) x e h = cc

-- the second reason counts where the first does not hold
pub or-from_second : {E : Type 0} (o p : Option E) (e : E) → o ≡ None → p ≡ Some e
    → option_or o p ≡ Some e
or-from_second None p e h k = k
or-from_second (Some f) p e h k = cc

-- an error that is handed on
pub handed_on : (T U : Type 0) {E : Type 0} (o : Option E) (e limit : E)
    → MatchOption o (IsOkUnless {T = T} {E = E} (Err e) limit) (IsErrOf {T = T} {E = E} (Err e))
    → MatchOption o (IsOkUnless {T = U} {E = E} (Err e) limit) (IsErrOf {T = U} {E = E} (Err e))
handed_on T U None e limit h = h
handed_on T U (Some f) e limit h = let same : e ≡ f = cc in ap Err same

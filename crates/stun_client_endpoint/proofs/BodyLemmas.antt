-- Writing a body, one attribute after another.
use Rattle.std.proofs.Common.{◌≡◌, ℕ, suc, ◌+◌, ◌<◌, List, ◌∷◌, drop, get_or, length}
use Rattle.std.proofs.Common.{◌∙◌, add-one, ap, drop-cons, sym}
use Rattle.std.specs.Prelude.{Err, Ok}
use Rattle.stun_base.specs.declared.wire.error.StunWriteError.{StunWriteError}
use Rattle.stun_client_endpoint.specs.Bodies.{Body, Piece, attribute_for}
use Rattle.stun_client_endpoint.specs.Written.{Page?, and_then, with_another, with_body}

-- what is left from an index on begins with the one there
from_at : (xs : Body) (i : ℕ) (x : Piece) → i < length xs → x ≡ get_or xs i x
    → drop i xs ≡ x ∷ drop (i + 1) xs
from_at xs i x lt is =
    rw (add-one i) (drop-cons xs i x lt ∙ ap (λ y. y ∷ drop (suc i) xs) (sym is))

pub body_goes_on : (id i : ℕ) (xs : Body) (x : Piece) (page next : List ℕ) (whole : Page?)
    → i < length xs → x ≡ get_or xs i x
    → with_another (attribute_for id x) page ≡ Ok next
    → with_body id (drop i xs) page ≡ whole
    → with_body id (drop (i + 1) xs) next ≡ whole
body_goes_on id i xs x page next whole lt is added before =
    ap (λ r. and_then r (with_body id (drop (i + 1) xs))) (sym added)
    ∙ ap (λ ys. with_body id ys page) (sym (from_at xs i x lt is))
    ∙ before

pub body_stops : (id i : ℕ) (xs : Body) (x : Piece) (page : List ℕ) (why : StunWriteError)
    (whole : Page?)
    → i < length xs → x ≡ get_or xs i x
    → with_another (attribute_for id x) page ≡ Err why
    → with_body id (drop i xs) page ≡ whole
    → whole ≡ Err why
body_stops id i xs x page why whole lt is refused before =
    sym before ∙ ap (λ ys. with_body id ys page) (from_at xs i x lt is)
    ∙ ap (λ r. and_then r (with_body id (drop (i + 1) xs))) refused

-- Letters are ASCII, so they are text.
use Rattle.std.proofs.Common.{◌≡◌, ◌<◌, ◌%◌, ◌∷◌, nat_lt, ℕ, zero, suc, true, refl, List, [], map}
use Rattle.std.proofs.Common.{lit<, arith, rules}
use Rattle.std.specs.Str.{IsAscii, IsUtf8}
use Rattle.std.proofs.lemmas.Str.{IsUtf8-from_ascii}
use Rattle.std.proofs.lemmas.Bool.{agree_below_at}
use Rattle.stun_judging.specs.Nonces.{letter, letter_at}

small : (n : ℕ) → letter n < 128
small n =
    let e : nat_lt (letter n) 128 ≡ true =
    agree_below_at (λ m. nat_lt (letter_at m) 128) (λ m. true) 62 (n % 62) refl (omega arith) in
    search rules

ascii : (ns : List ℕ) → IsAscii (map letter ns)
ascii [] i = lit< tt
ascii (n ∷ ns) zero = small n
ascii (n ∷ ns) (suc i) = ascii ns i

pub letters_are_text : (ns : List ℕ) → IsUtf8 (map letter ns)
letters_are_text ns = IsUtf8-from_ascii _ (ascii ns)

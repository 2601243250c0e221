-- Bytes that are all below 128 are ASCII: so are the few texts of the library and of its examples.
use Rattle.std.proofs.Common.{ℕ, zero, suc, ◌≡◌, ◌<◌, Bool, true, ◌&&◌, List, [], ◌∷◌}
use Rattle.std.specs.Prelude.{nat_lt}
use Rattle.std.specs.Str.{IsAscii}
use Rattle.std.proofs.lemmas.Bool.{ltb-true}
use Rattle.std.proofs.lemmas.Str.Ascii.{IsAscii-nil}
use Rattle.stun_proto.proofs.Tests.{both}

abbrev pub all_small : List ℕ → Bool
all_small [] = true
all_small (b ∷ bytes) = nat_lt b 128 && all_small bytes

in_front : (b : ℕ) (bytes : List ℕ) → b < 128 → IsAscii bytes → IsAscii (b ∷ bytes)
in_front b bytes small ascii zero = small
in_front b bytes small ascii (suc i) = ascii i

pub from_small : (bytes : List ℕ) → all_small bytes ≡ true → IsAscii bytes
from_small [] h = IsAscii-nil
from_small (b ∷ bytes) h =
    let split = both (nat_lt b 128) (all_small bytes) h in
    in_front b bytes (ltb-true b 128 split.0) (from_small bytes split.1)

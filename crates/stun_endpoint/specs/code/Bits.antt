-- The security bits of a server as the code spells them.
use Rattle.std.specs.Prelude.{ℕ, List, Bool, true, false, codes}

-- the text for whether HMAC-SHA256 is supported, and whether users may be named by a hash
abbrev pub bits_text : Bool → Bool → List ℕ
bits_text true true = codes "wAAA"
bits_text true false = codes "gAAA"
bits_text false true = codes "QAAA"
bits_text false false = codes "AAAA"

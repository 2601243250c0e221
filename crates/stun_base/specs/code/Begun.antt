-- The hashers of a prepared key, which have been fed its two padded blocks (RFC 2104, section 4).
use Rattle.std.specs.Prelude.{ℕ, List}
use Rattle.sha1.specs.Sha1.{sha1}
use Rattle.sha1.specs.Sha1.{Holds as HoldsSha1}
use Rattle.sha2.specs.Sha256.{sha256}
use Rattle.sha2.specs.Hashers.{Holds256}
use Rattle.stun_base.specs.code.Padded.{IsBegun}
use Rattle.stun_base.specs.declared.keys.prepared_key.Begun.{Begun}
use Rattle.stun_base.specs.declared.keys.prepared_key.Begun.TheVariants.{Sha1, Sha256}

-- the hashers have been fed the two padded blocks of this key
abbrev pub IsBegunUnder : List ℕ → Begun → Type 0
IsBegunUnder key (Sha1 begun) = IsBegun HoldsSha1 sha1 key begun.inner begun.outer
IsBegunUnder key (Sha256 begun) = IsBegun Holds256 sha256 key begun.inner begun.outer

-- The transaction IDs of a client (RFC 8489, section 5).
use Rattle.std.specs.Prelude.{ℕ, List}
use Rattle.byteorder.specs.Endian.{big_bytes, big_number}
use Rattle.sha1.specs.Sha1.{sha1}
use Rattle.stun_base.specs.Hmac.{hmac}

-- the ID of a number: the first 96 bits of the HMAC-SHA1 of the number in 8 bytes, under the seed
abbrev pub id_of : List ℕ → ℕ → ℕ
id_of seed number = big_number 12 (hmac sha1 seed (big_bytes 8 number))

-- The nonce of an address in an epoch. It is a function of the secret, the address and the epoch,
-- so a server stores no nonce (RFC 8489, section 9.2).
use Rattle.std.specs.Prelude.{ℕ, ◌/◌, List, [], ◌∷◌, ◌++◌, map, take}
use Rattle.std.specs.Net.Socket.{socket_ip, socket_port}
use Rattle.std.specs.declared.net.socket_addr.SocketAddr.{SocketAddr}
use Rattle.byteorder.specs.Endian.{big_bytes}
use Rattle.sha1.specs.Sha1.{sha1}
use Rattle.stun_base.specs.Hmac.{hmac}
use Rattle.stun_judging.specs.declared.algorithm_set.AlgorithmSet.{AlgorithmSet}
use Rattle.stun_judging.specs.declared.algorithm_set.AlgorithmSet.TheVariants.{OnlySha1}
use Rattle.stun_judging.specs.declared.algorithm_set.AlgorithmSet.TheVariants.{OnlySha256, Both}
use Rattle.stun_judging.specs.declared.feature.Feature.{Feature}
use Rattle.stun_judging.specs.Nonces.{letter, security_byte, spelled_bits}
use Rattle.stun_extra.specs.CanonicalAddress.{address_octets}
use Rattle.stun_endpoint.specs.Settings.{Settings}

-- a number for the supported algorithms
abbrev pub algorithms_number : AlgorithmSet → ℕ
algorithms_number OnlySha1 = 1
algorithms_number OnlySha256 = 2
algorithms_number Both = 3

-- the bytes that are hashed: the address, whose octets are the same in both spellings of IPv4, the
-- port in 2 bytes, the epoch in 8, and the algorithms. The algorithms are part of them so that a
-- client whose list is from other settings also has a nonce from other settings, and gets a 438.
-- The security bits alone do not suffice, because they do not distinguish HMAC-SHA256 alone from
-- both algorithms
abbrev pub nonce_text : AlgorithmSet → SocketAddr → ℕ → List ℕ
nonce_text algorithms from epoch =
    address_octets (socket_ip from) ++ big_bytes 2 (socket_port from) ++ big_bytes 8 epoch
    ++ algorithms_number algorithms ∷ []

-- the sixteen numbers that a nonce is made of: the first bytes of the HMAC-SHA1. The letter of a
-- number is its remainder modulo 62, so eight of the letters are a quarter more frequent than the
-- others. The best guess at all sixteen is right once in 2 ^ 90 times (their entropy is 95 bits)
abbrev pub words_of : AlgorithmSet → List ℕ → SocketAddr → ℕ → List ℕ
words_of algorithms secret from epoch =
    take 16 (hmac sha1 secret (nonce_text algorithms from epoch))

-- the 24 security bits of a server, in three bytes (section 18.1): the first bit is set if it
-- supports HMAC-SHA256, and the second if users may be named by a hash
abbrev pub security_bytes : AlgorithmSet → Feature → List ℕ
security_bytes algorithms feature = security_byte algorithms feature ∷ 0 ∷ 0 ∷ []

-- the beginning of each nonce of a server: the nonce cookie, and the security bits in base64. The
-- bits are zero if the server uses no security feature (section 9.2)
abbrev pub front_of : AlgorithmSet → Feature → List ℕ
front_of algorithms feature = spelled_bits (security_bytes algorithms feature)

-- the nonce of an address in an epoch, under a secret: sixteen letters follow
abbrev pub nonce_in : Settings → List ℕ → SocketAddr → ℕ → List ℕ
nonce_in s secret from epoch =
    front_of s.algorithms s.feature ++ map letter (words_of s.algorithms secret from epoch)

-- the epoch of a time
abbrev pub epoch_of : Settings → ℕ → ℕ
epoch_of s now = now / s.lifetime

-- the nonce that is current for an address at a time: the one that a response carries
abbrev pub current_nonce : Settings → SocketAddr → ℕ → List ℕ
current_nonce s from now = nonce_in s s.secret from (epoch_of s now)

-- Each nonce of a server begins with the nonce cookie and has the security bits of its settings.
use Rattle.std.proofs.Common.{◌≡◌, ◌≤◌, ◌+◌, ℕ, List, ◌++◌, Some, length, map}
use Rattle.std.proofs.Common.{true, sym, ◌∙◌}
use Rattle.std.specs.Prelude.{IsUtf8}
use Rattle.std.specs.declared.net.socket_addr.SocketAddr.{SocketAddr}
use Rattle.stun_judging.specs.Feature.{is_possible}
use Rattle.stun_judging.specs.Nonces.{asks_for_userhash, begins_with_cookie}
use Rattle.stun_judging.specs.Nonces.{letter, security_bits, security_byte}
use Rattle.stun_judging.proofs.MarkedNonces.{marked_asks_for_userhash, marked_begins_with_cookie}
use Rattle.stun_judging.proofs.MarkedNonces.{marked_bits, marked_is_short, marked_is_text}
use Rattle.stun_endpoint.specs.Nonces.{front_of, nonce_in, security_bytes, words_of}
use Rattle.stun_endpoint.specs.Settings.{Settings}

module _ (s : Settings) (secret : List ℕ) (from : SocketAddr) (epoch : ℕ) where
  abbrev letters : List ℕ
  letters = map letter (words_of s.algorithms secret from epoch)

  pub begins : begins_with_cookie (nonce_in s secret from epoch) ≡ true
  begins = marked_begins_with_cookie (security_byte s.algorithms s.feature) letters

  pub bits : security_bits (nonce_in s secret from epoch)
      ≡ Some (security_bytes s.algorithms s.feature)
  bits = marked_bits s.algorithms s.feature letters

  pub asks_for_hashes : asks_for_userhash (nonce_in s secret from epoch) ≡ is_possible s.feature
  asks_for_hashes = marked_asks_for_userhash s.algorithms s.feature letters

-- nonces of one server have the same bits
pub bits_alike : (s : Settings) (secret other : List ℕ) (from to : SocketAddr) (e f : ℕ)
    → security_bits (nonce_in s secret from e) ≡ security_bits (nonce_in s other to f)
bits_alike s secret other from to e f = bits s secret from e ∙ sym (bits s other to f)

-- the nonce of any words is a text that fits its attribute
pub text : (s : Settings) (words : List ℕ)
    → IsUtf8 (front_of s.algorithms s.feature ++ map letter words)
text s words = marked_is_text s.algorithms s.feature words

pub short : (s : Settings) (words : List ℕ)
    → length (front_of s.algorithms s.feature ++ map letter words) ≤ 13 + length words
short s words = marked_is_short s.algorithms s.feature words

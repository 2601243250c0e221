-- The security bits of a nonce are those of the settings, in base64 letters.
use Rattle.stun_judging.proofs.NonceBits.{asks_for_algorithms-nonce_of, asks_for_userhash-nonce_of}
use Rattle.stun_judging.proofs.NonceLengths.{nonce_is_short}
use Rattle.stun_judging.proofs.NonceTexts.{bits_alike, bits_there, nonce_is_text}
use Rattle.stun_judging.proofs.laws.nonces_ask_for_what_is_supported.Goals as goal

pub returns-clause-text : goal.returns-clause-text
returns-clause-text c = nonce_is_text

pub returns-clause-algorithms : goal.returns-clause-algorithms
returns-clause-algorithms c = asks_for_algorithms-nonce_of

pub returns-clause-userhash : goal.returns-clause-userhash
returns-clause-userhash c = asks_for_userhash-nonce_of

pub returns-clause-there : goal.returns-clause-there
returns-clause-there c = bits_there

pub returns-clause-alike : goal.returns-clause-alike
returns-clause-alike c = bits_alike

pub returns-clause-short : goal.returns-clause-short
returns-clause-short c = nonce_is_short

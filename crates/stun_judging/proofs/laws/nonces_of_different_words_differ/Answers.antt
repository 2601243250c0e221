-- What each word leaves over 62 is read back from its letter.
use Rattle.stun_judging.proofs.NoncesDiffer.{same_plain_words, same_words}
use Rattle.stun_judging.proofs.laws.nonces_of_different_words_differ.Goals as goal

pub returns-clause-with_bits : goal.returns-clause-with_bits
returns-clause-with_bits c = same_words

pub returns-clause-without_bits : goal.returns-clause-without_bits
returns-clause-without_bits c = same_plain_words

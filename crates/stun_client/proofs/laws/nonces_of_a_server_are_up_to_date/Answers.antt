-- A nonce asks for what its server supports.
use Rattle.std.proofs.Common.{inr, refl}
use Rattle.stun_judging.proofs.MarkedNonces.{marked_asks_for_algorithms, marked_asks_for_userhash}
use Rattle.stun_client.proofs.laws.nonces_of_a_server_are_up_to_date.Goals as goal

pub returns-clause-made : goal.returns-clause-made
returns-clause-made c = λ users feature words. record {
  algorithms = c.nonces_ask_for_what_is_supported.ensures.algorithms users.algorithms feature words;
  hashes = c.nonces_ask_for_what_is_supported.ensures.userhash users.algorithms feature words;
  offer = inr refl;
}

pub returns-clause-marked : goal.returns-clause-marked
returns-clause-marked c = λ users feature behind. record {
  algorithms = marked_asks_for_algorithms users.algorithms feature behind;
  hashes = marked_asks_for_userhash users.algorithms feature behind;
  offer = inr refl;
}

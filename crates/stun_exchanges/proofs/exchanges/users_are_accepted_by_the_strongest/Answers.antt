-- What reads as signed for a challenge has what an accepted request has.
use Rattle.std.proofs.Common.{◌∙◌, map, Some}
use Rattle.stun_judging.specs.Nonces.{letter}
use Rattle.stun_judging.specs.Reading.{reading_of}
use Rattle.stun_endpoint.specs.Nonces.{current_nonce, epoch_of, words_of}
use Rattle.stun_endpoint.specs.Settings.{registered_of}
use Rattle.stun_endpoint.proofs.RealmLemmas.{own_realm, received_of_own}
use Rattle.stun_exchanges.specs.Exchange.{realm_knowing}
use Rattle.stun_exchanges.proofs.AgreedLemmas.{accepted_again}
use Rattle.stun_exchanges.proofs.exchanges.users_are_accepted_by_the_strongest.Goals as goal

pub returns : goal.returns
returns c = λ s users who p a from made now bytes class error agree known within kept asks reads.
    let current = c.nonces_of_a_server_are_up_to_date.ensures.marked (registered_of s) s.feature
    (map letter (words_of s.algorithms s.secret from (epoch_of s made))) in
    received_of_own s (Some users) from now bytes (own_realm s users known.realm)
    ∙ c.clients_are_accepted_while_their_nonce_lasts.ensures s (realm_knowing s users) from made now
    bytes
    (record { name = who.username; algorithm = a }) kept asks within
    (accepted_again s users who known p (current_nonce s from made) a class error
    (reading_of bytes) current agree reads)

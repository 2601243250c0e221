-- It reads as signed for the challenge.
use Rattle.std.proofs.Common.{Some, None}
use Rattle.stun_base.specs.declared.wire.message_type.MessageClass.TheVariants.{Request}
use Rattle.stun_endpoint.specs.Nonces.{current_nonce, epoch_of, words_of}
use Rattle.stun_exchanges.specs.Exchange.{meant_for}
use Rattle.stun_requests.specs.ReadBack.{added_to}
use Rattle.stun_requests.proofs.ServedLemmas.{texts_of, undropped}
use Rattle.stun_requests.proofs.laws.requests_are_accepted.Goals as goal

pub returns : goal.returns
returns c = λ s users from made now form who p accepts a method id body bytes fine known name agree
    within low ordinary printed is.
    let nonce = current_nonce s from made in
    let challenge = Some (meant_for s p who nonce a) in
    let text = c.nonces_have_the_bits_of_their_server.ensures.text s
    (words_of s.algorithms s.secret from (epoch_of s made)) in
    let read = c.requests_are_read_back.ensures.as_made form who p accepts challenge method id body bytes low
    ordinary (texts_of s p who nonce a fine name text) is in
    c.users_are_accepted_by_the_strongest.ensures s users who p a from made now bytes Request None
    agree known within (undropped s form method (added_to challenge) bytes printed read) read.class
    read.reads

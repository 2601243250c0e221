-- It reads as a request without a signature.
use Rattle.std.proofs.Common.{None}
use Rattle.stun_requests.specs.ReadBack.{added_to}
use Rattle.stun_requests.proofs.BidLemmas.{nothing_there}
use Rattle.stun_requests.proofs.ServedLemmas.{undropped}
use Rattle.stun_requests.proofs.laws.requests_are_challenged.Goals as goal

pub returns : goal.returns
returns c = λ s realm from now form who p accepts method id body bytes low ordinary printed is.
    let read = c.requests_are_read_back.ensures.as_made form who p accepts None method id body bytes low
    ordinary (record { nonce = tt; realm = tt; username = tt; userhash = tt }) is in
    c.unsigned_requests_are_challenged.ensures s realm from now bytes
    (undropped s form method (added_to None) bytes printed read) read.class
    (nothing_there _ read.reads.integrity_is)

-- It reads as what it was made of, and so by the rule.
use Rattle.stun_requests.proofs.BidLemmas.{not_bid_down}
use Rattle.stun_requests.proofs.laws.written_requests_are_not_bid_down.Goals as goal

pub returns : goal.returns
returns c = λ form who p accepts challenge method id body bytes low ordinary text chosen is.
    not_bid_down c.signed_requests_are_not_bid_down.ensures p challenge form method bytes chosen
    (c.requests_are_read_back.ensures.as_made form who p accepts challenge method id body bytes low ordinary
    text is)

-- The key that verifies is the user's, and the request has a nonce that is accepted.
use Rattle.std.proofs.Common.{rules, arith, ◌≡◌, Some}
use Rattle.stun_judging.specs.Found.{found_key}
use Rattle.stun_endpoint.specs.Settings.{registered_of}
use Rattle.stun_endpoint.specs.code.Found.{waiting_claim}
use Rattle.stun_endpoint.proofs.FoundLemmas.{found_either}
use Rattle.stun_endpoint.proofs.server.Server.find_accepted_key.Goals as goal

pub returns-clause-key : goal.returns-clause-key
returns-clause-key g c =
    let s = c.args.self.now in
    let user = c.args.user.now in
    let bytes = c.args.read.now in
    let claim = c.in-Some.claim in
    let waits : waiting_claim s c.args.from c.args.epoch bytes ≡ Some claim =
    first_of (search rules, grind arith) in
    found_either s user c.args.from c.args.epoch bytes claim c.verify_claim.result waits
    c.verify_claim.ensures

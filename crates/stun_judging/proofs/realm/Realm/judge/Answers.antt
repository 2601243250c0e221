-- The verdict is an acceptance if and only if the conjunction holds.
use Rattle.std.proofs.Common.{rules, ◌≡◌, Some}
use Rattle.stun_judging.specs.Judged.{client_judged}
use Rattle.stun_judging.specs.Reading.{reading_of}
use Rattle.stun_judging.specs.Verdict.{verdict_offering}
use Rattle.stun_judging.proofs.Accepting.{judged-accepted}
use Rattle.stun_judging.proofs.realm.Realm.judge.Goals as goal

pub returns-clause-accepted : goal.returns-clause-accepted
returns-clause-accepted g c =
    let s = c.args.self.now in
    let users = c.args.self.now.registered in
    let same : client_judged c.judge_by_offer.result
    ≡ verdict_offering users s.feature c.args.nonce.now s.registered.algorithms
    (reading_of c.args.read.now) = search rules in
    judged-accepted users s.feature c.args.nonce.now s.registered.algorithms
    (reading_of c.args.read.now) c.judge_by_offer.result same

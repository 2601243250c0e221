-- What is challenged is longer by what was added, and what may be added is added without memory.
use Rattle.std.proofs.Common.{true≢false, refl, sym, ◌∙◌, ap}
use Rattle.std.specs.Result.{is_ok}
use Rattle.stun_judging.specs.Additions.{Page, added_all, page_in}
use Rattle.stun_judging.specs.Challenge.{challenge_under}
use Rattle.stun_judging.specs.Outcome.{outcome_of}
use Rattle.stun_judging.proofs.Growth.{grown_all, succeeds_reserved, wants_short}
use Rattle.stun_judging.proofs.realm.Realm.add_challenge.Goals as goal

pub returns-in_err-add_under-clause-succeeds : goal.returns-in_err-add_under-clause-succeeds
returns-in_err-add_under-clause-succeeds g c = λ may enough.
    let bytes = g.W.MessageWrite.bytes in
    let room = g.W.MessageWrite.room in
    let reserved = g.W.MessageWrite.reserved c.args.writer in
    let page : Page = page_in bytes room c.args.writer in
    let list = challenge_under c.args.self.now.registered c.args.nonce.now in
    let added =
    succeeds_reserved (λ r. outcome_of r (page_in bytes room c.add_under.new.writer))
    (λ reason. refl) (added_all list page) reserved _ _ (wants_short list page reserved)
    c.add_under.result c.add_under.ensures.added.outcome may enough in
    absurd (true≢false (sym added ∙ ap is_ok c.in_err-add_under.was))

pub returns-clause-grows : goal.returns-clause-grows
returns-clause-grows g c =
    let bytes = g.W.MessageWrite.bytes in
    let room = g.W.MessageWrite.room in
    grown_all (challenge_under c.args.self.now.registered c.args.nonce.now)
    (page_in bytes room c.args.writer) (page_in bytes room c.add_under.new.writer)
    c.requires.is_whole (sym c.in_ok-add_under.ensures.added.outcome)

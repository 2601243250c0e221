-- The mark is taken back if it was new.
use Rattle.std.proofs.Common.{◌≡◌, ◌∙◌}
use Rattle.stun_client_requests.proofs.IndexLemmas.{marked_back, put_again}
use Rattle.stun_client_requests.proofs.numbers.Numbers.mark.Goals as goal

pub returns-clause-back : goal.returns-clause-back
returns-clause-back g c =
    marked_back c.args.number c.self.inside.known.entries c.self.inside.unsent.keys
    c.add.new.set.keys c.in-Ok.is_new
    (put_again c.args.number c.self.inside.unsent.keys c.add.new.set.keys c.in-Ok.is_new
    c.in-Ok.ensures.added c.in-Ok.ensures.keys c.len-listed.ensures.ordered)
    ∙ c.self.view_is

-- Where none is over, the root tells the least time that is awaited.
use Rattle.std.proofs.Common.{rules, ℕ, ◌≡◌, ◌∙◌, ap, sym, map, min}
use Rattle.std.specs.Prelude.{max, fold}
use Rattle.std.specs.Option.{option_map_or}
use Rattle.stun_base.specs.Moments.{moment_after}
use Rattle.stun_base.specs.declared.wire.transport.TransportType.{TransportType}
use Rattle.stun_agent.specs.Transactions.{Transactions, awaited_moment, an_hour}
use Rattle.stun_agent.specs.code.Tree.{items}
use Rattle.stun_agent.proofs.AwaitedLemmas.{wake_up_is}
use Rattle.stun_agent.proofs.state.search.find_wake_up.Goals as goal
use Rattle.stun_agent.proofs.state.search.find_wake_up.Goals.{in-Some, in-None}

-- the least of these moments and of those that are awaited
abbrev least : TransportType → ℕ → Transactions → ℕ
least transport hour all = fold min hour (map (λ e. awaited_moment transport e.1) all)

pub returns-clause-until : goal.returns-clause-until
returns-clause-until g c transport timed none =
    let all = items c.args.index.now in
    let longest = c.add-longest.result in
    let told = c.look_at_first.ensures.first transport timed in
    let first : c.match-look_at_first.first
    ≡ option_map_or (λ m. min m longest) c.look_at_first.result longest =
    elim c.match-look_at_first.branch [
      | in-Some w ↦ (search rules)
      | in-None w ↦ (search rules)
    ] in
    let later : c.max.result ≡ max c.args.now c.match-look_at_first.first = search rules in
    let hour : longest ≡ moment_after c.args.now an_hour = search rules in
    later
    ∙ ap (max c.args.now)
    (first ∙ ap (λ o. option_map_or (λ m. min m longest) o longest) told
    ∙ sym (wake_up_is transport c.args.now longest all none))
    ∙ ap (λ h. max c.args.now (least transport h all)) hour

-- A capture begins with bytes that no raw message begins with.
use Rattle.std.proofs.Common.{◌≡◌, ◌∙◌, sym, ap, subst, false}
use Rattle.stun_cli.specs.Input.{IsReadOn}
use Rattle.stun_inspect.specs.Input.{is_raw}
use Rattle.stun_inspect.proofs.InputLemmas.{begun_capture}
use Rattle.stun_inspect.proofs.input.begin.Goals as goal

pub returns-in-Some : goal.returns-in-Some
returns-in-Some g c =
    let given = g.R.Read.remaining c.args.reader.now in
    let rest = g.R.Read.remaining c.read_up_to.new.reader in
    let front = c.in_ok-front.front.items in
    let other : is_raw front ≡ false =
    ap is_raw (sym c.as_slice.ensures.value) ∙ (sym c.is_raw.ensures ∙ c.if-not-is_raw.true) in
    begun_capture given rest front c.open.result
    (subst (λ before. IsReadOn given rest before front) c.new.ensures.items
    c.in_ok-front.ensures.read)
    c.in_ok-front.ensures.enough other c.open.ensures

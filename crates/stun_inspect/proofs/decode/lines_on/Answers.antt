-- Each line follows those before it.
use Rattle.std.proofs.Common.{◌≡◌, ◌+◌, [], ◌∷◌, ◌++◌, ◌∙◌, ap, arith, subst, sym, take, rules}
use Rattle.std.proofs.lemmas.List.{take_more}
use Rattle.std.specs.Prelude.{string_bytes}
use Rattle.stun_inspect.specs.Decode.{AreLinesOn}
use Rattle.stun_inspect.proofs.DecodeLemmas.{lines-more}
use Rattle.stun_inspect.proofs.decode.lines_on.Goals as goal

pub loop-attribute-preserved : goal.loop-attribute-preserved
loop-attribute-preserved g c =
    let i = c.loop-attribute.attribute-index in
    let told = c.args.told.now in
    let one_more : take (i + 1) told ≡ take i told ++ c.attribute-item.result ∷ [] =
    take_more told i c.attribute-item.result (omega arith)
    ∙ ap (λ t. take i told ++ t ∷ []) (sym c.attribute-item.is) in
    let all = string_bytes c.loop-attribute.text ++ string_bytes c.in_ok-line.line in
    let text_is : string_bytes c.push_str.new.self ≡ all = search rules in
    let message = c.args.message.now in
    subst (AreLinesOn message (take (i + 1) told)) (sym text_is)
    (subst (λ ts. AreLinesOn message ts all) (sym one_more)
    (lines-more message (take i told) c.attribute-item.result (string_bytes c.loop-attribute.text)
    (string_bytes c.in_ok-line.line) c.loop-attribute.invariant c.in_ok-line.ensures))

-- Each word of the page is the next of the source.
use Rattle.std.proofs.Common.{◌≡◌, refl, sym, ◌∙◌, ap, take, length-set, arith}
use Rattle.std.proofs.Math.Seq.{take-length}
use Rattle.stun_base.specs.Words.{next_words}
use Rattle.stun_auth.proofs.Drawn.{drawn, next_words-none, after_words-none}
use Rattle.stun_auth.proofs.server.drawn.draw_words.Goals as goal

pub loop-i-init : goal.loop-i-init
loop-i-init g c =
    record { words = sym (next_words-none _); source = sym (after_words-none _); sixteen = refl }

pub loop-i-preserved : goal.loop-i-preserved
loop-i-preserved g c =
    let step =
    drawn c.loop-i.i _ c.loop-i.words c.next_u32.result _ _ (omega arith) c.loop-i.invariant.words
    c.loop-i.invariant.source c.next_u32.ensures in
    record {
      words = step.words;
      source = step.source;
      sixteen = length-set c.loop-i.words _ _ ∙ c.loop-i.invariant.sixteen;
    }

pub returns-clause-words : goal.returns-clause-words
returns-clause-words g c =
    let all : c.loop-i.i ≡ 16 = omega arith in
    sym (take-length c.loop-i.words)
    ∙ ap (λ n. take n c.loop-i.words) (c.loop-i.invariant.sixteen ∙ sym all)
    ∙ c.loop-i.invariant.words ∙ ap (λ n. next_words n (g.R.Rng.stream c.args.rng.now)) all

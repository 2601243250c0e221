-- The words that are drawn of a source are those that were handed in.
use Rattle.std.proofs.Common.{◌≡◌, ℕ, zero, suc, List, [], ◌∷◌, length, refl, ◌∙◌, ap, arith}
use Rattle.rand_core.specs.Steps.{stream_of, steps_u32}
use Rattle.rand_core.proofs.StepsLemmas.{next_u32-stream_of}
use Rattle.stun_base.specs.Words.{next_word, next_words}

pub next_words-source : (n : ℕ) (words : List ℕ) → length words ≡ n
    → next_words n (stream_of (steps_u32 next_word) words) ≡ words
unfolding next_words
next_words-source zero [] h = refl
next_words-source zero (w ∷ words) h = absurd (omega arith)
next_words-source (suc n) [] h = absurd (omega arith)
next_words-source (suc n) (w ∷ words) h =
    let step = next_u32-stream_of (steps_u32 next_word) (w ∷ words) in
    ap (λ p. p.0 ∷ next_words n p.1) step
    ∙ ap (λ ws. w ∷ ws) (next_words-source n words (omega arith))

-- One more word drawn.
use Rattle.std.proofs.Common.{◌≡◌, ℕ, zero, suc, ◌+◌, ◌<◌, List, [], ◌∷◌}
use Rattle.std.proofs.Common.{◌++◌, length, take, refl, sym, ap, ◌∙◌, add-one}
use Rattle.std.proofs.Math.ListN.{set}
use Rattle.std.proofs.lemmas.List.{take_more_set}
use Rattle.rand_core.specs.Stream.{Stream, next_u32}
use Rattle.stun_base.specs.Words.{next_words, after_words}

next_words-suc : (n : ℕ) (source : Stream)
    → next_words (suc n) source ≡ next_words n source ++ (next_u32 (after_words n source)).0 ∷ []
unfolding next_words after_words
next_words-suc zero source = refl
next_words-suc (suc n) source =
    ap (λ ws. (next_u32 source).0 ∷ ws) (next_words-suc n (next_u32 source).1)

after_words-suc : (n : ℕ) (source : Stream)
    → after_words (suc n) source ≡ (next_u32 (after_words n source)).1
unfolding after_words
after_words-suc zero source = refl
after_words-suc (suc n) source = after_words-suc n (next_u32 source).1

pub next_words-more : (n : ℕ) (source : Stream)
    → next_words (n + 1) source ≡ next_words n source ++ (next_u32 (after_words n source)).0 ∷ []
next_words-more n source = rw add-one (next_words-suc n source)

pub after_words-more : (n : ℕ) (source : Stream)
    → after_words (n + 1) source ≡ (next_u32 (after_words n source)).1
after_words-more n source = rw add-one (after_words-suc n source)

pub length-next_words : (n : ℕ) (source : Stream) → length (next_words n source) ≡ n
unfolding next_words
length-next_words zero source = refl
length-next_words (suc n) source = ap (λ k. suc k) (length-next_words n (next_u32 source).1)

pub next_words-none : (source : Stream) → next_words 0 source ≡ []
unfolding next_words
next_words-none source = refl

pub after_words-none : (source : Stream) → after_words 0 source ≡ source
unfolding after_words
after_words-none source = refl

-- what a turn of the loop leaves
pub drawn : (n : ℕ) (start : Stream) (words : List ℕ) (word : ℕ) (now next : Stream)
    → n < length words → take n words ≡ next_words n start → now ≡ after_words n start
    → (word, next) ≡ next_u32 now
    → record {
      words : take (n + 1) (set words n word) ≡ next_words (n + 1) start;
      source : next ≡ after_words (n + 1) start;
    }
drawn n start words word now next within so_far at step = record {
  words = take_more_set words n word within ∙ ap (λ ws. ws ++ word ∷ []) so_far
      ∙ ap (λ w. next_words n start ++ w ∷ []) (ap (λ p. p.0) step ∙ ap (λ s. (next_u32 s).0) at)
      ∙ sym (next_words-more n start);
  source = ap (λ p. p.1) step ∙ ap (λ s. (next_u32 s).1) at ∙ sym (after_words-more n start);
}

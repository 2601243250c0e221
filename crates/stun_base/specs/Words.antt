-- The random numbers of a source, of 32 bits each. A source is a stream of rand_core: the numbers
-- that it returns from now on.
use Rattle.std.specs.Prelude.{ℕ, zero, suc, List, [], ◌∷◌}
use Rattle.rand_core.specs.Stream.{Stream, next_u32}

-- the next numbers of a source, in their order
unfoldable pub next_words : ℕ → Stream → List ℕ
next_words zero source = []
next_words (suc n) source = (next_u32 source).0 ∷ next_words n (next_u32 source).1

-- the source after this many numbers
unfoldable pub after_words : ℕ → Stream → Stream
after_words zero source = source
after_words (suc n) source = after_words n (next_u32 source).1

-- the next number of a source that the caller supplied, and the numbers that are left. After the
-- last number, the next number is zero
abbrev pub next_word : List ℕ → ℕ × List ℕ
next_word [] = (0, [])
next_word (word ∷ words) = (word, words)

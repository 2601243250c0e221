use Rattle.std.proofs.Common.{◌≡◌, take, length}
use Rattle.stun_base.specs.Words.{next_words, after_words}
use Rattle.stun_auth.proofs.server.drawn.draw_words.Given as goal

-- the words so far
abbrev pub invariant-loop-i : goal.invariant-loop-i
invariant-loop-i g l = record {
  words : take l.i l.words ≡ next_words l.i (g.R.Rng.stream l.fn.rng);
  source : g.R.Rng.stream l.rng ≡ after_words l.i (g.R.Rng.stream l.fn.rng);
  sixteen : length l.words ≡ 16;
}

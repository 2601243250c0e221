-- The nonce of the drawn words is short.
use Rattle.std.proofs.Common.{◌≡◌, ap, ◌∙◌, arith}
use Rattle.std.specs.Prelude.{length}
use Rattle.stun_auth.proofs.Drawn.{length-next_words}
use Rattle.stun_judging.proofs.NonceLengths.{nonce_is_short}
use Rattle.stun_auth.proofs.server.drawn.make_nonce.Goals as goal

pub new-requires : goal.new-requires
new-requires g c =
    let sixteen : length c.draw_words-words.result ≡ 16 = ap length c.draw_words-words.ensures.words
    ∙ length-next_words 16 (g.R.Rng.stream c.args.rng.now) in
    omega (
      arith,
      ap length c.in_ok-text.ensures.nonce,
      nonce_is_short c.args.realm.now.registered.algorithms c.args.realm.now.feature
          c.draw_words-words.result,
      sixteen,
    )

-- The reading is of what is visible.
use Rattle.stun_judging.proofs.TailReading.{reading-alike}
use Rattle.stun_judging.proofs.laws.what_follows_integrity_is_not_read.Goals as goal

pub returns : goal.returns
returns c = λ bytes others agree. reading-alike bytes others (record {
  kind = (c.what_follows_integrity_is_hidden.ensures.header bytes others agree).0;
  shown = c.what_follows_integrity_is_hidden.ensures.visible bytes others agree;
  verdict = λ keys. c.what_follows_integrity_is_hidden.ensures.verdict keys bytes others agree;
})

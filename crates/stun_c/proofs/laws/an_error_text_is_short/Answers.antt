-- Each text is short.
use Rattle.stun_c.proofs.ErrorTexts.{short_text}
use Rattle.stun_c.proofs.laws.an_error_text_is_short.Goals as goal

pub returns : goal.returns
returns c = short_text

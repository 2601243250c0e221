-- The test answers as the definition does.
use Rattle.std.proofs.Common.{rules}
use Rattle.stun_base.proofs.Texts.{is_utf8_from}
use Rattle.stun_base.proofs.keys.key.is_utf8.Goals as goal

pub returns : goal.returns
returns c = is_utf8_from c.is_ok.result c.args.bytes.now (search rules)

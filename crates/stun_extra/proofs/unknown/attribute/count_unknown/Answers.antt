-- The types are in bytes of the message.
use Rattle.std.proofs.Common.{subst}
use Rattle.stun_types.proofs.GrammarLemmas.{AreBytes}
use Rattle.stun_extra.proofs.TypesLemmas.{AreTypes-unknown}
use Rattle.stun_extra.proofs.unknown.attribute.count_unknown.Goals as goal

pub returns-clause-fit : goal.returns-clause-fit
returns-clause-fit c =
    AreTypes-unknown c.args.known.now c.args.message.now
    (subst AreBytes c.as_bytes-bytes.ensures.bytes (record { each = c.state_bytes_fit.ensures }))

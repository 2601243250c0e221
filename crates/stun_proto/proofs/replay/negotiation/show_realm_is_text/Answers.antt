-- The realm was made of a string, so it is UTF-8.
use Rattle.std.proofs.Common.{subst}
use Rattle.std.specs.Prelude.{IsUtf8}
use Rattle.stun_proto.proofs.replay.negotiation.show_realm_is_text.Goals as goal

pub returns : goal.returns
returns g c = subst IsUtf8 c.realm-realm.ensures c.realm-realm.utf8

-- The name was made of a string, so it is UTF-8.
use Rattle.std.proofs.Common.{subst, Option, IfSome}
use Rattle.std.specs.Prelude.{IsUtf8}
use Rattle.stun_base.specs.Credentials.{NameAndPassword}
use Rattle.stun_proto.proofs.replay.negotiation.show_name_is_text.Goals as goal

pub returns-in-Some : goal.returns-in-Some
returns-in-Some g c =
    subst (λ (o : Option NameAndPassword). IfSome o (λ who. IsUtf8 who.username)) c.in-Some.ensures
    (subst IsUtf8 c.username-name.ensures c.username-name.utf8)

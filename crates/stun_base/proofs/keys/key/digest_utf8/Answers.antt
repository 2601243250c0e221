-- The joined text is UTF-8 just where all three are.
use Rattle.std.proofs.Common.{rules}
use Rattle.stun_base.proofs.Texts.{are_utf8_joined}
use Rattle.stun_base.proofs.keys.key.digest_utf8.Goals as goal

pub returns-then-join-clause-utf8 : goal.returns-then-join-clause-utf8
returns-then-join-clause-utf8 g c =
    let texts = are_utf8_joined c.args.username.now c.args.realm.now c.args.password.now in
    let said = rw (c.join.ensures c.if-join.true) at c.is_utf8.ensures in
    search (rules, texts, said)

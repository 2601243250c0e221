-- A check that cannot have an attribute, one that gets its end, and one whose end is refused.
use Rattle.std.proofs.Common.{Err, subst, sym}
use Rattle.stun_c_endpoint.specs.Extended.{Extends}
use Rattle.stun_c_endpoint.proofs.ExtendedLemmas.{ended, unadded, unended}
use Rattle.stun_c_endpoint.proofs.ice.extended.make_extended.Goals as goal

pub returns-in-Err-with_all : goal.returns-in-Err-with_all
returns-in-Err-with_all c =
    unadded c.args.checker.now c.args.id c.args.to c.args.priority c.args.nominate c.args.body.now
    c.in-Ok.page c.in-Err-with_all.refusal c.in-Ok.ensures.refused c.in-Ok.ensures.bytes
    c.in-Err-with_all.ensures.refused

pub returns-in-Ok-finish_check : goal.returns-in-Ok-finish_check
returns-in-Ok-finish_check c =
    ended c.args.checker.now c.args.id c.args.to c.args.priority c.args.nominate c.args.body.now
    c.in-Ok.page c.in-Ok-with_all.page c.in-Ok-finish_check.check c.in-Ok.ensures.refused
    c.in-Ok.ensures.bytes c.in-Ok-with_all.ensures.ok c.in-Ok-finish_check.ensures.check

pub returns-in-Err-finish_check : goal.returns-in-Err-finish_check
returns-in-Err-finish_check c =
    subst (λ refusal. Extends c.args.checker.now c.args.id c.args.to c.args.priority
    c.args.nominate c.args.body.now (Err refusal)) (sym c.of_write.ensures)
    (unended c.args.checker.now c.args.id c.args.to c.args.priority c.args.nominate
    c.args.body.now c.in-Ok.page c.in-Ok-with_all.page c.in-Err-finish_check.error
    c.in-Ok.ensures.refused c.in-Ok.ensures.bytes c.in-Ok-with_all.ensures.ok
    c.in-Err-finish_check.ensures.unknown)

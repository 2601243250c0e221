-- Each end of the loop is one of the ways in which attributes are added.
use Rattle.std.proofs.Common.{inr}
use Rattle.stun_c_endpoint.proofs.AddingLemmas.{breaking, ending, going, stopping}
use Rattle.stun_c_endpoint.proofs.BodyLemmas.{none_left, some_left}
use Rattle.stun_c_endpoint.proofs.ice.extended.with_all.Goals as goal

pub returns-in_default-clause-refused : goal.returns-in_default-clause-refused
returns-in_default-clause-refused c =
    inr (breaking _ _ _ _ c.loop-rest.invariant.from
    (some_left _ _ c.loop-rest-test.true c.is_empty.ensures) c.in_default.ensures.none)

pub returns-in-Err-clause-refused : goal.returns-in-Err-clause-refused
returns-in-Err-clause-refused c =
    stopping _ _ _ _ c.in-Some.attribute _ c.loop-rest.invariant.from c.in-Some.ensures.whole
    c.in-Some.ensures.value c.in-Err.ensures.refused

pub loop-rest-preserved : goal.loop-rest-preserved
loop-rest-preserved c = record {
  from = going _ _ _ _ _ _ c.in-Some.attribute c.loop-rest.invariant.from
      c.in-Some.ensures.whole c.in-Some.ensures.value c.in-Ok.ensures.ok c.after-rest.ensures;
  header = c.in-Ok.ensures.header;
}

pub returns-clause-ok : goal.returns-clause-ok
returns-clause-ok c =
    ending _ _ _ _ c.loop-rest.invariant.from
    (none_left _ _ c.loop-rest-test.false c.is_empty.ensures)

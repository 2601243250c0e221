-- What was written spells a message without attributes, which is open.
use Rattle.std.proofs.Common.{rules, ◌<◌, ◌^◌, ◌≡◌, [], ap, arith, sym, subst, ◌∙◌}
use Rattle.stun_types.specs.Grammar.{spelled_message}
use Rattle.stun_types.specs.Walk.{walk}
use Rattle.stun_types.specs.Writing.{IsOpen}
use Rattle.stun_types.proofs.AddingLemmas.{IsOpen-spelled_message}
use Rattle.stun_types.proofs.message.Message.builder.Given.{Over}
use Rattle.stun_types.proofs.message.Message.builder.Goals as goal

-- what was written
written : (g : Over) (c : goal.After-append g)
    → g.W.MessageWrite.bytes c.append.new.self
    ≡ spelled_message c.args.message_type c.args.id []
written g c = search rules

-- the message that is spelled
spelled_is_open : (g : Over) (c : goal.After-append g)
    → IsOpen (spelled_message c.args.message_type c.args.id [])
    × (walk (spelled_message c.args.message_type c.args.id []) ≡ [])
spelled_is_open g c =
    IsOpen-spelled_message c.args.message_type c.args.id c.make_header.ensures.fits

pub returns : goal.returns
returns g c = record {
  bytes = written g c;
  «open» = subst IsOpen (sym (written g c)) (spelled_is_open g c).0;
  empty = ap walk (written g c) ∙ (spelled_is_open g c).1;
  room = search rules;
  too_small = search rules;
  otherwise_memory = search rules;
  succeeds = search rules;
  granted = search rules;
}

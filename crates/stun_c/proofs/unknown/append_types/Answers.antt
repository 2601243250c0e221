-- The length field is raised, and the types are after the front.
use Rattle.std.proofs.Common.{◌≡◌, ◌≤◌, ◌*◌, ◌++◌, length, rules, take, drop, arith}
use Rattle.std.proofs.lemmas.List.{length-take-le}
use Rattle.stun_types.specs.Attribute.{attribute_length}
use Rattle.stun_types.specs.Grammar.{spelled_attribute}
use Rattle.stun_types.specs.Message.{with_length}
use Rattle.stun_types.specs.Writing.{length_with}
use Rattle.stun_extra.specs.Unknown.{unknown_types}
use Rattle.stun_c.specs.Extra.{types_attribute}
use Rattle.stun_c.proofs.Refused.{types_written}
use Rattle.stun_c.proofs.unknown.append_types.Goals as goal

pub returns-clause-written : goal.returns-clause-written
returns-clause-written c =
    let out = c.args.out.now in
    let types = unknown_types c.args.known.now c.args.message.now in
    let within : 48 ≤ length out = omega arith in
    let short : length (take 48 out) ≡ 48 = length-take-le 48 out within in
    let raised : c.set_length.new.message
    ≡ with_length (take 48 out) (length_with (take 48 out) (2 * c.args.count)) = search rules in
    let behind : c.spell_types.new.buffer ≡ spelled_attribute (types_attribute types)
    ++ drop (attribute_length (2 * c.args.count)) (drop 48 out) = search rules in
    types_written c.args.count out c.set_length.new.message c.spell_types.new.buffer types
    c.requires.count raised behind

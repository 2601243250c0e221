-- What was written is the request that is asked for.
use Rattle.std.proofs.Common.{◌≡◌, [], ◌∷◌, ◌++◌, length, Some, None, rules}
use Rattle.byteorder.specs.Endian.{big_number}
use Rattle.stun_base.specs.Attributes.{USERNAME}
use Rattle.stun_base.specs.MessageType.{type_number}
use Rattle.stun_base.specs.declared.wire.message_type.MessageClass.TheVariants.{Request}
use Rattle.stun_types.specs.Grammar.{spelled_message}
use Rattle.stun_types.specs.Writing.{with_integrity}
use Rattle.stun_numbers.specs.Algorithms.{algorithm_numbered}
use Rattle.stun_c.specs.Requests.{username_refusal}
use Rattle.stun_c.proofs.Signed.{request_signed}
use Rattle.stun_c.proofs.request.signed_request.Goals as goal

pub returns-clause-ok : goal.returns-clause-ok
returns-clause-ok c =
    let is_algorithm : algorithm_numbered c.args.algorithm ≡ Some c.in_ok-algorithm.algorithm =
    search rules in
    let whole : length c.args.id.now ≡ 12 = search rules in
    let is_id : c.in_ok-id.id ≡ big_number 12 c.args.id.now = search rules in
    let is_name : username_refusal c.args.name.now ≡ None = search rules in
    let is_username : c.in_ok-username.username ≡ c.args.name.now = search rules in
    let built = c.add_attribute.new.self.bytes in
    let written : built
    ≡ spelled_message (type_number Request 0x001) c.in_ok-id.id
    ([] ++ record { kind = USERNAME; value = c.in_ok-username.username } ∷ []) = search rules in
    let signed : c.finish.result.now
    ≡ with_integrity built c.in_ok-algorithm.algorithm c.args.key.now = search rules in
    request_signed c.args.algorithm c.in_ok-id.id c.in_ok-algorithm.algorithm c.args.id.now
    c.args.name.now c.args.key.now c.in_ok-username.username built c.finish.result.now is_algorithm
    whole is_id is_name is_username written signed

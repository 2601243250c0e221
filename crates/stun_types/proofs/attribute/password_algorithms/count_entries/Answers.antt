-- Each entry takes four bytes.
use Rattle.std.proofs.Common.{◌≡◌, ◌*◌, length, arith}
use Rattle.stun_types.specs.code.PasswordAlgorithms.{entry_list}
use Rattle.stun_types.proofs.EntryLemmas.{entries-length, entry_list-read}
use Rattle.stun_types.proofs.attribute.password_algorithms.count_entries.Goals as goal

pub returns : goal.returns
returns c =
    let whole : length c.args.bytes.now ≡ 4 * length (entry_list c.args.bytes.now) =
    entries-length c.args.bytes.now (entry_list c.args.bytes.now)
    (entry_list-read c.args.bytes.now c.requires) in
    omega arith

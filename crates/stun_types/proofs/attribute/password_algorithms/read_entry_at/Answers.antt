-- Each entry takes four bytes, so the entry of an index begins at four times the index.
use Rattle.std.proofs.Common.{◌≡◌, ◌*◌, ◌<◌, length, drop, sym, ◌∙◌, arith}
use Rattle.std.proofs.lemmas.List.{take_rest}
use Rattle.std.proofs.lemmas.Option.{slice_get_past}
use Rattle.stun_types.specs.PasswordAlgorithms.{entry_at_front}
use Rattle.stun_types.specs.code.PasswordAlgorithms.{entry_list}
use Rattle.stun_types.proofs.EntryLemmas.{entries-get, entries-length, entry_list-read}
use Rattle.stun_types.proofs.attribute.password_algorithms.read_entry_at.Goals as goal

pub returns-then-i-bytes : goal.returns-then-i-bytes
returns-then-i-bytes c =
    let whole : length c.args.bytes.now ≡ 4 * length (entry_list c.args.bytes.now) =
    entries-length c.args.bytes.now (entry_list c.args.bytes.now)
    (entry_list-read c.args.bytes.now c.requires) in
    sym (slice_get_past (entry_list c.args.bytes.now) c.args.i (omega arith))

pub returns : goal.returns
returns c =
    let whole : length c.args.bytes.now ≡ 4 * length (entry_list c.args.bytes.now) =
    entries-length c.args.bytes.now (entry_list c.args.bytes.now)
    (entry_list-read c.args.bytes.now c.requires) in
    let there : c.args.i < length (entry_list c.args.bytes.now) = omega arith in
    let read : c.read_entry.result ≡ entry_at_front (drop (4 * c.args.i) c.args.bytes.now) =
    rw take_rest at c.read_entry.ensures in
    read
    ∙ sym (entries-get c.args.bytes.now (entry_list c.args.bytes.now) c.args.i
    (entry_list-read c.args.bytes.now c.requires) there)

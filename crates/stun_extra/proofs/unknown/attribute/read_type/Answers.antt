-- Each type takes two bytes, so the type of an index begins at twice the index.
use Rattle.std.proofs.Common.{◌≡◌, ◌*◌, ◌≤◌, length, drop, sym, ◌∙◌, arith}
use Rattle.std.specs.Prelude.{Some}
use Rattle.std.proofs.lemmas.List.{take_rest}
use Rattle.std.proofs.lemmas.Option.{slice_get_past}
use Rattle.byteorder.specs.Endian.{big_number}
use Rattle.stun_extra.specs.Unknown.{types_in}
use Rattle.stun_extra.proofs.TypesLemmas.{types_in-get, types_in-length}
use Rattle.stun_extra.proofs.unknown.attribute.read_type.Goals as goal

pub returns-then-i-bytes : goal.returns-then-i-bytes
returns-then-i-bytes c =
    let count : length (types_in c.args.bytes.now) ≤ c.args.i =
    omega (arith, types_in-length c.args.bytes.now) in
    sym (slice_get_past (types_in c.args.bytes.now) c.args.i count)

pub returns : goal.returns
returns c =
    let bytes = c.args.bytes.now in
    let read : c.read_u16.result ≡ big_number 2 (drop (2 * c.args.i) bytes) =
    rw take_rest at c.read_u16.ensures in
    let number : c.new.result.0 ≡ big_number 2 (drop (2 * c.args.i) bytes) = c.new.ensures ∙ read in
    (λ k. Some (record { 0 = number k })) ∙ sym (types_in-get bytes c.args.i (omega arith))

-- The message is the input where that is raw.
use Rattle.std.proofs.Common.{◌≡◌, true, IfOk, IfSome, subst}
use Rattle.stun_inspect.specs.Input.{IsBegun, is_raw}
use Rattle.stun_inspect.specs.Run.{PrintsResult}
use Rattle.stun_inspect.proofs.RunLemmas.{of_raw_input}
use Rattle.stun_inspect.proofs.answers.tell_reader.Goals as goal

pub returns-in-Bytes : goal.returns-in-Bytes
returns-in-Bytes g c =
    let given = g.R.Read.remaining c.args.reader.now in
    let before = g.W.Write.contents c.args.writer.now in
    let after = g.W.Write.contents c.tell_bytes.new.writer in
    let teller = c.args.teller.now in
    let result = c.tell_bytes.result in
    of_raw_input given c.in-Bytes.input.items result
    (λ bytes status. PrintsResult teller bytes status before after)
    (subst (λ begun. IfSome given (λ input. IsBegun input begun)) c.in-Bytes.is
    c.in_ok-capture.ensures)
    (subst (λ bytes. is_raw bytes ≡ true
    → IfOk result (λ status. PrintsResult teller bytes status before after))
    c.as_slice.ensures.value c.tell_bytes.ensures)

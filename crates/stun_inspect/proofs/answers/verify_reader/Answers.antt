-- The keys of the credentials are those of the password.
use Rattle.std.proofs.Common.{◌≡◌, true, IfOk, IfSome, subst}
use Rattle.stun_cli.specs.Verdict.{verdict_of}
use Rattle.stun_inspect.specs.Input.{is_raw}
use Rattle.stun_inspect.specs.Verify.{PrintsVerdictAndNotes}
use Rattle.stun_inspect.proofs.answers.verify_reader.Goals as goal

pub returns : goal.returns
returns g c =
    let given = g.R.Read.remaining c.args.reader.now in
    let before = g.W.Write.contents c.args.writer.now in
    let after = g.W.Write.contents c.tell_reader.new.writer in
    subst (λ keys. IfSome given (λ input. IfOk c.tell_reader.result (λ status.
    is_raw input ≡ true
    → PrintsVerdictAndNotes (verdict_of input keys) status before after)))
    c.in_ok-credentials.ensures c.tell_reader.ensures

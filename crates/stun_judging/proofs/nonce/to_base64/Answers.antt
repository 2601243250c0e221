-- Characters of base64 are ASCII.
use Rattle.std.proofs.Common.{◌≡◌, rules, sym, subst}
use Rattle.std.proofs.lemmas.Str.{IsUtf8-from_ascii}
use Rattle.std.specs.Str.{IsUtf8}
use Rattle.base64.specs.Engines.{standard}
use Rattle.base64.specs.GeneralPurpose.{encode_of}
use Rattle.base64.proofs.EngineFacts.{IsAscii-encode_of}
use Rattle.stun_judging.proofs.nonce.to_base64.Goals as goal

pub returns-clause-text : goal.returns-clause-text
returns-clause-text c =
    let bytes = c.args.bytes.now in
    let spelled : c.encode_slice.new.output ≡ encode_of standard bytes = search rules in
    subst IsUtf8 (sym spelled)
    (IsUtf8-from_ascii (encode_of standard bytes) (IsAscii-encode_of standard bytes))

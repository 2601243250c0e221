-- Realm and nonce are strings.
use Rattle.std.proofs.lemmas.Str.{IsUtf8-string_bytes}
use Rattle.stun_client.proofs.challenge.kept.KeptChallenge.keeps_texts.Goals as goal

pub returns : goal.returns
returns g c = record {
  nonce = IsUtf8-string_bytes c.args.self.now.nonce.text;
  realm = IsUtf8-string_bytes c.args.self.now.realm.text;
  username = c.keeps_text.ensures.plain;
  userhash = c.keeps_text.ensures.hashed;
}

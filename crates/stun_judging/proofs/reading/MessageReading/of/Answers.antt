-- Each field is what the last attribute of its type reads as.
use Rattle.std.proofs.Common.{ℕ, Option, Some, None, map, ◌∙◌, ap}
use Rattle.std.specs.Prelude.{cond}
use Rattle.std.specs.Option.{option_and_then, option_map}
use Rattle.stun_base.specs.Attributes.{ERROR_CODE, NONCE, PASSWORD_ALGORITHM}
use Rattle.stun_base.specs.Attributes.{PASSWORD_ALGORITHMS, REALM, USERHASH, USERNAME}
use Rattle.stun_base.specs.declared.wire.message_type.MessageClass.{MessageClass}
use Rattle.stun_types.specs.ErrorCode.{CodeAndReason, error_of}
use Rattle.stun_types.specs.Integrity.{verified_algorithm}
use Rattle.stun_types.specs.PasswordAlgorithms.{password_algorithm_in}
use Rattle.stun_types.specs.PasswordAlgorithms.{password_algorithms_in, integrity_of}
use Rattle.stun_types.specs.Text.{text_of}
use Rattle.stun_types.specs.Userhash.{hash_of}
use Rattle.stun_types.specs.Visible.{visible}
use Rattle.stun_base.specs.MessageType.{is_error}
use Rattle.stun_judging.specs.Reading.{last_of, reading_of}
use Rattle.stun_judging.specs.code.LastAttributes.{last_error_code}
use Rattle.stun_judging.proofs.ReadingLemmas.{and_then-map}
use Rattle.stun_judging.proofs.reading.MessageReading.of.Goals as goal

-- the code, where the class is that of an error
abbrev read_code : MessageClass → Option CodeAndReason → Option ℕ
read_code class error =
    cond (is_error class) (option_map (λ (e : CodeAndReason). e.code) error) None

pub returns-clause-reading : goal.returns-clause-reading
unfolding reading_of
returns-clause-reading c =
    let members = visible c.args.message.now in
    let last = c.of-last.ensures in
    let message = c.args.message.now in λ i. record {
      class = c.class-class.ensures i;
      error = (c.read_error_code.ensures
          ∙ ap (last_error_code c.class-class.result) (ap (λ l. l.error_code) last)
          ∙ (λ j. read_code (c.class-class.ensures j)
          (and_then-map error_of (λ m. m.1) (last_of ERROR_CODE members) j))) i;
      realm = (c.read_realm.ensures.text
          ∙ ap (option_and_then (text_of REALM 763)) (ap (λ l. l.realm) last)
          ∙ and_then-map (text_of REALM 763) (λ m. m.1) (last_of REALM members)) i;
      nonce = (c.read_nonce.ensures.text
          ∙ ap (option_and_then (text_of NONCE 763)) (ap (λ l. l.nonce) last)
          ∙ and_then-map (text_of NONCE 763) (λ m. m.1) (last_of NONCE members)) i;
      username =
          (c.read_username.ensures
          ∙ ap (option_and_then (text_of USERNAME 513)) (ap (λ l. l.username) last)
          ∙ and_then-map (text_of USERNAME 513) (λ m. m.1) (last_of USERNAME members)) i;
      userhash =
          (c.read_userhash.ensures ∙ ap (option_and_then hash_of) (ap (λ l. l.userhash) last)
          ∙ and_then-map hash_of (λ m. m.1) (last_of USERHASH members)) i;
      algorithms =
          ap (option_map (map integrity_of))
          (c.read.ensures
          ∙ ap (option_and_then password_algorithms_in) (ap (λ l. l.password_algorithms) last)
          ∙ and_then-map password_algorithms_in (λ m. m.1) (last_of PASSWORD_ALGORITHMS members)) i;
      algorithm =
          (c.read_algorithm.ensures
          ∙ ap (option_map integrity_of)
          (ap (option_and_then password_algorithm_in) (ap (λ l. l.password_algorithm) last)
          ∙ and_then-map password_algorithm_in (λ m. m.1) (last_of PASSWORD_ALGORITHM members))) i;
      integrity =
          ap (λ b. cond b (Some (verified_algorithm message)) None)
          (ap (λ l. l.has_integrity) last) i;
    }

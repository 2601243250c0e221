-- The answer is that of the server under the words that were drawn.
use Rattle.std.proofs.Common.{◌≡◌, ◌∙◌, ap, subst, Ok, Err}
use Rattle.std.specs.Prelude.{IsErr}
use Rattle.stun_judging.specs.Reading.{reading_of}
use Rattle.stun_auth.specs.Reasons.{ForServerReason}
use Rattle.stun_auth.specs.Validation.{Answer, after_validation, answer, sight}
use Rattle.stun_auth.specs.declared.server.reason.LongTermServerAuthErrorReason.{
  LongTermServerAuthErrorReason,
}
use Rattle.stun_proto.specs.code.FirstAnswers.{answer_of}
use Rattle.stun_base.proofs.DrawnWords.{next_words-source}
use Rattle.stun_proto.proofs.meetings.Heard.{off_told, off_untold, on_told}
use Rattle.stun_proto.proofs.meetings.Heard.{on_untold, told_as, untold_as}
use Rattle.stun_proto.proofs.server_runs.ValidateLemmas.{either}
use Rattle.stun_proto.proofs.replay.judging.judge.Goals as goal

pub returns-in-Ok-clause-answer : goal.returns-in-Ok-clause-answer
returns-in-Ok-clause-answer g c =
    let drawn = next_words-source 16 c.new-source.result c.new-source.ensures.count
    ∙ c.new-source.ensures.words in
    ap Ok c.to_algorithm.ensures ∙ c.in-Ok.ensures.answer
    ∙ ap (λ ws. answer (sight c.args.server.now c.args.from) c.args.now ws
    (reading_of c.args.message.now)) drawn

pub returns-in-Ok-clause-server : goal.returns-in-Ok-clause-server
returns-in-Ok-clause-server g c =
    let drawn = next_words-source 16 c.new-source.result c.new-source.ensures.count
    ∙ c.new-source.ensures.words in
    c.in-Ok.ensures.state
    ∙ ap (λ ws. after_validation c.args.server.now c.args.from c.args.now ws
    (reading_of c.args.message.now)) drawn

pub returns-in-Err-clause-answer : goal.returns-in-Err-clause-answer
returns-in-Err-clause-answer g c =
    let drawn = next_words-source 16 c.new-source.result c.new-source.ensures.count
    ∙ c.new-source.ensures.words in
    let reason = c.in-Err.error in
    let right : Answer =
    answer (sight c.args.server.now c.args.from) c.args.now c.args.words
    (reading_of c.args.message.now) in
    let P : LongTermServerAuthErrorReason → Type 0 =
    λ r. ForServerReason r (c.to_server_refusal.result ≡ Ok (Err r)) (IsErr c.to_server_refusal.result) in
    either reason
    (λ given is.
    told_as answer_of c.to_server_refusal.result (Err reason) right given
    (is ∙ ap
    (λ ws. answer (sight c.args.server.now c.args.from) c.args.now ws
    (reading_of c.args.message.now)) drawn))
    (λ none is. untold_as answer_of c.to_server_refusal.result right none)
    (subst P c.reason.ensures c.to_server_refusal.ensures) c.in-Err.ensures.answer

pub returns-in-Err-clause-server : goal.returns-in-Err-clause-server
returns-in-Err-clause-server g c =
    let drawn = next_words-source 16 c.new-source.result c.new-source.ensures.count
    ∙ c.new-source.ensures.words in
    let reason = c.in-Err.error in
    let P : LongTermServerAuthErrorReason → Type 0 =
    λ r. ForServerReason r (c.to_server_refusal.result ≡ Ok (Err r)) (IsErr c.to_server_refusal.result) in
    either reason
    (λ given is.
    on_told c.to_server_refusal.result (Err reason) _ given
    (is ∙ ap
    (λ ws. after_validation c.args.server.now c.args.from c.args.now ws
    (reading_of c.args.message.now)) drawn))
    (λ none is. on_untold c.to_server_refusal.result _ none)
    (subst P c.reason.ensures c.to_server_refusal.ensures) c.in-Err.ensures.state

pub returns-in-Err-clause-err : goal.returns-in-Err-clause-err
returns-in-Err-clause-err g c =
    let reason = c.in-Err.error in
    let P : LongTermServerAuthErrorReason → Type 0 =
    λ r. ForServerReason r (c.to_server_refusal.result ≡ Ok (Err r)) (IsErr c.to_server_refusal.result) in
    either reason
    (λ given is. off_told c.to_server_refusal.result (Err reason) _ given)
    (λ none is. off_untold c.to_server_refusal.result _ is)
    (subst P c.reason.ensures c.to_server_refusal.ensures) c.in-Err.ensures.state

-- A challenge is read as the server means it, and answered by the rule.
use Rattle.std.proofs.Common.{◌∙◌, map}
use Rattle.stun_judging.specs.Nonces.{letter}
use Rattle.stun_exchanges.specs.Agreement.{meant_by, offered_by}
use Rattle.stun_endpoint.specs.Nonces.{nonce_in, words_of}
use Rattle.stun_endpoint.specs.Received.{challenge_answer}
use Rattle.stun_endpoint.specs.Settings.{registered_of}
use Rattle.stun_exchanges.specs.Exchange.{meant_for}
use Rattle.stun_exchanges.proofs.AnsweredLemmas.{answered_is, sent_so}
use Rattle.stun_exchanges.proofs.exchanges.challenges_of_a_server_are_answered.Goals as goal

pub returns : goal.returns
returns c = λ s kind secret from to epoch request required standing signed_for who p accepts a fine
    asks identified sends agree new strong.
    let nonce = nonce_in s secret from epoch in
    let response = (challenge_answer s kind nonce to request).bytes in
    let both = c.challenges_are_read_as_meant.ensures s kind secret from to epoch required request
    fine asks identified sends in
    let current = c.nonces_of_a_server_are_up_to_date.ensures.marked (registered_of s) s.feature
    (map letter (words_of s.algorithms secret from epoch)) in
    let rule = c.common_algorithms_are_answered.ensures.answered p who (registered_of s) s.feature
    nonce a current agree in
    c.answerable_challenges_are_answered.ensures.sent required who p accepts standing signed_for
    response (meant_for s p who nonce a) both.0.whole
    (answered_is p who signed_for response s.realm nonce (offered_by s.algorithms)
    (meant_by p who s.realm s.algorithms nonce a) (both.1.read p who _) rule)
    new strong
    ∙ sent_so kind signed_for response (meant_for s p who nonce a) both.1.code

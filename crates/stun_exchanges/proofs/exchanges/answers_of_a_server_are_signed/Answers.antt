-- A response that a server ends is a signed answer.
use Rattle.stun_exchanges.proofs.PageLemmas.{binding_signed, success_is_page}
use Rattle.stun_exchanges.proofs.SealedLemmas.{sealed_answer}
use Rattle.stun_exchanges.proofs.exchanges.answers_of_a_server_are_signed.Goals as goal

pub returns-clause-written : goal.returns-clause-written
returns-clause-written c = λ s by required request page fine is sends. sealed_answer (record {
  shown = c.writing_adds_one_attribute.ensures.shown;
  adds = c.writing_adds_one_attribute.ensures.added;
  opens = c.writing_adds_one_attribute.ensures.open;
  stands = c.signed_message_stands.ensures.stands;
  signs = c.signed_message_stands.ensures.added;
}) s by required request page fine is sends

pub returns-clause-successes : goal.returns-clause-successes
returns-clause-successes c = success_is_page

pub returns-clause-binding : goal.returns-clause-binding
returns-clause-binding c = λ s by required from request fine identified sends.
    binding_signed (record {
      shown = c.writing_adds_one_attribute.ensures.shown;
      adds = c.writing_adds_one_attribute.ensures.added;
      opens = c.writing_adds_one_attribute.ensures.open;
      stands = c.signed_message_stands.ensures.stands;
      signs = c.signed_message_stands.ensures.added;
    }) c.writing_adds_one_attribute.ensures.begun from request identified s by required fine sends

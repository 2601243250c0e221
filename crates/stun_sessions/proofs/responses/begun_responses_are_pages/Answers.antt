-- Class, method and ID are those that were written, and no code asks for credentials.
use Rattle.stun_sessions.proofs.BegunLemmas.{error_is_begun, more_is_page, success_is_begun}
use Rattle.stun_sessions.proofs.UnknownLemmas.{unknown_is_page}
use Rattle.stun_sessions.proofs.responses.begun_responses_are_pages.Goals as goal

pub returns-clause-success : goal.returns-clause-success
returns-clause-success c = λ request identified. success_is_begun (record {
  begun = c.writing_adds_one_attribute.ensures.begun;
  shown = c.writing_adds_one_attribute.ensures.shown;
  adds = c.writing_adds_one_attribute.ensures.added;
  opens = c.writing_adds_one_attribute.ensures.open;
  success = c.answers_of_a_server_are_signed.ensures.successes;
}) request identified

pub returns-clause-error : goal.returns-clause-error
returns-clause-error c = λ request error identified is. error_is_begun (record {
  begun = c.writing_adds_one_attribute.ensures.begun;
  shown = c.writing_adds_one_attribute.ensures.shown;
  adds = c.writing_adds_one_attribute.ensures.added;
  opens = c.writing_adds_one_attribute.ensures.open;
  success = c.answers_of_a_server_are_signed.ensures.successes;
}) request identified error is

pub returns-clause-added : goal.returns-clause-added
returns-clause-added c = λ request page attribute is more. more_is_page (record {
  begun = c.writing_adds_one_attribute.ensures.begun;
  shown = c.writing_adds_one_attribute.ensures.shown;
  adds = c.writing_adds_one_attribute.ensures.added;
  opens = c.writing_adds_one_attribute.ensures.open;
  success = c.answers_of_a_server_are_signed.ensures.successes;
}) request page attribute is more

pub returns-clause-unknown : goal.returns-clause-unknown
returns-clause-unknown c = λ known request is. unknown_is_page (record {
  begun = c.writing_adds_one_attribute.ensures.begun;
  shown = c.writing_adds_one_attribute.ensures.shown;
  adds = c.writing_adds_one_attribute.ensures.added;
  opens = c.writing_adds_one_attribute.ensures.open;
  success = c.answers_of_a_server_are_signed.ensures.successes;
}) c.writing_adds_one_attribute.ensures.spelled known request is

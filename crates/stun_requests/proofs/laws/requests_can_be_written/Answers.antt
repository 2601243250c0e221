-- Each step has room, up to the longest list of a challenge.
use Rattle.stun_requests.proofs.FitLemmas.{built, can_be_written}
use Rattle.stun_requests.proofs.laws.requests_can_be_written.Goals as goal

pub returns-clause-bodies : goal.returns-clause-bodies
returns-clause-bodies c = λ body is. ((built body is).ordinary, (built body is).short)

pub returns-clause-written : goal.returns-clause-written
returns-clause-written c =
    λ form who p accepts challenge method id body low is software short.
    can_be_written (record {
      adds = c.writing_adds_one_attribute.ensures.added;
      opens = c.writing_adds_one_attribute.ensures.open;
      shown = c.writing_adds_one_attribute.ensures.shown;
      built = c.built_messages_can_be_signed.ensures.bare;
      reads = c.signed_messages_are_read.ensures;
      has = c.additions_are_read_back.ensures.added;
      writes = record {
        shown = c.writing_adds_one_attribute.ensures.shown;
        added = c.writing_adds_one_attribute.ensures.added;
        opened = c.writing_adds_one_attribute.ensures.open;
        stands_signed = c.signed_message_stands.ensures.stands;
        signed = c.signed_message_stands.ensures.added;
      };
    }) c.writing_adds_one_attribute.ensures.begun form who p accepts challenge method id body low is
    software short

-- Each part of a request is read as it was written.
use Rattle.stun_requests.proofs.BodyLemmas.{body_read}
use Rattle.stun_requests.proofs.ReadBackLemmas.{read_back}
use Rattle.stun_requests.proofs.laws.requests_are_read_back.Goals as goal

pub returns-clause-as_made : goal.returns-clause-as_made
returns-clause-as_made c =
    λ form who p accepts challenge method id body bytes low ordinary text is.
    read_back (record {
      adds = c.writing_adds_one_attribute.ensures.added;
      opens = c.writing_adds_one_attribute.ensures.open;
      shown = c.writing_adds_one_attribute.ensures.shown;
      built = c.built_messages_can_be_signed.ensures.bare;
      reads = c.signed_messages_are_read.ensures;
      has = c.additions_are_read_back.ensures.added;
      writes = record {
        shown = c.writing_adds_one_attribute.ensures.shown;
        added = c.writing_adds_one_attribute.ensures.added;
        opened = c.writing_adds_one_attribute.ensures.open;
        stands_signed = c.signed_message_stands.ensures.stands;
        signed = c.signed_message_stands.ensures.added;
      };
    }) form who p accepts challenge method id body bytes low ordinary text is

pub returns-clause-body : goal.returns-clause-body
returns-clause-body c = λ form who p accepts challenge method id body bytes low ordinary is.
    body_read (record {
      adds = c.writing_adds_one_attribute.ensures.added;
      opens = c.writing_adds_one_attribute.ensures.open;
      shown = c.writing_adds_one_attribute.ensures.shown;
      built = c.built_messages_can_be_signed.ensures.bare;
      reads = c.signed_messages_are_read.ensures;
      has = c.additions_are_read_back.ensures.added;
      writes = record {
        shown = c.writing_adds_one_attribute.ensures.shown;
        added = c.writing_adds_one_attribute.ensures.added;
        opened = c.writing_adds_one_attribute.ensures.open;
        stands_signed = c.signed_message_stands.ensures.stands;
        signed = c.signed_message_stands.ensures.added;
      };
    }) method c.writing_adds_one_attribute.ensures.begun form who p accepts
    challenge id body bytes low ordinary is

-- What is put behind the deciding attribute is not read, so it changes no reply.
use Rattle.stun_proto.proofs.server_runs.AppendedLemmas.{answered_alike}
use Rattle.stun_proto.proofs.laws.appending_changes_no_reply.Goals as goal

pub returns-clause-agreeing : goal.returns-clause-agreeing
returns-clause-agreeing c = λ message other is_message is_message_too agree.
    answered_alike message other is_message is_message_too
    (c.what_follows_integrity_is_not_read.ensures message.items other.items agree)

pub returns-clause-appended : goal.returns-clause-appended
returns-clause-appended c = λ message other m is_message is_message_too continued.
    answered_alike message other is_message is_message_too
    (c.what_follows_integrity_is_not_read.ensures message.items other.items
    (c.what_follows_integrity_is_hidden.ensures.appended message.items other.items m continued))

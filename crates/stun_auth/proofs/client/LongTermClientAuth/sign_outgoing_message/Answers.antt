-- What is signed is longer by what all additions take, and what may be signed is signed without
-- memory.
use Rattle.std.proofs.Common.{refl}
use Rattle.stun_judging.specs.Additions.{written_page}
use Rattle.stun_judging.proofs.Growth.{grown_answer, succeeds_reserved, wants_short}
use Rattle.stun_auth.proofs.SignedLimits.{client_signable}
use Rattle.stun_judging.proofs.Wanting.{signable_answer}
use Rattle.stun_auth.proofs.client.LongTermClientAuth.sign_outgoing_message.Goals as goal

pub returns-clause-grows : goal.returns-clause-grows
returns-clause-grows g c =
    grown_answer g.W.MessageWrite.bytes g.W.MessageWrite.room _ c.args.writer _ c.add_signature.result
    c.requires.is_whole c.add_signature.ensures.outcome

pub returns-clause-succeeds : goal.returns-clause-succeeds
returns-clause-succeeds g c = λ may enough.
    succeeds_reserved (written_page g.W.MessageWrite.bytes g.W.MessageWrite.room) (λ reason. refl) _
    (g.W.MessageWrite.reserved c.args.writer) _ _
    (wants_short _ _ (g.W.MessageWrite.reserved c.args.writer)) c.add_signature.result
    c.add_signature.ensures.outcome
    (c.sides_sign_what_is_signable.ensures.client _ c.args.self.now.state
    (g.W.MessageWrite.bytes c.args.writer) (g.W.MessageWrite.room c.args.writer)
    (client_signable _ c.args.self.now.state (g.W.MessageWrite.bytes c.args.writer)
    (g.W.MessageWrite.room c.args.writer) c.keeps_short_texts.ensures may)) enough

pub returns-clause-signable : goal.returns-clause-signable
returns-clause-signable g c = λ may.
    signable_answer _ g.W.MessageWrite.bytes g.W.MessageWrite.room c.add_signature.result _
    c.add_signature.ensures.outcome
    (c.sides_sign_what_is_signable.ensures.client _ c.args.self.now.state
    (g.W.MessageWrite.bytes c.args.writer) (g.W.MessageWrite.room c.args.writer)
    (client_signable _ c.args.self.now.state (g.W.MessageWrite.bytes c.args.writer)
    (g.W.MessageWrite.room c.args.writer) c.keeps_short_texts.ensures may))

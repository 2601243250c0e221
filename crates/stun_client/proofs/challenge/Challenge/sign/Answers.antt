-- What was added is read back, and the challenge is by the rule.
use Rattle.std.proofs.Common.{◌≡◌, ◌+◌, ◌∙◌, None, true, length, subst}
use Rattle.std.specs.Prelude.{IfOk}
use Rattle.stun_base.specs.MessageType.{class_in}
use Rattle.stun_judging.specs.Additions.{WantsMemory, growth, page_in}
use Rattle.stun_judging.specs.Feature.{is_required}
use Rattle.stun_judging.specs.Reading.{error_code, reading_of}
use Rattle.stun_judging.specs.Signed.{IsUnsigned, ReadsAs}
use Rattle.stun_judging.proofs.Growth.{grown_answer}
use Rattle.stun_judging.proofs.JoinedLemmas.{WritingLaws}
use Rattle.stun_client.specs.Challenge.{added_under, challenge_additions}
use Rattle.stun_client.specs.Challenges.{Answered}
use Rattle.stun_client.specs.Downgrade.{IsNowhereBidDown}
use Rattle.stun_client.specs.code.Kept.{challenge_seen}
use Rattle.stun_client.proofs.SigningLemmas.{reads_signed, then_read}
use Rattle.stun_client.proofs.challenge.Challenge.sign.Goals as goal

pub returns-clause-grows : goal.returns-clause-grows
returns-clause-grows g c =
    let bytes = g.W.MessageWrite.bytes in
    let room = g.W.MessageWrite.room in
    let added = challenge_additions true (challenge_seen c.self.inside.kept.value) in
    subst (λ (v : Answered). IfOk c.sign.result
    (λ signed. length (bytes signed)
    ≡ length (bytes c.args.writer) + growth (challenge_additions true v.challenge)))
    c.self.view_is
    (grown_answer bytes room added c.args.writer
    (WantsMemory added (page_in bytes room c.args.writer) (g.W.MessageWrite.reserved c.args.writer))
    c.sign.result c.requires (rw c.deref-2.ensures at c.sign.ensures.outcome))

laws : (g : _) (c : goal.After-sign g) → WritingLaws
laws g c = record {
  shown = c.writing_adds_one_attribute.ensures.shown;
  added = c.writing_adds_one_attribute.ensures.added;
  opened = c.writing_adds_one_attribute.ensures.open;
  stands_signed = c.signed_message_stands.ensures.stands;
  signed = c.signed_message_stands.ensures.added;
}

-- what is read of the signed message
whole : (g : _) (c : goal.After-sign g) → IfOk c.sign.result
    (λ signed. IsUnsigned (g.W.MessageWrite.bytes c.args.writer)
    → ReadsAs (class_in (g.W.MessageWrite.bytes c.args.writer))
    (error_code (g.W.MessageWrite.bytes c.args.writer))
    (added_under true (challenge_seen c.self.inside.kept.value))
    (reading_of (g.W.MessageWrite.bytes signed)))
whole g c =
    let bytes = g.W.MessageWrite.bytes in
    let room = g.W.MessageWrite.room in
    let kept = challenge_seen c.self.inside.kept.value in
    reads_signed (laws g c) bytes room kept c.args.writer c.sign.result
    (WantsMemory (challenge_additions true kept) (page_in bytes room c.args.writer)
    (g.W.MessageWrite.reserved c.args.writer))
    (rw c.deref.ensures at c.keeps_texts.ensures) (rw c.deref-2.ensures at c.sign.ensures.outcome)

pub returns-clause-reads : goal.returns-clause-reads
returns-clause-reads g c =
    let bytes = g.W.MessageWrite.bytes in
    subst (λ (v : Answered). IfOk c.sign.result
    (λ signed. IsUnsigned (bytes c.args.writer)
    → ReadsAs (class_in (bytes c.args.writer)) (error_code (bytes c.args.writer))
    (added_under true v.challenge) (reading_of (bytes signed))))
    c.self.view_is (whole g c)

pub returns-clause-not_bid_down : goal.returns-clause-not_bid_down
returns-clause-not_bid_down g c =
    let bytes = g.W.MessageWrite.bytes in
    let kept = challenge_seen c.self.inside.kept.value in
    let class = class_in (bytes c.args.writer) in
    let error = error_code (bytes c.args.writer) in
    subst (λ (v : Answered). IfOk c.sign.result
    (λ signed. IsUnsigned (bytes c.args.writer)
    → IsNowhereBidDown v.preferences (reading_of (bytes signed))))
    c.self.view_is
    (then_read c.sign.result (IsUnsigned (bytes c.args.writer))
    (λ signed. ReadsAs class error (added_under true kept) (reading_of (bytes signed)))
    (λ signed. IsNowhereBidDown c.self.inside.preferences (reading_of (bytes signed)))
    (λ signed reads. c.signed_requests_are_not_bid_down.ensures c.self.inside.preferences
    kept class error (bytes signed) c.self.invariant reads) (whole g c))

pub returns-clause-hashed : goal.returns-clause-hashed
returns-clause-hashed g c =
    let bytes = g.W.MessageWrite.bytes in
    let kept = challenge_seen c.self.inside.kept.value in
    let class = class_in (bytes c.args.writer) in
    let error = error_code (bytes c.args.writer) in
    subst (λ (v : Answered). IfOk c.sign.result
    (λ signed. IsUnsigned (bytes c.args.writer)
    → is_required v.preferences.anonymous_username ≡ true
    → (reading_of (bytes signed)).username ≡ None))
    c.self.view_is
    (then_read c.sign.result (IsUnsigned (bytes c.args.writer))
    (λ signed. ReadsAs class error (added_under true kept) (reading_of (bytes signed)))
    (λ signed. is_required c.self.inside.preferences.anonymous_username ≡ true
    → (reading_of (bytes signed)).username ≡ None)
    (λ signed reads. λ must. reads.username_is ∙ c.self.invariant.required must) (whole g c))

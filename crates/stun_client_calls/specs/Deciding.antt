-- What follows from a response to a message of an outstanding request, once it is judged (RFC 8489,
-- sections 5, 6.2.1 and 9.2.5).
use Rattle.std.specs.Prelude.{ℕ, Bool, true, false, ◌||◌, nat_le}
use Rattle.std.specs.Prelude.{if◌then◌else◌, Option, Some, None}
use Rattle.std.specs.Option.{is_none, option_map}
use Rattle.stun_base.specs.declared.keys.algorithm.IntegrityAlgorithm.{IntegrityAlgorithm}
use Rattle.stun_client.specs.Challenges.{Answered}
use Rattle.stun_client.specs.Judging.{Verdict, anew, believed, doubted, dropped, refused}
use Rattle.stun_client.specs.Standing.{StandingSeen}
use Rattle.stun_client_endpoint.specs.Ends.{reason_of}
use Rattle.stun_client_endpoint.specs.Refusals.{OTHERS}
use Rattle.stun_client_endpoint.specs.declared.ended.DropReason.{DropReason}
use Rattle.stun_client_endpoint.specs.declared.ended.DropReason.TheVariants.{LateChallenge}
use Rattle.stun_client_endpoint.specs.declared.ended.DropReason.TheVariants.{NotVerified}
use Rattle.stun_client_calls.specs.Messages.{AskedSeen, DOUBTS, SentSeen, eligible, is_late}
use Rattle.stun_client_calls.specs.Messages.{has_unsigned, message_for, signed_eligible}
use Rattle.stun_client_calls.specs.declared.turning.Why.{Why}
use Rattle.stun_client_calls.specs.declared.turning.Why.TheVariants.{Challenged, Doubted, Refused}
use Rattle.stun_client_calls.specs.declared.turning.Why.TheVariants.{Undoubted}
use Rattle.stun_client_calls.specs.declared.deciding.Decision.{Decision}
use Rattle.stun_client_calls.specs.declared.deciding.Decision.TheVariants.{Answered as AnsweredBy}
use Rattle.stun_client_calls.specs.declared.deciding.Decision.TheVariants.{Drop, Refuse, Turn}
use Rattle.stun_client_calls.specs.declared.deciding.Decision.TheVariants.{ChallengedOut}
use Rattle.stun_client_calls.specs.declared.deciding.Limits.{Limits}

-- the rank and the transaction ID of an earlier message
abbrev pub Place : Type 0
Place = ℕ × ℕ

abbrev pub place_of : ℕ × SentSeen → Place
place_of e = (e.0, e.1.id)

-- what happens after a response: the response ends its request, and has this signature; the
-- response is a challenge that the request no longer answers, so that it ends; an earlier message or
-- a new one, which is signed for this challenge or is not signed, becomes the current one; the
-- response is a refusal, which is dropped and counted; or the response is dropped
pub data DecisionSeen : Type 0 where
  answered : Option IntegrityAlgorithm → DecisionSeen
  challenged_out : DecisionSeen
  turns : Why → Option Place → Option Answered → DecisionSeen
  refuses : DecisionSeen
  drops : DropReason → DecisionSeen

-- the result of `decide`, as this type
abbrev pub decision_of : {A : Type 0} → Decision A → DecisionSeen
decision_of (AnsweredBy by) = answered by
decision_of ChallengedOut = challenged_out
decision_of (Turn why place c) = turns why place c
decision_of Refuse = refuses
decision_of (Drop why) = drops why

-- ---- until when another message may become the current one

-- whether another message has become the current one as often as the limit allows
abbrev pub is_spent : Limits → AskedSeen → Bool
is_spent limits a = nat_le limits.turns a.turns

-- ---- challenges

-- a request has one message for each challenge, which is an earlier one or a new one
abbrev pub turns_for : Why → Answered → AskedSeen → DecisionSeen
turns_for why c a = turns why (option_map place_of (message_for c a.earlier)) (Some c)

-- a challenge is answered with the message for it. If no other message may become the current one,
-- the challenge is too late, or ends the request
abbrev pub answered_anew : Limits → ℕ → AskedSeen → Answered → DecisionSeen
answered_anew limits now a c =
    if is_late now a then drops LateChallenge
    else if is_spent limits a then challenged_out
    else turns_for Challenged c a

-- a 401 for the same realm and security bits, with another nonce or list, is answered in this way
-- twice. The third one ends the request
abbrev pub answered_refusal : Limits → ℕ → AskedSeen → Answered → DecisionSeen
answered_refusal limits now a c =
    if is_late now a then drops LateChallenge
    else if is_spent limits a || nat_le OTHERS a.refusals.others then challenged_out
    else turns_for Refused c a

-- the challenge that the message is signed for already: the message stays the current one. The
-- second such challenge that counts ends the request, and over a reliable transport, where nothing
-- is retransmitted, the first one does
abbrev pub refused_again : Limits → AskedSeen → DecisionSeen
refused_again limits a =
    if limits.is_reliable || a.refusals.is_earlier then challenged_out else refuses

-- ---- doubts

-- an earlier message becomes the current one again, unchanged
abbrev pub back_to : Why → ℕ × SentSeen → DecisionSeen
back_to why e = turns why (Some (place_of e)) e.1.signed_for

-- a signed message is replaced by an unsigned one, unless there is one already, which is then in
-- doubt
abbrev pub begun_again : AskedSeen → DecisionSeen
begun_again a =
    if has_unsigned a.earlier then drops NotVerified else turns Doubted None None

-- an unsigned message is replaced by the last signed one, whatever doubts there are
abbrev pub undoubted : Option (ℕ × SentSeen) → DecisionSeen
undoubted None = drops NotVerified
undoubted (Some e) = back_to Undoubted e

-- the decision if every other message is in doubt, or too weak
abbrev pub without_eligible : StandingSeen → AskedSeen → DecisionSeen
without_eligible standing a =
    if is_none a.signed_for then undoubted (signed_eligible standing a.earlier) else begun_again a

-- a message in doubt is replaced by the last other one that is not in doubt
abbrev pub giving_way : StandingSeen → AskedSeen → Option (ℕ × SentSeen) → DecisionSeen
giving_way standing a (Some e) = back_to Doubted e
giving_way standing a None = without_eligible standing a

-- whether a doubt comes too late or too often to have an effect
abbrev pub is_idle : Limits → ℕ → AskedSeen → Bool
is_idle limits now a = is_late now a || (is_spent limits a || nat_le DOUBTS a.doubts)

abbrev pub on_doubt : Limits → StandingSeen → ℕ → AskedSeen → DecisionSeen
on_doubt limits standing now a =
    if is_idle limits now a then drops NotVerified
    else giving_way standing a (eligible standing a.earlier)

-- ---- all of it

-- what follows from a response, by how it was judged
abbrev pub decided : Limits → StandingSeen → ℕ → AskedSeen → Verdict → DecisionSeen
decided limits standing now a (believed by) = answered by
decided limits standing now a (anew c) = answered_anew limits now a c
decided limits standing now a (refused None) = refused_again limits a
decided limits standing now a (refused (Some c)) = answered_refusal limits now a c
decided limits standing now a doubted = on_doubt limits standing now a
decided limits standing now a (dropped why) = drops (reason_of why)

-- whether a response casts doubt on its message
abbrev pub is_doubted : Verdict → Bool
is_doubted (believed by) = false
is_doubted (anew c) = false
is_doubted (refused c) = false
is_doubted doubted = true
is_doubted (dropped why) = false

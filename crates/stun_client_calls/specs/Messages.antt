-- The messages of a request (RFC 8489, sections 5, 6.2.1 and 9.2.5). A message is what is sent for
-- a request under one transaction ID. It is signed for one challenge, or unsigned. The message that
-- was sent last is the current one, which is retransmitted by its timer. The others are earlier
-- messages, which are no longer sent, but a response that is signed with the key of one of them
-- still ends the request.
use Rattle.std.specs.Prelude.{ℕ, ◌+◌, ◌-◌, ◌==◌, Bool, true, false, not, ◌&&◌, List, [], find}
use Rattle.std.specs.Prelude.{if◌then◌else◌, min, nat_lt, Option, Some, None}
use Rattle.std.specs.BTreeMap.{insert_entry, is_at}
use Rattle.std.specs.Map.{lookup, remove_entry}
use Rattle.std.specs.Option.{is_none, is_some, option_map_or}
use Rattle.std.specs.Ordering.{nat_cmp}
use Rattle.stun_client.specs.Challenges.{Answered, is_one}
use Rattle.stun_client.specs.Standing.{StandingSeen, after_timeout, is_ignored}
use Rattle.stun_client_endpoint.specs.Bodies.{Body}
use Rattle.stun_client_endpoint.specs.Ends.{after_drop, no_drops}
use Rattle.stun_client_endpoint.specs.Refusals.{after_refusal, after_sending, after_turn, no_refusals}
use Rattle.stun_client_endpoint.specs.declared.ended.DropReason.{DropReason}
use Rattle.stun_client_endpoint.specs.declared.ended.DropReason.TheVariants.{Refused as RefusedAgain}
use Rattle.stun_client_endpoint.specs.declared.ended.Drops.{Drops}
use Rattle.stun_client_endpoint.specs.declared.refusals.Refusals.{Refusals}
use Rattle.stun_client_calls.specs.Options.{Options, handed_out_at}
use Rattle.stun_client_calls.specs.declared.options.HandedOut.{HandedOut}
use Rattle.stun_client_calls.specs.declared.options.HandedOut.TheVariants.{Again, Never}
use Rattle.stun_client_calls.specs.declared.turning.Why.{Why}
use Rattle.stun_client_calls.specs.declared.turning.Why.TheVariants.{Challenged, Refused}
use Rattle.stun_client_calls.specs.declared.turning.Why.TheVariants.{Doubted, Undoubted}

-- an earlier message: its transaction ID, the challenge that it is signed for, and whether a
-- response has thrown doubt on it
pub record SentSeen : Type 0 where
  pub id : ℕ
  pub signed_for : Option Answered
  pub is_doubted : Bool

-- the earlier messages of a request, each under its rank. The later a message was written, the
-- lower is its rank, so the one that was written last comes first, whichever of them was the current
-- one last
abbrev pub AllSent : Type 0
AllSent = List (ℕ × SentSeen)

-- What is stored of an outstanding request:
--
-- - its method, its body, and how it is sent if that differs from its client;
-- - when its first plan ends;
-- - the rank of its current message, the challenge that this message is signed for, and how often
--   its bytes were returned;
-- - its earlier messages;
-- - how often another message became the current one, and how often because of a doubt;
-- - its refusals that count, and what was dropped for it.
pub record AskedSeen : Type 0 where
  pub method : ℕ
  pub body : Body
  pub options : Option Options
  pub until : ℕ
  pub rank : ℕ
  pub signed_for : Option Answered
  pub handed_out : HandedOut
  pub earlier : AllSent
  pub turns : ℕ
  pub doubts : ℕ
  pub refusals : Refusals
  pub drops : Drops

-- the rank of a message that is written after another message has become the current one this often
abbrev pub rank_after : ℕ → ℕ
rank_after turns = 4294967295 - turns

-- a request that starts, signed for this challenge
abbrev pub new_asked : ℕ → Body → Option Options → ℕ → Option Answered → AskedSeen
new_asked method body options until signed_for = record {
  method = method;
  body = body;
  options = options;
  until = until;
  rank = rank_after 0;
  signed_for = signed_for;
  handed_out = Never;
  earlier = [];
  turns = 0;
  doubts = 0;
  refusals = no_refusals;
  drops = no_drops;
}

-- ---- which message is which

-- the earlier message with a transaction ID
abbrev pub message_at : ℕ → AllSent → Option (ℕ × SentSeen)
message_at id earlier = find (λ e. e.1.id == id) earlier

-- the earlier message that is signed for a challenge
abbrev pub message_for : Answered → AllSent → Option (ℕ × SentSeen)
message_for c earlier = find (λ e. is_one (Some c) e.1.signed_for) earlier

-- whether there is an earlier message that is not signed
abbrev pub has_unsigned : AllSent → Bool
has_unsigned earlier = is_some (find (λ e. is_none e.1.signed_for) earlier)

-- ---- doubts

-- the limit on how often another message becomes the current one for a doubt
abbrev pub DOUBTS : ℕ
DOUBTS = 3

-- whether a message is signed for a challenge that is weaker than what a success has confirmed
abbrev pub is_too_weak : StandingSeen → Option Answered → Bool
is_too_weak standing None = false
is_too_weak standing (Some c) = is_ignored standing c

-- whether a request may go back to a message: it is not in doubt, and not too weak
abbrev pub is_eligible : StandingSeen → SentSeen → Bool
is_eligible standing s = not s.is_doubted && not (is_too_weak standing s.signed_for)

-- whether it may go back to a message once all doubts are forgotten: it is signed, and not too weak
abbrev pub is_signed_eligible : StandingSeen → SentSeen → Bool
is_signed_eligible standing s =
    is_some s.signed_for && not (is_too_weak standing s.signed_for)

-- the last earlier message that a request may go back to
abbrev pub eligible : StandingSeen → AllSent → Option (ℕ × SentSeen)
eligible standing earlier = find (λ e. is_eligible standing e.1) earlier

abbrev pub signed_eligible : StandingSeen → AllSent → Option (ℕ × SentSeen)
signed_eligible standing earlier = find (λ e. is_signed_eligible standing e.1) earlier

-- ---- another message becomes the current one

-- because of a challenge, which may be a refusal, or because of a doubt, which may be recorded
abbrev pub is_refusal : Why → Bool
is_refusal Challenged = false
is_refusal Refused = true
is_refusal Doubted = false
is_refusal Undoubted = false

abbrev pub is_doubt : Why → Bool
is_doubt Challenged = false
is_doubt Refused = false
is_doubt Doubted = true
is_doubt Undoubted = true

-- whether the former message is in doubt then
abbrev pub leaves_doubt : Why → Bool
leaves_doubt Challenged = false
leaves_doubt Refused = false
leaves_doubt Doubted = true
leaves_doubt Undoubted = false

-- the message that becomes the current one: its transaction ID, its rank, the challenge that it is
-- signed for, the number of the next transaction ID, the challenge that it answers, and why it
-- becomes the current one
pub record TurnSeen : Type 0 where
  pub id : ℕ
  pub rank : ℕ
  pub signed_for : Option Answered
  pub next_id : ℕ
  pub answered : Option Answered
  pub why : Why

-- the next count, at most the largest number
abbrev pub counted_on : ℕ → ℕ
counted_on count = min (count + 1) 4294967295

-- the earlier messages without the one that becomes the current one
abbrev pub without_message : ℕ → AllSent → AllSent
without_message rank earlier = remove_entry (is_at (nat_cmp rank)) earlier

-- the former message is stored as an earlier one, or there is no memory for it
abbrev pub with_former : Bool → ℕ → SentSeen → AllSent → AllSent
with_former is_kept rank s earlier = if is_kept then insert_entry nat_cmp earlier rank s else earlier

-- how often the bytes of the message with a rank were returned before it becomes the current one. A
-- new message was never sent. How often an earlier message was sent is not stored
abbrev pub handed_out_before : ℕ → AllSent → HandedOut
handed_out_before rank earlier =
    if is_some (lookup (is_at (nat_cmp rank)) earlier) then Again else Never

-- another message takes the place of the current one, which had this transaction ID
abbrev pub exchanged : Bool → ℕ → ℕ → Option Answered → Bool → AskedSeen → AskedSeen
exchanged is_kept former rank signed_for is_doubted a = record a {
  rank = rank;
  signed_for = signed_for;
  handed_out = handed_out_before rank a.earlier;
  earlier = with_former is_kept a.rank
      (record { id = former; signed_for = a.signed_for; is_doubted = is_doubted })
      (without_message rank a.earlier);
}

-- the counts of a request then
abbrev pub counting : Why → AskedSeen → AskedSeen
counting why a = record a {
  turns = counted_on a.turns;
  doubts = if is_doubt why then counted_on a.doubts else a.doubts;
  refusals = after_turn (is_refusal why) a.refusals;
}

-- a request after another message has become the current one. `former` is the transaction ID that
-- it had
abbrev pub turned : Bool → ℕ → TurnSeen → AskedSeen → AskedSeen
turned is_kept former t a =
    counting t.why (exchanged is_kept former t.rank t.signed_for (leaves_doubt t.why) a)

-- ---- ends

-- whether the first plan of a request is over
abbrev pub is_late : ℕ → AskedSeen → Bool
is_late now a = nat_lt a.until now

-- the challenge of an earlier message that is signed for this one, if the request has such a
-- message, or else the challenge of its current message
abbrev pub challenge_for : Option Answered → AskedSeen → Option Answered
challenge_for None a = a.signed_for
challenge_for (Some c) a =
    option_map_or (λ e. e.1.signed_for) (message_for c a.earlier) a.signed_for

-- the standing challenge after a request was not answered in time: if a message of the request is
-- signed for it, current or earlier, it may be forged
abbrev pub stepped_back : AskedSeen → StandingSeen → StandingSeen
stepped_back a standing = after_timeout standing (challenge_for standing.current a)

-- ---- other changes

-- its bytes are returned
abbrev pub sent_out : ℕ → AskedSeen → AskedSeen
sent_out now a = record a {
  handed_out = handed_out_at now a.handed_out;
  refusals = after_sending a.refusals;
}

-- a response to it is dropped
abbrev pub noting : DropReason → Option ℕ → AskedSeen → AskedSeen
noting why code a = record a { drops = after_drop why code a.drops }

-- it is refused with the challenge that it was signed for. That response is dropped
abbrev pub refusing : Option ℕ → AskedSeen → AskedSeen
refusing code a = record a {
  drops = after_drop RefusedAgain code a.drops;
  refusals = after_refusal a.refusals;
}

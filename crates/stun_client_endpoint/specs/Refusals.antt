-- The refusals of a request that count (RFC 8489, section 9.2.5). A refusal is a response that
-- repeats the challenge that the request was signed for, or a 401 with the same realm and security
-- bits and another nonce or list.
use Rattle.std.specs.Prelude.{ℕ, ◌+◌, min, Bool, true, false, ◌||◌, if◌then◌else◌}
use Rattle.stun_client_endpoint.specs.declared.refusals.Refusals.{Refusals}

-- the number of refusals with another nonce or list that are answered. The next one ends the
-- request
abbrev pub OTHERS : ℕ
OTHERS = 2

abbrev pub no_refusals : Refusals
no_refusals = record { is_sent = false; is_recent = false; is_earlier = false; others = 0 }

-- the challenge that the current message is signed for arrived again. It counts only if the message
-- was sent since it became the current one
abbrev pub after_refusal : Refusals → Refusals
after_refusal r = record {
  is_sent = r.is_sent;
  is_recent = r.is_recent || r.is_sent;
  is_earlier = r.is_earlier;
  others = r.others;
}

-- the current message is sent. So a refusal counts once for each time that the message was sent
abbrev pub after_sending : Refusals → Refusals
after_sending r = record {
  is_sent = true;
  is_recent = false;
  is_earlier = r.is_earlier || r.is_recent;
  others = r.others;
}

-- another message becomes the current one, whose challenge may be a refusal. The refusals of the
-- former message do not count against it
abbrev pub after_turn : Bool → Refusals → Refusals
after_turn is_refusal r = record {
  is_sent = false;
  is_recent = false;
  is_earlier = false;
  others = if is_refusal then min (r.others + 1) 4294967295 else r.others;
}

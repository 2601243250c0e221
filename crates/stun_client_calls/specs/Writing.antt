-- The bytes of the messages of a request (RFC 8489, sections 5, 6.1 and 9.2.5).
use Rattle.std.specs.Prelude.{ℕ, Option}
use Rattle.stun_client.specs.Challenges.{Answered}
use Rattle.stun_client.specs.Judging.{Identity}
use Rattle.stun_client_endpoint.specs.Written.{Form, Page?, request_bytes}
use Rattle.stun_client_calls.specs.Messages.{AskedSeen}
use Rattle.stun_client_calls.specs.Options.{identity_by}

-- a message under a transaction ID, signed for a challenge with the identity of the client for the
-- request. Its bytes depend on nothing else, so a message that becomes the current one again is
-- sent with the bytes that it had
abbrev pub message_bytes : Form → Identity → Option Answered → ℕ → AskedSeen → Page?
message_bytes form identity challenge id a =
    request_bytes form (identity_by a.options identity) challenge a.method id a.body

-- The verdict of a server under a nonce that its caller passes, and the server after a first message
-- and the response to it (RFC 8489, section 9.2.4).
use Rattle.std.specs.Prelude.{ℕ, List, Some, true}
use Rattle.std.specs.declared.net.socket_addr.SocketAddr.{SocketAddr}
use Rattle.std.specs.declared.result.Result.{Result}
use Rattle.stun_judging.specs.declared.refusal.VerdictRefusal.{VerdictRefusal}
use Rattle.stun_judging.specs.Reading.{Reading}
use Rattle.stun_judging.specs.Verdict.{ClientSeen, verdict}
use Rattle.stun_auth.specs.ServerSigning.{after_signing}
use Rattle.stun_auth.specs.Validation.{ServerSeen, after_validation}

-- the verdict of a server under a nonce, if it offered all algorithms that it supports
abbrev pub verdict_by_nonce : ServerSeen → List ℕ → Reading → Result ClientSeen VerdictRefusal
verdict_by_nonce s nonce r = verdict s.registered s.feature nonce (Some s.registered.algorithms) r

-- the server after a first message, once a response to it is signed
abbrev pub offered_after : ServerSeen → SocketAddr → ℕ → List ℕ → Reading → ServerSeen
offered_after s from now words r = after_signing (after_validation s from now words r) from true

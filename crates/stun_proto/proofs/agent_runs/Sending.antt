-- What an answer of the agent says of the reason to refuse that its contract names.
use Rattle.std.proofs.Common.{ℕ, ◌≡◌, ap, ◌∙◌, refl, Bool, true, false, List}
use Rattle.std.specs.Option.{option_map_or}
use Rattle.std.specs.Prelude.{Option, Some, None, Ok, Err, MatchOption}
use Rattle.std.specs.Prelude.{IsOk, IsOkUnless, IsErrOf, if◌then◌else◌}
use Rattle.stun_agent.specs.declared.error.StunError.{StunError}
use Rattle.std.specs.declared.net.socket_addr.SocketAddr.{SocketAddr}
use Rattle.stun_base.specs.declared.wire.error.StunParseError.{StunParseError}
use Rattle.stun_agent.specs.Agent.{Agent, request_refusal}
use Rattle.stun_agent.specs.declared.error.StunError.TheVariants.{ParseError, ProtocolViolation}
use Rattle.stun_agent.specs.declared.error.StunError.TheVariants.{AlreadyInProgress, OutOfMemory}

-- what was refused is refused for that reason
pub one_refused : (T : Type 0) (o : Option StunError) (e : StunError)
    → MatchOption o (IsOk {T = T} {E = StunError} (Err e)) (IsErrOf {T = T} {E = StunError} (Err e))
    → o ≡ Some e
one_refused T None e h = cc
one_refused T (Some f) e h = cc

-- what was not refused has no reason
pub one_accepted : (T : Type 0) (o : Option StunError) (t : T)
    → MatchOption o (IsOk {T = T} {E = StunError} (Ok t)) (IsErrOf {T = T} {E = StunError} (Ok t))
    → o ≡ None
one_accepted T None t h = refl
one_accepted T (Some f) t h = cc

-- the same of a request, where no allocation failed
pub request_refused : (T : Type 0) (o : Option StunError) (e : StunError) → (e ≡ OutOfMemory → ⊥)
    → MatchOption o (IsOkUnless {T = T} {E = StunError} (Err e) OutOfMemory)
    (IsErrOf {T = T} {E = StunError} (Err e)) → o ≡ Some e
request_refused T None e other h = absurd (other h)
request_refused T (Some f) e other h = cc

pub request_accepted : (T : Type 0) (o : Option StunError) (t : T)
    → MatchOption o (IsOkUnless {T = T} {E = StunError} (Ok t) OutOfMemory)
    (IsErrOf {T = T} {E = StunError} (Ok t)) → o ≡ None
request_accepted T None t h = refl
request_accepted T (Some f) t h = cc

-- a failed allocation is no reason to refuse a request
never_memory : (o : Option StunParseError) (right elsewhere there : Bool)
    → option_map_or (λ error. Some (ParseError error)) o
    (if right
    then (if elsewhere then Some ProtocolViolation
    else (if there then Some AlreadyInProgress else None)) else Some ProtocolViolation)
    ≡ Some OutOfMemory
    → ⊥
never_memory (Some error) right elsewhere there h = cc
never_memory None false elsewhere there h = cc
never_memory None true true there h = cc
never_memory None true false true h = cc
never_memory None true false false h = cc

pub memory_alone : (T : Type 0) (a : Agent) (bytes : List ℕ) (to : SocketAddr) (e : StunError)
    → e ≡ OutOfMemory
    → MatchOption (request_refusal a bytes to)
    (IsOkUnless {T = T} {E = StunError} (Err e) OutOfMemory)
    (IsErrOf {T = T} {E = StunError} (Err e)) → request_refusal a bytes to ≡ None
memory_alone T a bytes to e is h = by (request_refusal a bytes to) refl h
  where
    by : (o : Option StunError) → request_refusal a bytes to ≡ o
        → MatchOption o (IsOkUnless {T = T} {E = StunError} (Err e) OutOfMemory)
        (IsErrOf {T = T} {E = StunError} (Err e))
        → request_refusal a bytes to ≡ None
    by None f h = f
    by (Some reason) f h =
        let same : reason ≡ OutOfMemory = cc in
        absurd (never_memory _ _ _ _ (f ∙ ap Some same))

-- What a run of a meeting returns and leaves.
use Rattle.std.specs.Prelude.{ℕ, List, [], map, slice_index, slice_index_or, Option, Some, None}
use Rattle.std.specs.declared.result.Result.{Result}
use Rattle.std.specs.declared.result.Result.TheVariants.{Ok, Err}
use Rattle.std.specs.Borrow.{Bor}
use Rattle.std.specs.declared.net.socket_addr.SocketAddr.{SocketAddr}
use Rattle.stun_base.specs.declared.wire.error.StunWriteError.{StunWriteError}
use Rattle.stun_base.specs.declared.wire.error.StunWriteError.TheVariants.{NotAllowed}
use Rattle.stun_base.specs.declared.wire.error.StunWriteError.TheVariants.{MessageIntegrityExists}
use Rattle.stun_base.specs.declared.wire.error.StunWriteError.TheVariants.{AttributeExists}
use Rattle.stun_base.specs.declared.wire.error.StunWriteError.TheVariants.{TooLarge, TooSmall}
use Rattle.stun_base.specs.declared.wire.error.StunWriteError.TheVariants.{IntegrityFailed}
use Rattle.stun_base.specs.declared.wire.error.StunWriteError.TheVariants.{OutOfMemory}
use Rattle.stun_auth.specs.Client.{ClientSettings, ClientState}
use Rattle.stun_auth.specs.Validation.{ServerSeen}
use Rattle.stun_proto.specs.Negotiation.{Meeting, Met, Round, ending_with, ending_unwritten}
use Rattle.stun_proto.specs.declared.replay.call.ServerCall.{ServerCall}
use Rattle.stun_proto.specs.declared.replay.negotiation.NegotiateError.{NegotiateError}
use Rattle.stun_proto.specs.declared.replay.negotiation.NegotiateError.TheVariants.{Memory, Write}
use Rattle.stun_proto.specs.declared.replay.negotiation.Outcome.{Outcome}

-- the lists of calls that references lead to
abbrev pub lists : List (Bor (List ServerCall)) → List (List ServerCall)
lists between = map (λ (calls : Bor (List ServerCall)). calls.now) between

-- the request at an index
abbrev pub round_at : ℕ → List ℕ → List ℕ → List (List ℕ) → List (List ServerCall) → Round
round_at i ids moments words between = record {
  id = slice_index ids i;
  now = slice_index moments i;
  words = slice_index_or words i [];
  before = slice_index_or between i [];
}

-- the meeting of a client with these settings, from two of each: the first is that of the first
-- request
abbrev pub meeting : ClientSettings → SocketAddr → List ℕ → List ℕ → List (List ℕ)
    → List (List ServerCall) → Meeting
meeting settings from ids moments words between = record {
  settings = settings;
  from = from;
  first = round_at 0 ids moments words between;
  second = round_at 1 ids moments words between;
}

-- how a run has ended and what it has left, if no allocation failed
abbrev pub met_by : Result Outcome NegotiateError → ClientState → ServerSeen → Option Met
met_by (Ok outcome) client server = Some (ending_with outcome client server)
met_by (Err (Write reason)) client server = Some (ending_unwritten reason client server)
met_by (Err Memory) client server = None

-- a refused signing as an error of the run
abbrev pub error_of_write : StunWriteError → NegotiateError
error_of_write NotAllowed = Write NotAllowed
error_of_write MessageIntegrityExists = Write MessageIntegrityExists
error_of_write (AttributeExists kind) = Write (AttributeExists kind)
error_of_write TooLarge = Write TooLarge
error_of_write TooSmall = Write TooSmall
error_of_write IntegrityFailed = Write IntegrityFailed
error_of_write OutOfMemory = Memory

-- The next thing to do for a client, as a caller in C receives it.
use Rattle.std.specs.Prelude.{ℕ, length, min, Bool, true, false, ◌==◌, if◌then◌else◌, Option, Some, None}
use Rattle.std.specs.Option.{option_map_or}
use Rattle.stun_client.specs.declared.judged.Outcome.{Outcome}
use Rattle.stun_client.specs.declared.judged.Outcome.TheVariants.{Malformed, NotUnderstood}
use Rattle.stun_client.specs.declared.judged.Outcome.TheVariants.{Redirected, Refused, Success}
use Rattle.stun_client_calls.specs.Endpoints.{EndSeen}
use Rattle.stun_client_endpoint.specs.declared.ended.DropReason.{DropReason}
use Rattle.stun_client_endpoint.specs.declared.ended.DropReason.TheVariants.{MissingFingerprint}
use Rattle.stun_client_endpoint.specs.declared.ended.DropReason.TheVariants.{NotVerified}
use Rattle.stun_client_endpoint.specs.declared.ended.DropReason.TheVariants.{OutOfMemory}
use Rattle.stun_client_endpoint.specs.declared.ended.DropReason.TheVariants as reason
use Rattle.stun_client_endpoint.specs.declared.ended.DropReason.TheVariants.{LateChallenge}
use Rattle.stun_client_endpoint.specs.declared.ended.DropReason.TheVariants.{UnanswerableChallenge}
use Rattle.stun_client_endpoint.specs.declared.ended.DropReason.TheVariants.{WeakerChallenge}
use Rattle.stun_client_endpoint.specs.declared.ended.DropReason.TheVariants.{WrongFingerprint}
use Rattle.stun_client_endpoint.specs.declared.ended.Drops.{Drops}
use Rattle.stun_client_endpoint.specs.declared.ended.RequestEnd.{RequestEnd}
use Rattle.stun_client_endpoint.specs.declared.ended.RequestEnd.TheVariants.{Answered, Cancelled}
use Rattle.stun_client_endpoint.specs.declared.ended.RequestEnd.TheVariants.{TimedOut, Unauthorized}
use Rattle.stun_client_endpoint.specs.declared.ended.RequestEnd.TheVariants.{TooManyChallenges}
use Rattle.stun_c_endpoint.specs.Told.{FAILED, integrity_number}
use Rattle.stun_c_endpoint.specs.declared.client.event.Dropped.{Dropped}
use Rattle.stun_c_endpoint.specs.declared.client.event.Event.{Event}

-- the number of bytes of a caller's event, with which it begins
abbrev pub EVENT_SIZE : ℕ
EVENT_SIZE = 80

-- the numbers of the reasons to drop a response
abbrev pub drop_told : DropReason → ℕ
drop_told WrongFingerprint = 3
drop_told MissingFingerprint = 13
drop_told NotVerified = 9
drop_told UnanswerableChallenge = 10
drop_told WeakerChallenge = 11
drop_told OutOfMemory = 12
drop_told LateChallenge = 14
drop_told reason.Refused = 15

-- a number, or 0 for none
abbrev pub or_zero : Option ℕ → ℕ
or_zero None = 0
or_zero (Some number) = number

-- the greatest number of 64 bits
abbrev pub FOR_EVER : ℕ
FOR_EVER = 18446744073709551615

-- until when to wait: the greatest number, if no request is outstanding
abbrev pub or_for_ever : Option ℕ → ℕ
or_for_ever None = FOR_EVER
or_for_ever (Some until) = until

-- a round trip: the greatest number, if it is not known or too long for 64 bits
abbrev pub trip_told : Option ℕ → ℕ
trip_told None = FOR_EVER
trip_told (Some nanos) = min nanos FOR_EVER

-- what was dropped for a request
abbrev pub drops_told : Drops → Dropped
drops_told d =
    record { count = d.count; why = option_map_or drop_told d.last 0; code = or_zero d.code }

abbrev pub nothing_dropped : Dropped
nothing_dropped = record { count = 0; why = 0; code = 0 }

-- an event with only its kind
abbrev pub event_blank : ℕ → Event → Event
event_blank kind e = record {
  size = e.size;
  kind = kind;
  result = 0;
  request = 0;
  until = 0;
  length = 0;
  needed = 0;
  code = 0;
  not_understood = 0;
  signed_by = 0;
  dropped = nothing_dropped;
  round_trip = 0;
}

-- the event of a caller after a call that failed: it has neither the kind nor the length from
-- before. In a struct of another size only these two fields are written, which it has in each
-- release
abbrev pub event_failed : Event → Event
event_failed e = record (if e.size == EVENT_SIZE then event_blank FAILED e else e) {
  size = e.size;
  kind = FAILED;
  length = 0;
}

-- an event whose bytes are lost. All else is in it
abbrev pub event_unless : Bool → ℕ → Event → Event
event_unless true count e = record e { kind = FAILED; length = 0; needed = count }
event_unless false count e = e

abbrev pub wait_told : ℕ → Event → Event
wait_told until e = record (event_blank 0 e) { until = until }

abbrev pub sent_told : ℕ → ℕ → Event → Event
sent_told number length e = record (event_blank 1 e) { request = number; length = length }

-- how a response that is believed ends its request
abbrev pub outcome_told : Outcome → Event → Event
outcome_told Success e = record e { result = 1 }
outcome_told (Refused code) e = record e { result = 2; code = code }
outcome_told Redirected e = record e { result = 3; code = 300 }
outcome_told (NotUnderstood kind) e = record e { result = 6; not_understood = kind.0 }
outcome_told Malformed e = record e { result = 7 }

-- how a request ends
abbrev pub end_told : RequestEnd → Event → Event
end_told (Answered outcome by) e =
    outcome_told outcome (record e { signed_by = integrity_number by })
end_told (TimedOut drops) e = record e { result = 4; dropped = drops_told drops }
end_told Unauthorized e = record e { result = 5 }
end_told TooManyChallenges e = record e { result = 9 }
end_told Cancelled e = record e { result = 8 }

-- which request has ended, and how, the length of the response that ended it, and the round trip
abbrev pub ended_told : ℕ → EndSeen → Event → Event
ended_told number x e =
    end_told x.end (record (event_blank 2 e) {
      request = number;
      length = length x.response;
      round_trip = trip_told x.round_trip;
    })

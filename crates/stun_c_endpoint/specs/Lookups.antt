-- The outcome of a datagram before its user is looked up, as a caller in C receives it (RFC 8489,
-- section 9.2.4).
use Rattle.std.specs.Prelude.{◌≡◌, ◌⊎◌, ℕ, ℤ, pos, List, ◌||◌, ◌==◌, true, not, length, nat_lt}
use Rattle.std.specs.Prelude.{if◌then◌else◌, Option, Result, Ok, Err}
use Rattle.stun_judging.specs.Named.{Named, by_hash, by_name}
use Rattle.stun_base.specs.Header.{type_field}
use Rattle.stun_base.specs.MessageType.{method_of}
use Rattle.stun_endpoint.specs.Lookups.{Identification, LookupSeen, done, identified_by, looked_up}
use Rattle.stun_endpoint.specs.Settings.{Settings}
use Rattle.stun_handles.specs.Addresses.{socket_address}
use Rattle.stun_handles.specs.Answers.{at_address}
use Rattle.stun_handles.specs.declared.address.Address.{Address}
use Rattle.stun_numbers.specs.declared.refusal.Refusal.{Refusal}
use Rattle.stun_numbers.specs.declared.refusal.Refusal.TheVariants.{BadArgument, WrongHandle}
use Rattle.stun_numbers.specs.declared.refusal.Refusal.TheVariants.{OutOfMemory}
use Rattle.stun_c_endpoint.specs.Told.{IsTold, LAST_SECOND, LeavesAll, NAME_PLACE, NAME_ROOM}
use Rattle.stun_c_endpoint.specs.Told.{RECEIVED_SIZE, at_front, blank, of_realm}
use Rattle.stun_c_endpoint.specs.Kept.{at_handle}
use Rattle.stun_c_endpoint.specs.declared.handle.endpoint.Kept.{Kept}
use Rattle.stun_c_endpoint.specs.declared.handle.endpoint.Kept.TheVariants.{Checker, Server, Users}
use Rattle.stun_c_endpoint.specs.declared.handle.endpoint.Kept.TheVariants.{Open, ShortTerm}
use Rattle.stun_c_endpoint.specs.declared.handle.endpoint.Kept.TheVariants.{Client, ShortTermUsers}
use Rattle.stun_c_endpoint.specs.declared.received.Received.{Received}

-- what is judged without users: a server of another kind than one with long-term credentials has no
-- users to be looked up, and fails
abbrev pub long_term_of : Kept → Result Settings Refusal
long_term_of (Server s) = Ok s
long_term_of (Users t) = Err WrongHandle
long_term_of (Open t) = Err WrongHandle
long_term_of (ShortTerm t) = Err WrongHandle
long_term_of (ShortTermUsers t) = Err WrongHandle
long_term_of (Checker t) = Err WrongHandle
long_term_of (Client t) = Err WrongHandle

abbrev pub long_term_in : Option Kept → Result Settings Refusal
long_term_in handle = at_handle handle (λ kept. long_term_of kept)

-- the errors of the handle come first, and then a result of another size, a time that is not one of
-- seconds, and an address that is not one
abbrev pub identified_at : Result Settings Refusal → Address → ℕ → List ℕ → Received
    → Result Identification Refusal
identified_at (Err refusal) from seconds bytes r = Err refusal
identified_at (Ok s) from seconds bytes r =
    if not (r.size == RECEIVED_SIZE) || nat_lt LAST_SECOND seconds then Err BadArgument
    else at_address (socket_address from) (λ from. Ok (identified_by s from seconds bytes))

-- the user whom a request names, by the name or by its hash
abbrev pub named_told : Named → Received → Received
named_told (by_name name) r =
    record r { name_length = length name; name = at_front NAME_PLACE NAME_ROOM name }
named_told (by_hash hash) r = record r {
  name_length = length hash;
  name = at_front NAME_PLACE NAME_ROOM hash;
  is_hash = true;
}

-- the result of a caller for a request that waits for its user
abbrev pub lookup_told : LookupSeen → Received → Received
lookup_told l r =
    named_told l.user (record (blank 5 r) { method = method_of (type_field l.message) })

-- a call returns the number for the outcome of a datagram, or 5 for a request that waits, and
-- writes the result
abbrev pub IsIdentified : Identification → ℤ → List ℕ → List ℕ → Received → Received → Type 0
IsIdentified (done outcome) result out out' r r' = IsTold (of_realm outcome) result out out' r r'
IsIdentified (looked_up l) result out out' r r' =
    (result ≡ pos 5) × (out' ≡ out) × (r' ≡ lookup_told l r)

-- the result of a call that identifies the user of a datagram, and what it writes
abbrev pub IdentifiesAs : Result Identification Refusal → ℤ → List ℕ → List ℕ → Received → Received
    → Type 0
IdentifiesAs (Ok i) result out out' r r' =
    IsIdentified i result out out' r r' ⊎ LeavesAll OutOfMemory result out out' r r'
IdentifiesAs (Err refusal) result out out' r r' = LeavesAll refusal result out out' r r'

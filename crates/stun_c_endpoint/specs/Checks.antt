-- The checks of an ICE agent as a caller in C receives them, and passes them again with an
-- answer (RFC 8445, section 7.2).
use Rattle.std.specs.Prelude.{◌≡◌, ◌⊎◌, ℕ, ℤ, ◌++◌, List, [], Bool, true, false}
use Rattle.std.specs.Prelude.{length, drop, nat_lt, Option, Some, None}
use Rattle.std.specs.Prelude.{Result, Ok, Err}
use Rattle.std.specs.Option.{option_map}
use Rattle.std.specs.declared.net.socket_addr.SocketAddr.{SocketAddr}
use Rattle.byteorder.specs.Endian.{big_bytes, big_number}
use Rattle.stun_ice.specs.Agent.{Agent, Peer, SentCheck, sent_check}
use Rattle.stun_handles.specs.Addresses.{caller_address, socket_address}
use Rattle.stun_handles.specs.Answers.{at_address}
use Rattle.stun_handles.specs.Numbers.{length_answer}
use Rattle.stun_handles.specs.declared.address.Address.{Address}
use Rattle.stun_numbers.specs.Refusals.{refusal_number}
use Rattle.stun_numbers.specs.declared.refusal.Refusal.{Refusal}
use Rattle.stun_numbers.specs.declared.refusal.Refusal.TheVariants.{BufferTooSmall, CannotSign}
use Rattle.stun_numbers.specs.declared.refusal.Refusal.TheVariants.{OutOfMemory}
use Rattle.stun_c_endpoint.specs.Agents.{is_controlling, role_if}
use Rattle.stun_c_endpoint.specs.declared.ice.told.IceCheck.{IceCheck}

-- ---- writing a check

-- the check that an agent writes to its peer, which must be known
abbrev pub check_to : Agent → ℕ → SocketAddr → ℕ → Bool → Option Peer → Result SentCheck Refusal
check_to a id to priority nominate None = Err CannotSign
check_to a id to priority nominate (Some peer) = Ok (sent_check a peer id to priority nominate)

-- the check that a caller asks for. The errors come in this order: an empty handle, an address that
-- is not one, and an agent that does not know its peer yet
abbrev pub check_asked : Result Agent Refusal → List ℕ → Address → ℕ → Bool
    → Result SentCheck Refusal
check_asked (Err refusal) id to priority nominate = Err refusal
check_asked (Ok a) id to priority nominate =
    at_address (socket_address to)
    (λ to. check_to a (big_number 12 id) to priority nominate a.peer)

-- a check as a caller receives it: plain data, without its bytes
abbrev pub check_told : SentCheck → IceCheck
check_told c = record {
  id = big_bytes 12 c.id;
  to = caller_address c.to;
  is_controlling = is_controlling c.role;
  nominates = c.nominates;
}

-- nothing is written
abbrev pub WritesNone : Refusal → ℤ → List ℕ → List ℕ → IceCheck → IceCheck → Type 0
WritesNone refusal result out out' k k' =
    (result ≡ refusal_number refusal) × (out' ≡ out) × (k' ≡ k)

-- the check is at the front of the buffer, and its length is returned
abbrev pub WritesWhole : SentCheck → ℤ → List ℕ → List ℕ → IceCheck → Type 0
WritesWhole c result out out' k' =
    (result ≡ length_answer (Ok (length c.bytes)))
    × (out' ≡ c.bytes ++ drop (length c.bytes) out) × (k' ≡ check_told c)

-- a check that has no room fails
abbrev pub WritesByRoom : Bool → SentCheck → ℤ → List ℕ → List ℕ → IceCheck → IceCheck → Type 0
WritesByRoom true c result out out' k k' = WritesNone BufferTooSmall result out out' k k'
WritesByRoom false c result out out' k k' = WritesWhole c result out out' k'

-- the result of a call that writes a check, and what it writes
abbrev pub WritesCheck : Result SentCheck Refusal → ℤ → List ℕ → List ℕ → IceCheck → IceCheck
    → Type 0
WritesCheck (Ok c) result out out' k k' =
    WritesByRoom (nat_lt (length out) (length c.bytes)) c result out out' k k'
    ⊎ WritesNone OutOfMemory result out out' k k'
WritesCheck (Err refusal) result out out' k k' = WritesNone refusal result out out' k k'

-- ---- passing it again

-- the check that a caller has stored, with what its answer is judged by
abbrev pub check_stored : IceCheck → SocketAddr → SentCheck
check_stored k to = record {
  id = big_number 12 k.id;
  to = to;
  role = role_if k.is_controlling;
  nominates = k.nominates;
  bytes = [];
}

-- the check that a caller passes, if any; nothing if the address in it is not one
abbrev pub check_given : Bool → IceCheck → Option (Option SentCheck)
check_given false k = Some None
check_given true k = option_map (λ to. Some (check_stored k to)) (socket_address k.to)

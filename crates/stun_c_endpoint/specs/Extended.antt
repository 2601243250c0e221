-- A check of an ICE agent with further attributes, which a caller in C passes as encoded
-- attributes (RFC 8445, section 7.2.4; RFC 8489, section 14).
use Rattle.std.specs.Prelude.{◌≡◌, ◌≢◌, ◌⊎◌, ℕ, ℤ, ◌-◌, List, [], ◌∷◌, Bool, true, false}
use Rattle.std.specs.Prelude.{length, drop, if◌then◌else◌, Option, Some, MatchOption}
use Rattle.std.specs.Prelude.{Result, Ok, Err, ◌==◌}
use Rattle.std.specs.List.{list_any}
use Rattle.std.specs.Option.{option_map}
use Rattle.std.specs.declared.net.socket_addr.SocketAddr.{SocketAddr}
use Rattle.byteorder.specs.Endian.{big_number}
use Rattle.stun_base.specs.declared.wire.error.StunWriteError.{StunWriteError}
use Rattle.stun_types.specs.Attribute.{TypedValue, attribute_length, first_attribute}
use Rattle.stun_types.specs.Attribute.{has_attribute}
use Rattle.stun_types.specs.Limits.{LENGTH_LIMIT}
use Rattle.stun_types.specs.Writing.{attribute_refusal, with_attribute}
use Rattle.stun_extra.specs.AttributeTypes.{ICE_CONTROLLED, ICE_CONTROLLING, USE_CANDIDATE}
use Rattle.stun_extra.specs.AttributeTypes.{XOR_PEER_ADDRESS}
use Rattle.stun_ice.specs.Agent.{Agent, Peer, SentCheck, can_nominate, check_page}
use Rattle.stun_ice.specs.Agent.{ending_refusal, sent_page}
use Rattle.stun_handles.specs.Addresses.{socket_address}
use Rattle.stun_handles.specs.declared.address.Address.{Address}
use Rattle.stun_numbers.specs.Refusals.{refusal_of_write, refusal_or}
use Rattle.stun_numbers.specs.declared.refusal.Refusal.{Refusal}
use Rattle.stun_numbers.specs.declared.refusal.Refusal.TheVariants.{BadArgument, CannotSign}
use Rattle.stun_numbers.specs.declared.refusal.Refusal.TheVariants.{NotAllowed, OutOfMemory}
use Rattle.stun_c_endpoint.specs.Checks.{WritesCheck, WritesNone}
use Rattle.stun_c_endpoint.specs.declared.ice.told.IceCheck.{IceCheck}

-- ---- one attribute

-- the types that a caller cannot add: those that the agent itself writes into a check, and
-- XOR-PEER-ADDRESS, whose value is XORed only in a request of a client
abbrev pub KEPT_FROM_CHECKS : List ℕ
KEPT_FROM_CHECKS =
    USE_CANDIDATE ∷ ICE_CONTROLLED ∷ ICE_CONTROLLING ∷ XOR_PEER_ADDRESS ∷ []

abbrev pub is_kept_from_checks : ℕ → Bool
is_kept_from_checks kind = list_any (λ other. other == kind) KEPT_FROM_CHECKS

-- the error for a failed write of a message
abbrev pub refusal_of_page : Option StunWriteError → Option Refusal
refusal_of_page why = option_map (λ error. refusal_of_write true error) why

-- a check with one more attribute, or why it cannot have that
abbrev pub with_further : List ℕ → TypedValue → Result (List ℕ) Refusal
with_further page a =
    if is_kept_from_checks a.kind then Err NotAllowed
    else refusal_or
    (refusal_of_page (attribute_refusal page (LENGTH_LIMIT - length page) a.kind (length a.value)))
    (Ok (with_attribute page a))

-- ---- all attributes

-- the result of adding the attributes of these bytes to a check, in their order: the check with all
-- of them, or the first error
pub data AddsFurther : List ℕ → List ℕ → Result (List ℕ) Refusal → Type 0 where
  has_all : (page : List ℕ) → AddsFurther page [] (Ok page)
  is_broken : (page bytes : List ℕ) → bytes ≢ [] → has_attribute bytes ≡ false
      → AddsFurther page bytes (Err BadArgument)
  is_refused : (page bytes : List ℕ) (refusal : Refusal) → has_attribute bytes ≡ true
      → with_further page (first_attribute bytes) ≡ Err refusal → AddsFurther page bytes (Err refusal)
  has_one_more : (page next bytes : List ℕ) (result : Result (List ℕ) Refusal)
      → has_attribute bytes ≡ true → with_further page (first_attribute bytes) ≡ Ok next
      → AddsFurther next (drop (attribute_length (length (first_attribute bytes).value)) bytes) result
      → AddsFurther page bytes result

-- ---- the whole check

-- the end of a check with all its attributes: it gets its end, or fails to, or one of the
-- attributes could not be added
abbrev pub EndsAs : Agent → Peer → ℕ → SocketAddr → Bool → Result (List ℕ) Refusal
    → Result SentCheck Refusal → Type 0
EndsAs a peer id to nominate (Err refusal) result = result ≡ Err refusal
EndsAs a peer id to nominate (Ok page) (Ok check) = check ≡ sent_page a peer id to nominate page
EndsAs a peer id to nominate (Ok page) (Err refusal) =
    refusal_of_page (ending_refusal peer.password page) ≡ Some refusal

-- the check that an agent writes to a peer: it begins like any other, then has the attributes of
-- the body, and ends like any other
abbrev pub ExtendsTo : Agent → Peer → ℕ → SocketAddr → ℕ → Bool → List ℕ
    → Result SentCheck Refusal → Type 0
ExtendsTo a peer id to priority nominate body result =
    (page : Result (List ℕ) Refusal)
    × AddsFurther (check_page a peer id priority (can_nominate a.role nominate)) body page
    × EndsAs a peer id to nominate page result

-- the check that an agent writes, which must know its peer. An allocation may fail in place of any
-- other error
abbrev pub Extends : Agent → ℕ → SocketAddr → ℕ → Bool → List ℕ → Result SentCheck Refusal
    → Type 0
Extends a id to priority nominate body result =
    MatchOption a.peer (result ≡ Err CannotSign)
    (λ peer. (result ≡ Err OutOfMemory) ⊎ ExtendsTo a peer id to priority nominate body result)

-- the result of a call that writes such a check, and what it writes. A handle without an agent
-- fails first, and then an address that is not one
abbrev pub WritesExtended : Result Agent Refusal → List ℕ → Address → ℕ → Bool → List ℕ → ℤ
    → List ℕ → List ℕ → IceCheck → IceCheck → Type 0
WritesExtended (Err refusal) id to priority nominate body result out out' k k' =
    WritesNone refusal result out out' k k'
WritesExtended (Ok a) id to priority nominate body result out out' k k' =
    MatchOption (socket_address to) (WritesNone BadArgument result out out' k k')
    (λ to. (check : Result SentCheck Refusal)
    × Extends a (big_number 12 id) to priority nominate body check
    × WritesCheck check result out out' k k')

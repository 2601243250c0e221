-- An agent, and the checks that it sends (RFC 8445, sections 5.3, 7.2 and 7.3).
use Rattle.std.specs.Prelude.{ℕ, List, [], Bool, true, false, ◌||◌, ◌&&◌, ◌==◌, not}
use Rattle.std.specs.Prelude.{codes, drop, length, nat_le, take, ◌-◌}
use Rattle.std.specs.Prelude.{if◌then◌else◌, Option, Some, None}
use Rattle.std.specs.List.{list_any}
use Rattle.std.specs.Option.{option_and_then, option_or}
use Rattle.std.specs.Str.{bytes_eq}
use Rattle.std.specs.declared.net.socket_addr.SocketAddr.{SocketAddr}
use Rattle.byteorder.specs.Endian.{big_bytes}
use Rattle.stun_base.specs.Attributes.{USERNAME}
use Rattle.stun_base.specs.Keys.{with_colon}
use Rattle.stun_base.specs.declared.keys.algorithm.IntegrityAlgorithm.TheVariants.{Sha1}
use Rattle.stun_base.specs.declared.wire.message_type.MessageClass.TheVariants.{Request}
use Rattle.stun_types.specs.Attribute.{TypedValue}
use Rattle.stun_base.specs.declared.wire.error.StunWriteError.{StunWriteError}
use Rattle.stun_types.specs.Limits.{LENGTH_LIMIT}
use Rattle.stun_types.specs.Writing.{empty_message, signing_refusal, with_attribute}
use Rattle.stun_types.specs.Writing.{with_integrity}
use Rattle.stun_extra.specs.AttributeTypes.{ICE_CONTROLLED, ICE_CONTROLLING, PRIORITY}
use Rattle.stun_extra.specs.AttributeTypes.{USE_CANDIDATE}
use Rattle.stun_extra.specs.Fingerprint.{fingerprint_refusal, with_fingerprint}
use Rattle.stun_ice.specs.declared.checker.BuildError.{BuildError}
use Rattle.stun_ice.specs.declared.checker.BuildError.TheVariants.{ColonInName, NameLength}
use Rattle.stun_ice.specs.declared.checker.BuildError.TheVariants.{PasswordLength}
use Rattle.stun_ice.specs.declared.role.Role.{Role}
use Rattle.stun_ice.specs.declared.role.Role.TheVariants.{Controlling, Controlled}

-- what an agent knows of its peer
pub record Peer : Type 0 where
  -- USERNAME of the checks that the agent sends: the name of the peer, a colon, and its own name
  pub outgoing : List ℕ
  -- the password of the peer, which signs these checks and the answers to them
  pub password : List ℕ

-- an agent in a session with one peer
pub record Agent : Type 0 where
  -- its own name, which begins USERNAME of the checks that it receives
  pub name : List ℕ
  -- its own password, which signs the checks that it receives and its answers to them
  pub password : List ℕ
  -- the credentials of the peer, once they are known
  pub peer : Option Peer
  pub tie_breaker : ℕ
  pub role : Role

-- the credentials of a peer, as an agent with this name uses them
abbrev pub remote_peer : List ℕ → List ℕ → List ℕ → Peer
remote_peer name peer_name peer_password =
    record { outgoing = with_colon peer_name name; password = peer_password }

-- ---- settings of which no agent can be built

-- whether a length is between two others
abbrev pub is_within : ℕ → ℕ → List ℕ → Bool
is_within least most text = nat_le least (length text) && nat_le (length text) most

-- whether two names have 4 to 256 bytes each (section 5.3)
abbrev pub are_names : List ℕ → List ℕ → Bool
are_names one other = is_within 4 256 one && is_within 4 256 other

-- whether two passwords have 22 to 256 bytes each (section 5.3)
abbrev pub are_passwords : List ℕ → List ℕ → Bool
are_passwords one other = is_within 22 256 one && is_within 22 256 other

abbrev pub has_colon : List ℕ → Bool
has_colon name = list_any (λ byte. byte == 58) name

-- why no agent is built from these names and passwords: the first reason that applies
abbrev pub build_refusal : List ℕ → List ℕ → List ℕ → List ℕ → Option BuildError
build_refusal name peer_name password peer_password =
    if not (are_names name peer_name) then Some NameLength
    else if has_colon name || has_colon peer_name then Some ColonInName
    else if not (are_passwords password peer_password) then Some PasswordLength
    else None

-- why the name and the password of one side are not accepted: the first reason that applies
abbrev pub side_refusal : List ℕ → List ℕ → Option BuildError
side_refusal name password =
    if not (is_within 4 256 name) then Some NameLength
    else if has_colon name then Some ColonInName
    else if not (is_within 22 256 password) then Some PasswordLength
    else None

-- ---- the name of the peer

-- the bytes that follow `front`, if these bytes begin with `front`
abbrev pub after_front : List ℕ → List ℕ → Option (List ℕ)
after_front front bytes =
    if bytes_eq (take (length front) bytes) front then Some (drop (length front) bytes) else None

-- the name of the peer in a USERNAME that an agent with this name receives: the part after the
-- agent's own name and a colon (section 7.3)
abbrev pub peer_name_in : List ℕ → List ℕ → Option (List ℕ)
peer_name_in name username =
    option_and_then (λ rest. after_front (codes ":") rest) (after_front name username)

-- ---- a check

-- the parts of a check that an agent stores: the ID, the destination, the role of the sender,
-- whether the check nominates its pair, and the bytes
pub record SentCheck : Type 0 where
  pub id : ℕ
  pub to : SocketAddr
  pub role : Role
  pub nominates : Bool
  pub bytes : List ℕ

-- USERNAME and PRIORITY
abbrev pub username_attribute : List ℕ → TypedValue
username_attribute name = record { kind = USERNAME; value = name }

abbrev pub priority_attribute : ℕ → TypedValue
priority_attribute priority = record { kind = PRIORITY; value = big_bytes 4 priority }

-- ICE-CONTROLLING or ICE-CONTROLLED, with the tie-breaker
abbrev pub role_attribute : Role → ℕ → TypedValue
role_attribute Controlling tie = record { kind = ICE_CONTROLLING; value = big_bytes 8 tie }
role_attribute Controlled tie = record { kind = ICE_CONTROLLED; value = big_bytes 8 tie }

-- only the agent that controls nominates (section 7.1.2)
abbrev pub can_nominate : Role → Bool → Bool
can_nominate Controlling nominate = nominate
can_nominate Controlled nominate = false

-- USE-CANDIDATE, if the check nominates
abbrev pub with_nomination : Bool → List ℕ → List ℕ
with_nomination true page = with_attribute page (record { kind = USE_CANDIDATE; value = [] })
with_nomination false page = page

-- the attributes of a check before it is signed (section 7.2.4)
abbrev pub check_page : Agent → Peer → ℕ → ℕ → Bool → List ℕ
check_page a peer id priority nominates =
    with_nomination nominates
    (with_attribute (with_attribute (with_attribute (empty_message Request 1 id)
    (username_attribute peer.outgoing)) (priority_attribute priority))
    (role_attribute a.role a.tie_breaker))

-- a check: it is signed with the password of the peer, and ends with FINGERPRINT (sections 7.2.2
-- and 7.2.4)
unfoldable pub check_bytes : Agent → Peer → ℕ → ℕ → Bool → List ℕ
check_bytes a peer id priority nominates =
    with_fingerprint (with_integrity (check_page a peer id priority nominates) Sha1 peer.password)

-- a check with its end: it is signed with a password, and ends with FINGERPRINT
abbrev pub ended_page : List ℕ → List ℕ → List ℕ
ended_page password page = with_fingerprint (with_integrity page Sha1 password)

-- why a check cannot be ended: the first of the integrity attribute and FINGERPRINT that cannot be
-- added
-- its own law: it is the first of two refusals that have their laws, in the order of section 7.1
abbrev pub ending_refusal : List ℕ → List ℕ → Option StunWriteError
ending_refusal password page =
    let signed = with_integrity page Sha1 password in
    option_or (signing_refusal page (LENGTH_LIMIT - length page) Sha1)
    (fingerprint_refusal signed (LENGTH_LIMIT - length signed))

-- the check to a peer that has these attributes before its end
abbrev pub sent_page : Agent → Peer → ℕ → SocketAddr → Bool → List ℕ → SentCheck
sent_page a peer id to nominate page = record {
  id = id;
  to = to;
  role = a.role;
  nominates = can_nominate a.role nominate;
  bytes = ended_page peer.password page;
}

-- the check that an agent writes to a peer
abbrev pub sent_check : Agent → Peer → ℕ → SocketAddr → ℕ → Bool → SentCheck
sent_check a peer id to priority nominate = record {
  id = id;
  to = to;
  role = a.role;
  nominates = can_nominate a.role nominate;
  bytes = check_bytes a peer id priority (can_nominate a.role nominate);
}

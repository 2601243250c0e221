-- What is made, written and told of an ICE agent.
use Rattle.std.proofs.Common.{◌≡◌, ◌∙◌, ◌<◌, ◌≤◌, ◌^◌, ◌+◌, ℕ, ℤ, pos, negsuc, List, [], ◌++◌}
use Rattle.std.proofs.Common.{Bool, true, false, ◌&&◌, if◌then◌else◌, ◌==◌, length, drop, min}
use Rattle.std.proofs.Common.{Option, Some, None, MatchOption, option_map, Ok, Err, ◌↔◌}
use Rattle.std.proofs.Common.{refl, sym, ap, ap₂, subst, inl, inr, arith, ltb-false, ltb-true}
use Rattle.std.proofs.Common.{length-append, length-drop}
use Rattle.std.specs.Prelude.{◌≢◌, ◌⊎◌, Result, nat_lt}
use Rattle.std.specs.Str.{is_utf8}
use Rattle.std.specs.declared.net.socket_addr.SocketAddr.{SocketAddr}
use Rattle.byteorder.specs.Endian.{big_number}
use Rattle.stun_handles.specs.Addresses.{socket_address}
use Rattle.stun_handles.specs.Answers.{at_address}
use Rattle.stun_handles.specs.Numbers.{OrOutOfMemory}
use Rattle.stun_handles.specs.declared.address.Address.{Address}
use Rattle.stun_handles.proofs.AddressLemmas.{address_again}
use Rattle.stun_ice.specs.Agent.{Agent, Peer, SentCheck, build_refusal, sent_check}
use Rattle.stun_ice.specs.Received.{Given, checked, dropped, given, indicated, judgement_of}
use Rattle.stun_ice.specs.Received.{responded, role_left}
use Rattle.stun_ice.specs.Told.{TellsAccepted, TellsValid}
use Rattle.stun_ice.specs.declared.checker.BuildError.{BuildError}
use Rattle.stun_ice.specs.declared.checker.BuildError.TheVariants as at_building
use Rattle.stun_ice.specs.declared.received.DropReason.{DropReason}
use Rattle.stun_ice.specs.declared.received.DropReason.TheVariants as reason
use Rattle.stun_ice.specs.declared.received.Failure.{Failure}
use Rattle.stun_ice.specs.declared.received.Failure.TheVariants as failure
use Rattle.stun_ice.specs.declared.received.Judged.{Judged}
use Rattle.stun_ice.specs.declared.received.Judged.TheVariants as judged
use Rattle.stun_ice.specs.declared.received.Outcome.TheVariants as outcome
use Rattle.stun_ice.specs.declared.role.Role.{Role}
use Rattle.stun_ice.specs.declared.role.Role.TheVariants.{Controlling, Controlled}
use Rattle.stun_numbers.specs.Refusals.{refusal_number}
use Rattle.stun_numbers.specs.declared.refusal.Refusal.{Refusal}
use Rattle.stun_numbers.specs.declared.refusal.Refusal.TheVariants as r
use Rattle.stun_c_endpoint.specs.Agents.{AgentGiven, MakesAgent, MakesOffering, SetsPeer}
use Rattle.stun_c_endpoint.specs.Agents.{SetsTieBreaker, SideGiven, agent_given, agent_refusal}
use Rattle.stun_c_endpoint.specs.Agents.{is_controlling, knowing_agent, offering_agent}
use Rattle.stun_c_endpoint.specs.Agents.{refusal_of_building, role_if, side_given_refusal}
use Rattle.stun_c_endpoint.specs.Checks.{WritesByRoom, WritesCheck, check_asked, check_given}
use Rattle.stun_c_endpoint.specs.Checks.{check_stored, check_to, check_told}
use Rattle.stun_c_endpoint.specs.Extended.{Extends, ExtendsTo, WritesExtended}
use Rattle.stun_c_endpoint.specs.HandleLaws.{IsErrorNumber}
use Rattle.stun_c_endpoint.specs.IceLaws.{HasOwn, IsAnswered, IsSide, IsWritten, Knows}
use Rattle.stun_c_endpoint.specs.IceLaws.{TellsFailure, TellsGiven}
use Rattle.stun_c_endpoint.specs.Judged.{ICE_RECEIVED_SIZE, LeavesSeen, Seen, SeesAs, at_check}
use Rattle.stun_c_endpoint.specs.Judged.{given_number, given_told, ice_drop_number}
use Rattle.stun_c_endpoint.specs.Judged.{ice_failed, missing_room, seen_at, seen_by}
use Rattle.stun_c_endpoint.specs.Kept.{agent_in}
use Rattle.stun_c_endpoint.specs.declared.handle.endpoint.Kept.{Kept}
use Rattle.stun_c_endpoint.specs.declared.handle.endpoint.Kept.TheVariants as kind
use Rattle.stun_c_endpoint.specs.declared.ice.told.IceCheck.{IceCheck}
use Rattle.stun_c_endpoint.specs.declared.ice.told.IceReceived.{IceReceived}
use Rattle.stun_c_endpoint.proofs.IdLemmas.{id_again}
use Rattle.stun_c_endpoint.proofs.HandleLawLemmas.{no_error_is}
use Rattle.stun_c_endpoint.proofs.NumberLemmas.{done, no_refusal, same_number}

-- ---- agents

-- what is made if a call returns 0
made_ok : (why : Option Refusal) (k : Kept) (before now : Option Kept)
    → MatchOption why (OrOutOfMemory (pos 0) before now (pos 0) (Some k))
    (λ refusal. (pos 0 ≡ refusal_number refusal) × (now ≡ before))
    → (why ≡ None) × (now ≡ Some k)
made_ok None k before now call = (refl, done before now (Some k) call)
made_ok (Some why) k before now call = no_refusal 0 why call.0

both : (a b : Bool) → (a && b) ≡ true → (a ≡ true) × (b ≡ true)
both true b is = (refl, is)
both false b is = cc

accepted_if : (b : Bool) (o : Option BuildError)
    → (if b then option_map refusal_of_building o else Some r.NotText) ≡ None
    → (b ≡ true) × (o ≡ None)
accepted_if true None h = (refl, refl)
accepted_if true (Some error) h = cc
accepted_if false o h = cc

agent_accepted : (g : AgentGiven) → agent_refusal g ≡ None
    → build_refusal g.name g.peer_name g.password g.peer_password ≡ None
unfolding agent_refusal
agent_accepted g h = (accepted_if _ _ h).1

side_accepted : (s : SideGiven) → side_given_refusal s ≡ None → IsSide s.name s.password
unfolding side_given_refusal
side_accepted s h =
    let one = accepted_if _ _ h in
    let texts = both (is_utf8 s.name) (is_utf8 s.password) one.0 in
    record { name_text = texts.0; password_text = texts.1; accepted = one.1 }

controls_again : (controls : Bool) → is_controlling (role_if controls) ≡ controls
controls_again true = refl
controls_again false = refl

role_again : (role : Role) → role_if (is_controlling role) ≡ role
role_again Controlling = refl
role_again Controlled = refl

pub agent_made : (g : AgentGiven) (now : Option Kept) → MakesAgent g (pos 0) now
    → (a : Agent) × (now ≡ Some (kind.Checker a))
    × (build_refusal g.name g.peer_name g.password g.peer_password ≡ None)
    × HasOwn a g.name g.password g.tie_breaker g.controls × Knows a g.peer_name g.peer_password
agent_made g now call =
    let one = made_ok (agent_refusal g) (kind.Checker (agent_given g)) None now call in (
      agent_given g,
      one.1,
      agent_accepted g one.0,
      record {
        name_is = refl;
        password_is = refl;
        tie_breaker_is = refl;
        role_is = controls_again g.controls;
      },
      record { known = _; is_known = refl; names = refl; signs = refl },
    )

pub offering_made : (s : SideGiven) (tie : ℕ) (controls : Bool) (now : Option Kept)
    → MakesOffering s tie controls (pos 0) now
    → (a : Agent) × (now ≡ Some (kind.Checker a)) × IsSide s.name s.password
    × HasOwn a s.name s.password tie controls × (a.peer ≡ None)
offering_made s tie controls now call =
    let one =
    made_ok (side_given_refusal s) (kind.Checker (offering_agent s tie controls)) None now call in (
      offering_agent s tie controls,
      one.1,
      side_accepted s one.0,
      record {
        name_is = refl;
        password_is = refl;
        tie_breaker_is = refl;
        role_is = controls_again controls;
      },
      refl,
    )

pub peer_set : (a : Agent) (s : SideGiven) (before now : Option Kept)
    → SetsPeer (Ok a) s (pos 0) before now
    → (b : Agent) × (now ≡ Some (kind.Checker b)) × IsSide s.name s.password
    × HasOwn b a.name a.password a.tie_breaker (is_controlling a.role) × Knows b s.name s.password
peer_set a s before now call =
    let one = made_ok (side_given_refusal s) (kind.Checker (knowing_agent a s)) before now call in (
      knowing_agent a s,
      one.1,
      side_accepted s one.0,
      record { name_is = refl; password_is = refl; tie_breaker_is = refl; role_is = refl },
      record { known = _; is_known = refl; names = refl; signs = refl },
    )

pub tie_set : (a : Agent) (tie : ℕ) (result : ℤ) (before now : Option Kept)
    → SetsTieBreaker (Ok a) tie result before now
    → (b : Agent) × (result ≡ pos 0) × (now ≡ Some (kind.Checker b))
    × HasOwn b a.name a.password tie (is_controlling a.role) × (b.peer ≡ a.peer)
tie_set a tie result before now call = (
  record a { tie_breaker = tie },
  call.0,
  call.1,
  record { name_is = refl; password_is = refl; tie_breaker_is = refl; role_is = refl },
  refl,
)

pub two_steps : (g : AgentGiven) (offered now once : Option Kept)
    → MakesOffering (record { name = g.name; password = g.password }) g.tie_breaker g.controls
    (pos 0) offered
    → SetsPeer (agent_in offered) (record { name = g.peer_name; password = g.peer_password })
    (pos 0) offered now
    → MakesAgent g (pos 0) once → now ≡ once
two_steps g offered now once offers sets makes =
    let own : SideGiven = record { name = g.name; password = g.password } in
    let peer : SideGiven = record { name = g.peer_name; password = g.peer_password } in
    let first = offering_agent own g.tie_breaker g.controls in
    let one = made_ok (side_given_refusal own) (kind.Checker first) None offered offers in
    let two = made_ok (side_given_refusal peer) (kind.Checker (knowing_agent first peer)) offered
    now (subst (λ o. SetsPeer (agent_in o) peer (pos 0) offered now) one.1 sets) in
    let three = made_ok (agent_refusal g) (kind.Checker (agent_given g)) None once makes in
    two.1 ∙ sym three.1

pub memory_alone : (error : BuildError) → refusal_of_building error ≡ r.OutOfMemory
    → error ≡ at_building.OutOfMemory
memory_alone at_building.NameLength h = cc
memory_alone at_building.ColonInName h = cc
memory_alone at_building.PasswordLength h = cc
memory_alone at_building.OutOfMemory h = refl

-- ---- buffers

pub as_long : (bytes out : List ℕ) → length bytes ≤ length out
    → length (bytes ++ drop (length bytes) out) ≡ length out
as_long bytes out room =
    length-append bytes (drop (length bytes) out)
    ∙ ap (λ n. length bytes + n) (length-drop (length bytes) out)
    ∙ omega (arith, room)

whole : (n : ℕ) → n < 2 ^ 63 → min n 9223372036854775807 ≡ n
whole n short = grind (arith, short)

-- ---- checks

written_by : (b : Bool) (c : SentCheck) (n : ℕ) (out after : List ℕ) (k told : IceCheck)
    → nat_lt (length out) (length c.bytes) ≡ b → length out < 2 ^ 63
    → WritesByRoom b c (pos n) out after k told → IsWritten c n out after told
written_by true c n out after k told room short call = no_refusal n r.BufferTooSmall call.0
written_by false c n out after k told room short call =
    let fits : length c.bytes ≤ length out = ltb-false (length out) (length c.bytes) room in
    let count : n ≡ length c.bytes =
    same_number n _ call.0 ∙ whole (length c.bytes) (omega (arith, fits, short)) in record {
      count = count;
      room = omega (arith, count, fits);
      rest = drop (length c.bytes) out;
      front = call.1;
      size = ap length call.1 ∙ as_long c.bytes out fits;
      described = call.2;
    }

pub is_written : (c : SentCheck) (n : ℕ) (out after : List ℕ) (k told : IceCheck)
    → length out < 2 ^ 63 → WritesCheck (Ok c) (pos n) out after k told
    → IsWritten c n out after told
is_written c n out after k told short (inl call) = written_by _ c n out after k told refl short call
is_written c n out after k told short (inr failed) = no_refusal n r.OutOfMemory failed.0

module _ (a : Agent) (id priority n : ℕ) (nominate : Bool) (out after : List ℕ) (k told : IceCheck)
    (short : length out < 2 ^ 63) where
  by_peer : (to : SocketAddr) (p : Option Peer)
      → WritesCheck (check_to a id to priority nominate p) (pos n) out after k told
      → (peer : Peer) × (p ≡ Some peer)
      × IsWritten (sent_check a peer id to priority nominate) n out after told
  by_peer to None call = no_refusal n r.CannotSign call.0
  by_peer to (Some peer) call =
      (peer, refl, is_written (sent_check a peer id to priority nominate) n out after k told short call)

  pub written_at : (o : Option SocketAddr)
      → WritesCheck (at_address o (λ to. check_to a id to priority nominate a.peer)) (pos n) out
      after k told
      → (address : SocketAddr) × (peer : Peer) × (o ≡ Some address) × (a.peer ≡ Some peer)
      × IsWritten (sent_check a peer id address priority nominate) n out after told
  written_at None call = no_refusal n r.BadArgument call.0
  written_at (Some address) call =
      let one = by_peer address a.peer call in (address, one.0, refl, one.1, one.2)

  extends_by : (to : SocketAddr) (body : List ℕ) (p : Option Peer) (c : SentCheck)
      → MatchOption p (Ok c ≡ Err r.CannotSign)
      (λ peer. (Ok c ≡ Err r.OutOfMemory)
      ⊎ ExtendsTo a peer id to priority nominate body (Ok c))
      → (peer : Peer) × (p ≡ Some peer) × ExtendsTo a peer id to priority nominate body (Ok c)
  extends_by to body None c is = cc
  extends_by to body (Some peer) c (inl is) = cc
  extends_by to body (Some peer) c (inr extends) = (peer, refl, extends)

  extended_by : (to : SocketAddr) (body : List ℕ) (check : Result SentCheck Refusal)
      → Extends a id to priority nominate body check
      → WritesCheck check (pos n) out after k told
      → (peer : Peer) × (c : SentCheck) × (a.peer ≡ Some peer)
      × ExtendsTo a peer id to priority nominate body (Ok c) × IsWritten c n out after told
  extended_by to body (Ok c) extends call =
      let one = extends_by to body a.peer c extends in
      (one.0, c, one.1, one.2, is_written c n out after k told short call)
  extended_by to body (Err why) extends call = no_refusal n why call.0

  pub extended_at : (body : List ℕ) (o : Option SocketAddr)
      → MatchOption o ((pos n ≡ refusal_number r.BadArgument) × (after ≡ out) × (told ≡ k))
      (λ to. (check : Result SentCheck Refusal) × Extends a id to priority nominate body check
      × WritesCheck check (pos n) out after k told)
      → (address : SocketAddr) × (peer : Peer) × (c : SentCheck) × (o ≡ Some address)
      × (a.peer ≡ Some peer) × ExtendsTo a peer id address priority nominate body (Ok c)
      × IsWritten c n out after told
  extended_at body None call = no_refusal n r.BadArgument call.0
  extended_at body (Some to) call =
      let one = extended_by to body call.0 call.1 call.2 in
      (to, one.0, one.1, refl, one.2, one.3, one.4)

pub unknown : (a : Agent) (id : List ℕ) (to : Address) (priority : ℕ) (nominate : Bool) (result : ℤ)
    (out after : List ℕ) (k told : IceCheck) (address : SocketAddr) → a.peer ≡ None
    → socket_address to ≡ Some address
    → WritesCheck (check_asked (Ok a) id to priority nominate) result out after k told
    → result ≡ refusal_number r.CannotSign
unknown a id to priority nominate result out after k told address none is call =
    let at = subst (λ o. WritesCheck (at_address o
    (λ x. check_to a (big_number 12 id) x priority nominate a.peer)) result out after k told) is call in
    let by = subst (λ p. WritesCheck (check_to a (big_number 12 id) address priority nominate p) result
    out after k told) none at in
    by.0

unwritten_by : (b : Bool) (c : SentCheck) (result : ℤ) (out after : List ℕ) (k told : IceCheck)
    → WritesByRoom b c result out after k told → IsErrorNumber result → (after ≡ out) × (told ≡ k)
unwritten_by true c result out after k told call e = (call.1, call.2)
unwritten_by false c result out after k told call e =
    no_error_is result (min (length c.bytes) 9223372036854775807) call.0 e

pub unwritten : (check : Result SentCheck Refusal) (result : ℤ) (out after : List ℕ)
    (k told : IceCheck) → WritesCheck check result out after k told → IsErrorNumber result
    → (after ≡ out) × (told ≡ k)
unwritten (Ok c) result out after k told (inl call) e =
    unwritten_by _ c result out after k told call e
unwritten (Ok c) result out after k told (inr failed) e = (failed.1, failed.2)
unwritten (Err why) result out after k told call e = (call.1, call.2)

unwritten_at : (a : Agent) (id priority : ℕ) (nominate : Bool) (body : List ℕ) (result : ℤ)
    (out after : List ℕ) (k told : IceCheck) (o : Option SocketAddr)
    → MatchOption o ((result ≡ refusal_number r.BadArgument) × (after ≡ out) × (told ≡ k))
    (λ to. (check : Result SentCheck Refusal) × Extends a id to priority nominate body check
    × WritesCheck check result out after k told)
    → IsErrorNumber result → (after ≡ out) × (told ≡ k)
unwritten_at a id priority nominate body result out after k told None call e = (call.1, call.2)
unwritten_at a id priority nominate body result out after k told (Some to) call e =
    unwritten call.0 result out after k told call.2 e

pub unwritten_body : (a : Result Agent Refusal) (id : List ℕ) (to : Address) (priority : ℕ)
    (nominate : Bool) (body : List ℕ) (result : ℤ) (out after : List ℕ) (k told : IceCheck)
    → WritesExtended a id to priority nominate body result out after k told → IsErrorNumber result
    → (after ≡ out) × (told ≡ k)
unwritten_body (Ok a) id to priority nominate body result out after k told call e =
    unwritten_at a (big_number 12 id) priority nominate body result out after k told
    (socket_address to) call e
unwritten_body (Err why) id to priority nominate body result out after k told call e =
    (call.1, call.2)

-- ---- checks that are passed again

pub check_again : (check : SentCheck) (to : Address) → length to.octets ≡ 16
    → socket_address to ≡ Some check.to → check.id < 256 ^ 12
    → check_given true (check_told check) ≡ Some (Some (record check { bytes = [] }))
check_again check to size is small =
    ap (option_map (λ a. Some (check_stored (check_told check) a)))
    (address_again to check.to size is)
    ∙ ap₂ (λ id role. Some (Some (record {
      id = id;
      to = check.to;
      role = role;
      nominates = check.nominates;
      bytes = [];
    }))) (id_again check.id small) (role_again check.role)

-- ---- datagrams

module _ (a : Agent) (bytes : List ℕ) (n : ℕ) (out after : List ℕ) (r₀ told : IceReceived)
    (before now : Option Kept) where
  opened : (b : Bool) (o : Option SocketAddr) (c : Option (Option SentCheck))
      → SeesAs (if b then at_address o (λ from. at_check c (λ check. seen_by a check from bytes))
      else Err r.BadArgument) (pos n) out after r₀ told before now
      → (address : SocketAddr) × (check : Option SentCheck) × (o ≡ Some address)
      × (c ≡ Some check)
      × LeavesSeen (missing_room (length out) (given a address (judgement_of a check address bytes)))
      (seen_by a check address bytes) (pos n) out after r₀ told before now
  opened false o c call = no_refusal n r.BadArgument call.0
  opened true None c call = no_refusal n r.BadArgument call.0
  opened true (Some from) None call = no_refusal n r.BadArgument call.0
  opened true (Some from) (Some check) (inl call) = (from, check, refl, refl, call)
  opened true (Some from) (Some check) (inr failed) = no_refusal n r.OutOfMemory failed.0

answered_by : (answer out after : List ℕ) (told : IceReceived)
    → nat_lt (length out) (length answer) ≡ false → told.length ≡ length answer
    → after ≡ answer ++ drop (length answer) out → IsAnswered answer out after told
answered_by answer out after told room count front =
    let fits : length answer ≤ length out = ltb-false (length out) (length answer) room in record {
      count = count;
      room = fits;
      rest = drop (length answer) out;
      front = front;
      size = ap length front ∙ as_long answer out fits;
    }

module _ (a : Agent) (n : ℕ) (out after : List ℕ) (r₀ told : IceReceived)
    (before now : Option Kept) where
  abbrev Left : Option ℕ → Given → Type 0
  Left missing g = LeavesSeen missing (record { agent = a; given = g }) (pos n) out after r₀ told
      before now

  abbrev Tells : Given → Type 0
  Tells g = TellsGiven g n out after told × (now ≡ Some (kind.Checker a))

  checked_by : (b : Bool) (bytes answer : List ℕ) (j : Judged)
      → nat_lt (length out) (length answer) ≡ b
      → Left (if b then Some (length answer) else None) (checked bytes answer j)
      → Tells (checked bytes answer j)
  checked_by true bytes answer j room call = no_refusal n r.BufferTooSmall call.0
  checked_by false bytes answer (judged.Accepted priority nominated switched) room call = (
    (
      same_number n 1 call.0,
      answered_by answer out after told room (ap (λ (x : IceReceived). x.length) call.2) call.1,
      ap (λ (x : IceReceived). x.outcome) call.2,
      ap (λ (x : IceReceived). x.priority) call.2,
      ap (λ (x : IceReceived). x.nominated) call.2,
      ap (λ (x : IceReceived). x.switched) call.2,
    ),
    call.4,
  )
  checked_by false bytes answer judged.RoleConflict room call = (
    (
      same_number n 1 call.0,
      answered_by answer out after told room (ap (λ (x : IceReceived). x.length) call.2) call.1,
      ap (λ (x : IceReceived). x.outcome) call.2,
      ap (λ (x : IceReceived). x.code) call.2,
    ),
    call.4,
  )
  checked_by false bytes answer (judged.Refused why) room call = (
    (
      same_number n 1 call.0,
      answered_by answer out after told room (ap (λ (x : IceReceived). x.length) call.2) call.1,
      ap (λ (x : IceReceived). x.outcome) call.2,
      ap (λ (x : IceReceived). x.code) call.2,
    ),
    call.4,
  )

  failed_tells : (f : Failure) → told ≡ given_told (responded (outcome.Failed f)) told.mapped r₀
      → TellsFailure f told
  failed_tells (failure.Error code) is =
      (ap (λ (x : IceReceived). x.outcome) is, ap (λ (x : IceReceived). x.code) is)
  failed_tells failure.OtherPath is = ap (λ (x : IceReceived). x.outcome) is
  failed_tells (failure.NotUnderstood kind) is =
      (ap (λ (x : IceReceived). x.outcome) is, ap (λ (x : IceReceived). x.not_understood) is)
  failed_tells failure.Malformed is = ap (λ (x : IceReceived). x.outcome) is

  pub tells : (g : Given) → Left (missing_room (length out) g) g → Tells g
  tells (checked bytes answer j) call = checked_by _ bytes answer j refl call
  tells (responded (outcome.Valid mapped)) call = (
    (
      same_number n 4 call.0,
      call.1,
      ap (λ (x : IceReceived). x.outcome) call.2,
      call.3,
    ),
    call.4,
  )
  tells (responded (outcome.RoleConflict switched)) call = (
    (
      same_number n 4 call.0,
      call.1,
      ap (λ (x : IceReceived). x.outcome) call.2,
      ap (λ (x : IceReceived). x.switched) call.2,
    ),
    call.4,
  )
  tells (responded (outcome.Failed f)) call =
      ((same_number n 4 call.0, call.1, failed_tells f call.2), call.4)
  tells (indicated bytes) call = ((same_number n 3 call.0, call.1), call.4)
  tells (dropped why) call =
      ((same_number n 0 call.0, call.1, ap (λ (x : IceReceived). x.why) call.2), call.4)

pub seen_told : (a : Agent) (has : Bool) (k : IceCheck) (from : Address) (bytes : List ℕ) (n : ℕ)
    (out after : List ℕ) (r₀ told : IceReceived) (before now : Option Kept)
    → SeesAs (seen_at (Ok a) has k from bytes r₀) (pos n) out after r₀ told before now
    → (address : SocketAddr) × (check : Option SentCheck)
    × (socket_address from ≡ Some address) × (check_given has k ≡ Some check)
    × TellsGiven (given a address (judgement_of a check address bytes)) n out after told
    × (now ≡ Some (kind.Checker
    (record a { role = role_left a.role (judgement_of a check address bytes) })))
seen_told a has k from bytes n out after r₀ told before now call =
    let one = opened a bytes n out after r₀ told before now (r₀.size == ICE_RECEIVED_SIZE)
    (socket_address from) (check_given has k) call in
    let two = tells (seen_by a one.1 one.0 bytes).agent n out after r₀ told before now
    (given a one.0 (judgement_of a one.1 one.0 bytes)) one.4 in
    (one.0, one.1, one.2, one.3, two.0, two.1)

module _ (n : ℕ) (out after : List ℕ) (told : IceReceived) where
  not_accepted : (m k : ℕ) → told.outcome ≡ m → m ≢ k → told.outcome ≡ k → ⊥
  not_accepted m k is other same = other (sym is ∙ same)

  pub accepted_iff : (g : Given) → TellsGiven g n out after told
      → TellsAccepted g ↔ ((n ≡ 1) × (told.outcome ≡ 1))
  accepted_iff (checked bytes answer (judged.Accepted priority nominated switched)) t =
      (λ _. (t.0, t.2), λ _. tt)
  accepted_iff (checked bytes answer judged.RoleConflict) t =
      (λ x. absurd x, λ x. omega (arith, x.1, t.2))
  accepted_iff (checked bytes answer (judged.Refused why)) t =
      (λ x. absurd x, λ x. omega (arith, x.1, t.2))
  accepted_iff (responded (outcome.Valid mapped)) t =
      (λ x. absurd x, λ x. omega (arith, x.0, t.0))
  accepted_iff (responded (outcome.RoleConflict switched)) t =
      (λ x. absurd x, λ x. omega (arith, x.0, t.0))
  accepted_iff (responded (outcome.Failed f)) t = (λ x. absurd x, λ x. omega (arith, x.0, t.0))
  accepted_iff (indicated bytes) t = (λ x. absurd x, λ x. omega (arith, x.0, t.0))
  accepted_iff (dropped why) t = (λ x. absurd x, λ x. omega (arith, x.0, t.0))

  failure_apart : (f : Failure) → TellsFailure f told → told.outcome ≡ 4 → ⊥
  failure_apart (failure.Error code) t is = omega (arith, t.0, is)
  failure_apart failure.OtherPath t is = omega (arith, t, is)
  failure_apart (failure.NotUnderstood kind) t is = omega (arith, t.0, is)
  failure_apart failure.Malformed t is = omega (arith, t, is)

  pub valid_iff : (g : Given) → TellsGiven g n out after told
      → TellsValid g ↔ ((n ≡ 4) × (told.outcome ≡ 4))
  valid_iff (checked bytes answer (judged.Accepted priority nominated switched)) t =
      (λ x. absurd x, λ x. omega (arith, x.0, t.0))
  valid_iff (checked bytes answer judged.RoleConflict) t =
      (λ x. absurd x, λ x. omega (arith, x.0, t.0))
  valid_iff (checked bytes answer (judged.Refused why)) t =
      (λ x. absurd x, λ x. omega (arith, x.0, t.0))
  valid_iff (responded (outcome.Valid mapped)) t = (λ _. (t.0, t.2), λ _. tt)
  valid_iff (responded (outcome.RoleConflict switched)) t =
      (λ x. absurd x, λ x. omega (arith, x.1, t.2))
  valid_iff (responded (outcome.Failed f)) t =
      (λ x. absurd x, λ x. failure_apart f t.2 x.1)
  valid_iff (indicated bytes) t = (λ x. absurd x, λ x. omega (arith, x.0, t.0))
  valid_iff (dropped why) t = (λ x. absurd x, λ x. omega (arith, x.0, t.0))

pub seen_accepted : (a : Agent) (has : Bool) (k : IceCheck) (from : Address) (bytes : List ℕ) (n : ℕ)
    (out after : List ℕ) (r₀ told : IceReceived) (before now : Option Kept)
    → SeesAs (seen_at (Ok a) has k from bytes r₀) (pos n) out after r₀ told before now
    → (address : SocketAddr) × (check : Option SentCheck)
    × (socket_address from ≡ Some address) × (check_given has k ≡ Some check)
    × (TellsAccepted (given a address (judgement_of a check address bytes))
    ↔ ((n ≡ 1) × (told.outcome ≡ 1)))
seen_accepted a has k from bytes n out after r₀ told before now call =
    let one = seen_told a has k from bytes n out after r₀ told before now call in
    (one.0, one.1, one.2, one.3, accepted_iff n out after told _ one.4)

pub seen_valid : (a : Agent) (has : Bool) (k : IceCheck) (from : Address) (bytes : List ℕ) (n : ℕ)
    (out after : List ℕ) (r₀ told : IceReceived) (before now : Option Kept)
    → SeesAs (seen_at (Ok a) has k from bytes r₀) (pos n) out after r₀ told before now
    → (address : SocketAddr) × (check : Option SentCheck)
    × (socket_address from ≡ Some address) × (check_given has k ≡ Some check)
    × (TellsValid (given a address (judgement_of a check address bytes))
    ↔ ((n ≡ 4) × (told.outcome ≡ 4)))
seen_valid a has k from bytes n out after r₀ told before now call =
    let one = seen_told a has k from bytes n out after r₀ told before now call in
    (one.0, one.1, one.2, one.3, valid_iff n out after told _ one.4)

-- ---- what is not written

unanswered_by : (a : Agent) (g : Given) (missing : Option ℕ) (result : ℤ) (out after : List ℕ)
    (r₀ told : IceReceived) (before now : Option Kept)
    → LeavesSeen missing (record { agent = a; given = g }) result out after r₀ told before now
    → result ≢ pos 1 → after ≡ out
unanswered_by a g (Some needed) result out after r₀ told before now call other = call.1
unanswered_by a (checked bytes answer j) None result out after r₀ told before now call other =
    absurd (other call.0)
unanswered_by a (responded o) None result out after r₀ told before now call other = call.1
unanswered_by a (indicated bytes) None result out after r₀ told before now call other = call.1
unanswered_by a (dropped why) None result out after r₀ told before now call other = call.1

pub unanswered : (seen : Result Seen Refusal) (result : ℤ) (out after : List ℕ)
    (r₀ told : IceReceived) (before now : Option Kept)
    → SeesAs seen result out after r₀ told before now → result ≢ pos 1 → after ≡ out
unanswered (Ok s) result out after r₀ told before now (inl call) other =
    unanswered_by s.agent s.given _ result out after r₀ told before now call other
unanswered (Ok s) result out after r₀ told before now (inr failed) other = failed.1
unanswered (Err why) result out after r₀ told before now call other = call.1

-- how far a number is below 0
abbrev depth : ℤ → ℕ
depth (pos n) = 0
depth (negsuc n) = n

module _ (a : Agent) (out after : List ℕ) (r₀ told : IceReceived) (before now : Option Kept) where
  abbrev Needs : Type 0
  Needs = (length out < told.needed) × (after ≡ out) × (now ≡ before)

  abbrev LeftTooSmall : Option ℕ → Given → Type 0
  LeftTooSmall missing g =
      LeavesSeen missing (record { agent = a; given = g }) (refusal_number r.BufferTooSmall) out
      after r₀ told before now

  needed_by : (b : Bool) (bytes answer : List ℕ) (j : Judged)
      → nat_lt (length out) (length answer) ≡ b
      → LeftTooSmall (if b then Some (length answer) else None) (checked bytes answer j) → Needs
  needed_by true bytes answer j room call =
      let more : length out < length answer = ltb-true (length out) (length answer) room in
      let needs : told.needed ≡ length answer = ap (λ (x : IceReceived). x.needed) call.2 in
      (omega (arith, more, needs), call.1, call.3)
  needed_by false bytes answer j room call = no_refusal 1 r.BufferTooSmall (sym call.0)

  pub needed : (g : Given) → LeftTooSmall (missing_room (length out) g) g → Needs
  needed (checked bytes answer j) call = needed_by _ bytes answer j refl call
  needed (responded o) call = no_refusal 4 r.BufferTooSmall (sym call.0)
  needed (indicated bytes) call = no_refusal 3 r.BufferTooSmall (sym call.0)
  needed (dropped why) call = no_refusal 0 r.BufferTooSmall (sym call.0)

pub seen_needed : (s : Seen) (out after : List ℕ) (r₀ told : IceReceived) (before now : Option Kept)
    → SeesAs (Ok s) (refusal_number r.BufferTooSmall) out after r₀ told before now
    → (length out < told.needed) × (after ≡ out) × (now ≡ before)
seen_needed s out after r₀ told before now (inl call) =
    needed s.agent out after r₀ told before now s.given call
seen_needed s out after r₀ told before now (inr failed) =
    let e : 9 ≡ 16 = ap depth failed.0 in absurd (omega (arith, e))

-- ---- kinds

kind_told : (g : Given) (mapped : Address) (r₀ : IceReceived)
    → (given_told g mapped r₀).kind ≡ given_number g
kind_told (checked bytes answer (judged.Accepted priority nominated switched)) mapped r₀ = refl
kind_told (checked bytes answer judged.RoleConflict) mapped r₀ = refl
kind_told (checked bytes answer (judged.Refused why)) mapped r₀ = refl
kind_told (responded (outcome.Valid m)) mapped r₀ = refl
kind_told (responded (outcome.RoleConflict switched)) mapped r₀ = refl
kind_told (responded (outcome.Failed (failure.Error code))) mapped r₀ = refl
kind_told (responded (outcome.Failed failure.OtherPath)) mapped r₀ = refl
kind_told (responded (outcome.Failed (failure.NotUnderstood kind))) mapped r₀ = refl
kind_told (responded (outcome.Failed failure.Malformed)) mapped r₀ = refl
kind_told (indicated bytes) mapped r₀ = refl
kind_told (dropped why) mapped r₀ = refl

kind_left : (missing : Option ℕ) (s : Seen) (n : ℕ) (out after : List ℕ) (r₀ told : IceReceived)
    (before now : Option Kept) → LeavesSeen missing s (pos n) out after r₀ told before now
    → told.kind ≡ n
kind_left None s n out after r₀ told before now call =
    ap (λ (x : IceReceived). x.kind) call.2 ∙ kind_told s.given told.mapped r₀
    ∙ sym (same_number n (given_number s.given) call.0)
kind_left (Some needed) s n out after r₀ told before now call =
    no_refusal n r.BufferTooSmall call.0

pub kind_is : (seen : Result Seen Refusal) (n : ℕ) (out after : List ℕ) (r₀ told : IceReceived)
    (before now : Option Kept) → SeesAs seen (pos n) out after r₀ told before now → told.kind ≡ n
kind_is (Ok s) n out after r₀ told before now (inl call) =
    kind_left _ s n out after r₀ told before now call
kind_is (Ok s) n out after r₀ told before now (inr failed) = no_refusal n r.OutOfMemory failed.0
kind_is (Err why) n out after r₀ told before now call = no_refusal n why call.0

abbrev TellsFailed : IceReceived → IceReceived → Type 0
TellsFailed r₀ told = (told.kind ≡ 7) × (told.length ≡ 0) × (told.size ≡ r₀.size)

failed_as : (r₀ told : IceReceived) → told ≡ ice_failed r₀ → TellsFailed r₀ told
failed_as r₀ told is = (
  ap (λ (x : IceReceived). x.kind) is,
  ap (λ (x : IceReceived). x.length) is,
  ap (λ (x : IceReceived). x.size) is,
)

failed_left : (missing : Option ℕ) (s : Seen) (result : ℤ) (out after : List ℕ)
    (r₀ told : IceReceived) (before now : Option Kept)
    → LeavesSeen missing s result out after (ice_failed r₀) told before now
    → IsErrorNumber result → TellsFailed r₀ told
failed_left None s result out after r₀ told before now call e =
    no_error_is result (given_number s.given) call.0 e
failed_left (Some needed) s result out after r₀ told before now call e = (
  ap (λ (x : IceReceived). x.kind) call.2,
  ap (λ (x : IceReceived). x.length) call.2,
  ap (λ (x : IceReceived). x.size) call.2,
)

pub failed_is : (seen : Result Seen Refusal) (result : ℤ) (out after : List ℕ)
    (r₀ told : IceReceived) (before now : Option Kept)
    → SeesAs seen result out after (ice_failed r₀) told before now → IsErrorNumber result
    → (told.kind ≡ 7) × (told.length ≡ 0) × (told.size ≡ r₀.size)
failed_is (Ok s) result out after r₀ told before now (inl call) e =
    failed_left _ s result out after r₀ told before now call e
failed_is (Ok s) result out after r₀ told before now (inr failed) e = failed_as r₀ told failed.2
failed_is (Err why) result out after r₀ told before now call e = failed_as r₀ told call.2

-- ---- reasons

abbrev reason_numbered : ℕ → Option DropReason
reason_numbered n =
    if n == 1 then Some reason.NotStun
    else if n == 2 then Some reason.Malformed
    else if n == 3 then Some reason.WrongFingerprint
    else if n == 4 then Some reason.UnknownAttribute
    else if n == 5 then Some reason.OtherMethod
    else if n == 6 then Some reason.NotAsked
    else if n == 7 then Some reason.WrongSignature else None

reason_again : (why : DropReason) → reason_numbered (ice_drop_number why) ≡ Some why
reason_again reason.NotStun = refl
reason_again reason.Malformed = refl
reason_again reason.WrongFingerprint = refl
reason_again reason.UnknownAttribute = refl
reason_again reason.OtherMethod = refl
reason_again reason.NotAsked = refl
reason_again reason.WrongSignature = refl

same_reason : (one other : DropReason) → Some one ≡ Some other → one ≡ other
same_reason one other is = cc

pub reasons_apart : (one other : DropReason) → ice_drop_number one ≡ ice_drop_number other
    → one ≡ other
reasons_apart one other is =
    same_reason one other
    (sym (reason_again one) ∙ ap reason_numbered is ∙ reason_again other)

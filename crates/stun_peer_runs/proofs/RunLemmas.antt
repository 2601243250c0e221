-- What the agents read of each other's datagrams is what was said, so a run of datagrams is a run
-- of what is said.
use Rattle.std.proofs.Common.{◌≡◌, ◌⊎◌, inl, inr, ◌<◌, ◌^◌, ℕ, zero, suc, List, [], ◌∷◌}
use Rattle.std.proofs.Common.{Bool, true, false, Option, Some, None, refl, sym, ◌∙◌, ap, map, subst}
use Rattle.std.proofs.Common.{arith}
use Rattle.std.specs.Prelude.{◌==◌, ◌&&◌}
use Rattle.std.specs.List.{AllByRecursion}
use Rattle.std.specs.Option.{is_none, option_map}
use Rattle.std.specs.Str.{bytes_eq}
use Rattle.std.specs.Net.Socket.{IsSocketAddr, socket_ip, socket_port}
use Rattle.std.specs.declared.net.socket_addr.SocketAddr.{SocketAddr}
use Rattle.std.proofs.lemmas.Bool.Decides.{nat_tests}
use Rattle.std.proofs.lemmas.Slice.Eq.{bytes_eq-Decides}
use Rattle.stun_base.specs.declared.keys.algorithm.IntegrityAlgorithm.TheVariants.{Sha1}
use Rattle.stun_extra.specs.CanonicalAddress.{address_octets, is_same_address}
use Rattle.stun_ice.specs.Agent.{Agent, Peer, SentCheck, check_bytes}
use Rattle.stun_ice.specs.Answers.{conflict_answer, success_answer}
use Rattle.stun_ice.specs.Conflicts.{AreSettled, Event, Happening, Said, Side, Sides, Told, at}
use Rattle.stun_ice.specs.Conflicts.{after_check, after_event, after_told, answered, beginning}
use Rattle.stun_ice.specs.Conflicts.{rival_of, swapped}
use Rattle.stun_ice.specs.Conflicts as said
use Rattle.stun_ice.specs.Received.{Given, checked, dropped, given, indicated, judgement_of}
use Rattle.stun_ice.specs.Received.{responded, role_after_outcome, role_left}
use Rattle.stun_ice.specs.Responses.{IsValid}
use Rattle.stun_ice.specs.Roles.{is_same_role, opposite, role_after_check}
use Rattle.stun_ice.specs.declared.received.Mapped.{Mapped}
use Rattle.stun_ice.specs.declared.received.Outcome.TheVariants.{Failed, RoleConflict, Valid}
use Rattle.stun_ice.specs.declared.role.Role.{Role}
use Rattle.stun_peers.specs.Peers.{IsAgent, IsNumbered, Knows, given_by, mapped_of, role_by}
use Rattle.stun_peers.specs.Peers.{said_by, written_check}
use Rattle.stun_peer_runs.specs.Datagrams.{AreSettledParties, AreUnsettled, Correspond}
use Rattle.stun_peer_runs.specs.Datagrams.{Correspondent, Delivery, IsUsual}
use Rattle.stun_peer_runs.specs.Datagrams.{IsUsualDelivery, Parties, Party, Posted, Posting}
use Rattle.stun_peer_runs.specs.Datagrams.{Replied, after_arrival, after_datagram, after_given}
use Rattle.stun_peer_runs.specs.Datagrams.{after_postings, after_reply, agent_as}
use Rattle.stun_peer_runs.specs.Datagrams.{answer_sent, arrives, both_after, bytes_posted}
use Rattle.stun_peer_runs.specs.Datagrams.{bytes_replied, hears, of_left, of_right, party_of, sends}
use Rattle.stun_peer_runs.specs.Datagrams.{turned_parties}

-- what the laws of the crates below say of checks and their answers
pub record PeerLaws : Type 0 where
  pub judged : (a b : Agent) (peer : Peer) (c : Option SentCheck) (from : SocketAddr)
      (id priority : ℕ) (nominates : Bool) → IsAgent a peer → IsNumbered id priority
      → Knows a b peer
      → given b from (judgement_of b c from (check_bytes a peer id priority nominates))
      ≡ given_by b from (check_bytes a peer id priority nominates) priority nominates
      (role_after_check b.role b.tie_breaker (rival_of b.role (said_by a)))
  pub role : (a b : Agent) (peer : Peer) (c : Option SentCheck) (from : SocketAddr)
      (id priority : ℕ) (nominates : Bool) → IsAgent a peer → IsNumbered id priority
      → Knows a b peer
      → role_left b.role (judgement_of b c from (check_bytes a peer id priority nominates))
      ≡ role_by b.role (role_after_check b.role b.tie_breaker (rival_of b.role (said_by a)))
  pub valid : (a b now : Agent) (sent peer : Peer) (id priority : ℕ) (nominates : Bool)
      (to from source : SocketAddr) → IsAgent a sent → IsNumbered id priority → Knows now b peer
      → IsSocketAddr from → is_same_address source to ≡ true
      → IsValid now (written_check a sent id to priority nominates) source
      (success_answer b from (check_bytes a sent id priority nominates) Sha1) (mapped_of from id)
  pub conflict : (a b now : Agent) (sent peer : Peer) (id priority : ℕ) (nominates : Bool)
      (to source : SocketAddr) → IsAgent a sent → IsNumbered id priority → Knows now b peer
      → is_same_address source to ≡ true
      → let j = judgement_of now (Some (written_check a sent id to priority nominates)) source
      (conflict_answer b (check_bytes a sent id priority nominates) Sha1) in
      (given now source j ≡ responded (RoleConflict (is_same_role now.role a.role)))
      × (role_left now.role j
      ≡ role_after_outcome now.role (RoleConflict (is_same_role now.role a.role)))
  pub heard : (a : Agent) (check : SentCheck) (from : SocketAddr) (bytes : List ℕ)
      (mapped : Mapped) → IsValid a check from bytes mapped
      → given a from (judgement_of a (Some check) from bytes) ≡ responded (Valid mapped)

-- ---- what is said of a run

abbrev pub told_of : Replied → Told
told_of r = record {
  role = r.check.said.role;
  conflict = is_none (role_after_check r.by.role r.by.tie_breaker
      (rival_of r.by.role r.check.said));
}

abbrev pub said_of : Posted → Said
said_of p = p.said

abbrev pub side_of : Party → Side
side_of party = record {
  role = party.now.role;
  tie_breaker = party.now.tie_breaker;
  checks = map said_of party.posted;
  answers = map told_of party.replied;
  heard = party.heard;
}

abbrev pub sides_of : Parties → Sides
sides_of s = record { left = side_of s.left; right = side_of s.right }

abbrev pub event_of : Delivery → Event
event_of (sends id to priority nominates) = said.sends
event_of (arrives n from) = said.arrives n
event_of (hears n fresh) = said.hears n fresh

abbrev pub happening_of : Posting → Happening
happening_of (of_left datagram) = said.of_left (event_of datagram)
happening_of (of_right datagram) = said.of_right (event_of datagram)

-- ---- what holds in a run

pub record IsPosted (p : Posted) : Type 0 where
  tie : p.said.tie_breaker < 2 ^ 64
  numbered : IsNumbered p.id p.priority

pub record IsReplied (r : Replied) : Type 0 where
  check : IsPosted r.check
  from : IsSocketAddr r.from

pub record IsParty (party : Party) : Type 0 where
  tie : party.now.tie_breaker < 2 ^ 64
  posted : AllByRecursion IsPosted party.posted
  replied : AllByRecursion IsReplied party.replied

abbrev OfSome : {A : Type 0} → (A → Type 0) → Option A → Type 0
OfSome P None = Unit {0}
OfSome P (Some x) = P x

of_at : {A : Type 0} (P : A → Type 0) (xs : List A) (n : ℕ) → AllByRecursion P xs
    → OfSome P (at n xs)
of_at P [] n all = tt
of_at P (x ∷ xs) zero all = all.0
of_at P (x ∷ xs) (suc n) all = of_at P xs n all.1

at_map : {A B : Type 0} (f : A → B) (xs : List A) (n : ℕ)
    → at n (map f xs) ≡ option_map f (at n xs)
at_map f [] n = refl
at_map f (x ∷ xs) zero = refl
at_map f (x ∷ xs) (suc n) = at_map f xs n

same_number : (n : ℕ) → (n == n) ≡ true
same_number n = grind (arith, nat_tests)

same_as_itself : (to : SocketAddr) → is_same_address to to ≡ true
same_as_itself to =
    let octets = address_octets (socket_ip to) in
    (λ i. same_number (socket_port to) i && bytes_eq octets octets)
    ∙ (bytes_eq-Decides octets octets).1 refl

module _ (laws : PeerLaws) (a b : Correspondent) (agent : IsAgent a.agent a.peer)
    (knows : Knows a.agent b.agent a.peer) where
  as_agent : (by : Said) → by.tie_breaker < 2 ^ 64 → IsAgent (agent_as a.agent by) a.peer
  as_agent by tie = record { name = agent.name; tie_breaker = tie }

  as_known : (one other : Said) → Knows (agent_as a.agent one) (agent_as b.agent other) a.peer
  as_known one other =
      record { known = knows.known; name = knows.name; password = knows.password }

  -- a check arrives
  abbrev sides_with : Parties → Posted → Bool → Role → Sides
  sides_with s p conflict role = record {
    left = record (side_of s.left) {
      answers = record { role = p.said.role; conflict = conflict } ∷ map told_of s.left.replied;
    };
    right = record (side_of s.right) { role = role };
  }

  by_role : (s : Parties) (p : Posted) (left : Option Role)
      → sides_with s p (is_none left) (role_by s.right.now.role left)
      ≡ answered (sides_of s) p.said left
  by_role s p None = refl
  by_role s p (Some role) = refl

  arrived : (s : Parties) (from : SocketAddr) (o : Option Posted) → OfSome IsPosted o
      → sides_of (after_arrival a b s from o)
      ≡ after_check (sides_of s) (option_map said_of o)
  arrived s from None is = refl
  arrived s from (Some p) is =
      let left = role_after_check s.right.now.role s.right.now.tie_breaker
      (rival_of s.right.now.role p.said) in
      ap (sides_with s p (is_none left))
      (laws.role (agent_as a.agent p.said) (agent_as b.agent s.right.now) a.peer None from p.id
      p.priority p.nominates (as_agent p.said is.tie) is.numbered (as_known p.said s.right.now))
      ∙ by_role s p left

  -- an answer arrives
  module _ (party : Party) (fresh : ℕ) (r : Replied) (is : IsReplied r) where
    abbrev p : Posted
    p = r.check

    abbrev check : SentCheck
    check = written_check (agent_as a.agent p.said) a.peer p.id p.to p.priority p.nominates

    abbrev hearer : Agent
    hearer = agent_as a.agent party.now

    abbrev answerer : Agent
    answerer = agent_as b.agent r.by

    abbrev of_given : List ℕ → Party
    of_given bytes =
        after_given party fresh (given hearer p.to (judgement_of hearer (Some check) p.to bytes))

    by_left : (left : Option Role)
        → side_of (of_given (answer_sent (given_by answerer r.from (bytes_posted a p) p.priority
        p.nominates left)))
        ≡ after_told (side_of party) fresh
        (Some (record { role = p.said.role; conflict = is_none left }))
    by_left None =
        ap (λ g. side_of (after_given party fresh g))
        (laws.conflict (agent_as a.agent p.said) answerer hearer a.peer a.peer p.id p.priority
        p.nominates p.to p.to (as_agent p.said is.check.tie) is.check.numbered
        (as_known party.now r.by)
        (same_as_itself p.to)).0
    by_left (Some role) =
        ap (λ g. side_of (after_given party fresh g))
        (laws.heard hearer check p.to (success_answer answerer r.from (bytes_posted a p) Sha1)
        (mapped_of r.from p.id)
        (laws.valid (agent_as a.agent p.said) answerer hearer a.peer a.peer p.id p.priority
        p.nominates p.to r.from p.to (as_agent p.said is.check.tie) is.check.numbered
        (as_known party.now r.by) is.from
        (same_as_itself p.to)))

    pub replied_to : side_of (after_reply a b party fresh (Some r))
        ≡ after_told (side_of party) fresh (Some (told_of r))
    replied_to =
        ap (λ g. side_of (of_given (answer_sent g)))
        (laws.judged (agent_as a.agent p.said) answerer a.peer None r.from p.id p.priority
        p.nominates (as_agent p.said is.check.tie) is.check.numbered (as_known p.said r.by))
        ∙ by_left (role_after_check r.by.role r.by.tie_breaker (rival_of r.by.role p.said))

  heard_as : (party : Party) (fresh : ℕ) (o : Option Replied) → OfSome IsReplied o
      → side_of (after_reply a b party fresh o)
      ≡ after_told (side_of party) fresh (option_map told_of o)
  heard_as party fresh None is = refl
  heard_as party fresh (Some r) is = replied_to party fresh r is

  pub step : (s : Parties) (d : Delivery) → IsParty s.left
      → sides_of (after_datagram a b s d) ≡ after_event (sides_of s) (event_of d)
  step s (sends id to priority nominates) is = refl
  step s (arrives n from) is =
      arrived s from (at n s.left.posted) (of_at IsPosted s.left.posted n is.posted)
      ∙ ap (after_check (sides_of s)) (sym (at_map said_of s.left.posted n))
  step s (hears n fresh) is =
      ap (λ side. record (sides_of s) { left = side })
      (heard_as s.left fresh (at n s.left.replied) (of_at IsReplied s.left.replied n is.replied)
      ∙ ap (after_told (side_of s.left) fresh) (sym (at_map told_of s.left.replied n)))

  -- ---- what holds goes on to hold

  given_kept : (party : Party) (fresh : ℕ) (g : Given) → IsParty party → fresh < 2 ^ 64
      → IsParty (after_given party fresh g)
  given_kept party fresh (responded (RoleConflict switched)) is fits =
      record { tie = fits; posted = is.posted; replied = is.replied }
  given_kept party fresh (responded (Valid mapped)) is fits =
      record { tie = is.tie; posted = is.posted; replied = is.replied }
  given_kept party fresh (responded (Failed failure)) is fits = is
  given_kept party fresh (checked bytes answer judged) is fits = is
  given_kept party fresh (indicated bytes) is fits = is
  given_kept party fresh (dropped why) is fits = is

  pub kept : (s : Parties) (d : Delivery) → IsUsualDelivery d → IsParty s.left → IsParty s.right
      → IsParty (after_datagram a b s d).left × IsParty (after_datagram a b s d).right
  kept s (sends id to priority nominates) usual left right = (
    record {
      tie = left.tie;
      posted = (record { tie = left.tie; numbered = usual }, left.posted);
      replied = left.replied;
    },
    right,
  )
  kept s (arrives n from) usual left right =
      by (at n s.left.posted) (of_at IsPosted s.left.posted n left.posted)
    where
      by : (o : Option Posted) → OfSome IsPosted o
          → IsParty (after_arrival a b s from o).left × IsParty (after_arrival a b s from o).right
      by None is = (left, right)
      by (Some p) is = (
        record {
          tie = left.tie;
          posted = left.posted;
          replied = (record { check = is; from = usual }, left.replied);
        },
        record { tie = right.tie; posted = right.posted; replied = right.replied },
      )
  kept s (hears n fresh) usual left right = (by (at n s.left.replied), right)
    where
      by : (o : Option Replied) → IsParty (after_reply a b s.left fresh o)
      by None = left
      by (Some r) =
          let p = r.check in
          let hearer = agent_as a.agent s.left.now in
          given_kept s.left fresh
          (given hearer p.to (judgement_of hearer
          (Some (written_check (agent_as a.agent p.said) a.peer p.id p.to p.priority
          p.nominates)) p.to
          (bytes_replied a b r))) left usual

-- ---- a run

pub run : PeerLaws → (a b : Correspondent) → IsAgent a.agent a.peer → IsAgent b.agent b.peer
    → Correspond a b → (s : Parties) → IsParty s.left → IsParty s.right → (postings : List Posting)
    → AllByRecursion IsUsual postings
    → sides_of (after_postings a b s postings)
    ≡ said.after_all (sides_of s) (map happening_of postings)
run laws a b left_agent right_agent peers s left right [] usual = refl
run laws a b left_agent right_agent peers s left right (of_left d ∷ postings) usual =
    let both = kept laws a b left_agent peers.there s d usual.0 left right in
    run laws a b left_agent right_agent peers (after_datagram a b s d) both.0 both.1 postings usual.1
    ∙ ap (λ sides. said.after_all sides (map happening_of postings))
    (step laws a b left_agent peers.there s d left)
run laws a b left_agent right_agent peers s left right (of_right d ∷ postings) usual =
    let both = kept laws b a right_agent peers.back (turned_parties s) d usual.0 right left in
    run laws a b left_agent right_agent peers
    (turned_parties (after_datagram b a (turned_parties s) d)) both.1 both.0 postings usual.1
    ∙ ap (λ sides. said.after_all (swapped sides) (map happening_of postings))
    (step laws b a right_agent peers.back (turned_parties s) d right)

begun : (a : Correspondent) → IsAgent a.agent a.peer → IsParty (party_of a.agent)
begun a agent = record { tie = agent.tie_breaker; posted = tt; replied = tt }

-- ---- what they come to

module _ (laws : PeerLaws) (a b : Correspondent) (postings : List Posting)
    (left : IsAgent a.agent a.peer) (right : IsAgent b.agent b.peer) (peers : Correspond a b)
    (usual : AllByRecursion IsUsual postings) where
  abbrev sides_after : Role → Sides
  sides_after role =
      said.after_all
      (record { left = beginning a.agent.role a.agent.tie_breaker; right = beginning role b.agent.tie_breaker })
      (map happening_of postings)

  whole : sides_of (both_after a b postings) ≡ sides_after b.agent.role
  whole =
      run laws a b left right peers (record { left = party_of a.agent; right = party_of b.agent }) (begun a left)
      (begun b right) postings usual

  as_role : (role : Role) → b.agent.role ≡ role → sides_after role ≡ sides_of (both_after a b postings)
  as_role role is = sym (whole ∙ ap sides_after is)

  abbrev Ends : Sides → Type 0
  Ends both = ((both.left.role ≡ a.agent.role) × (both.right.role ≡ a.agent.role) × (both.left.heard ≡ false)
      × (both.right.heard ≡ false)) ⊎ AreSettled a.agent.tie_breaker b.agent.tie_breaker both

  ended : Ends (sides_of (both_after a b postings))
      → AreUnsettled a.agent.role (both_after a b postings)
      ⊎ AreSettledParties a.agent.tie_breaker b.agent.tie_breaker (both_after a b postings)
  ended (inl same) = inl (record {
    left = same.0;
    right = same.1;
    left_deaf = same.2;
    right_deaf = same.3;
  })
  ended (inr settled) = inr (record { left = settled.left; right = settled.right })

  pub roles_end : b.agent.role ≡ a.agent.role → Ends (sides_after a.agent.role)
      → AreUnsettled a.agent.role (both_after a b postings)
      ⊎ AreSettledParties a.agent.tie_breaker b.agent.tie_breaker (both_after a b postings)
  roles_end same ends = ended (subst Ends (as_role a.agent.role same) ends)

  abbrev Stays : Sides → Type 0
  Stays both = (both.left.role ≡ a.agent.role) × (both.right.role ≡ opposite a.agent.role)

  pub roles_stay : b.agent.role ≡ opposite a.agent.role → Stays (sides_after (opposite a.agent.role))
      → ((both_after a b postings).left.now.role ≡ a.agent.role)
      × ((both_after a b postings).right.now.role ≡ opposite a.agent.role)
  roles_stay other stays = subst Stays (as_role (opposite a.agent.role) other) stays

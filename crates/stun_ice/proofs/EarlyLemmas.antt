-- What an agent makes of a check does not depend on what it knows of its peer.
use Rattle.std.proofs.Common.{◌≡◌, ℕ, List, refl, ◌∙◌, sym, ap, Option}
use Rattle.std.specs.declared.net.socket_addr.SocketAddr.{SocketAddr}
use Rattle.stun_base.specs.MessageType.{method_of}
use Rattle.stun_base.specs.Header.{type_field}
use Rattle.std.proofs.lemmas.Bool.{eqb-true}
use Rattle.stun_base.specs.declared.wire.message_type.MessageClass.TheVariants.{Request}
use Rattle.stun_ice.specs.Agent.{Agent, Peer, SentCheck}
use Rattle.stun_ice.specs.Checks.{verdict_of}
use Rattle.stun_ice.specs.Received.{checked, given, judgement_of, role_left}
use Rattle.stun_ice.specs.declared.checker.receiving.Judgement.{Judgement}
use Rattle.stun_ice.specs.declared.checker.receiving.Judgement.TheVariants.{Check, Response}
use Rattle.stun_ice.specs.declared.checker.receiving.Judgement.TheVariants.{Indication as Keepalive}
use Rattle.stun_ice.specs.declared.checker.receiving.Judgement.TheVariants.{Dropped}
use Rattle.stun_ice.specs.declared.checker.judging.Verdict.{Verdict}
use Rattle.stun_ice.specs.declared.received.Judged.{Judged}
use Rattle.stun_ice.proofs.AcceptingLemmas.{IsChecked, checked-of, reaches-class}

module _ (a : Agent) (c : Option SentCheck) (from : SocketAddr) (bytes : List ℕ) where
  -- what is answered is a check
  judged-check : (j : Judgement) (message answer : List ℕ) (judged : Judged)
      → judgement_of a c from bytes ≡ j → given a from j ≡ checked message answer judged
      → (v : Verdict) × IsChecked a bytes bytes v
  judged-check (Check b v) message answer judged is h =
      let of = checked-of a c from bytes b v is in (
        v,
        record {
          message = of.message;
          fingerprint = of.fingerprint;
          class = of.class;
          method = of.method;
          bytes_are = refl;
          verdict = of.verdict;
        },
      )
  judged-check (Response outcome) message answer judged is h = cc
  judged-check (Keepalive b) message answer judged is h = cc
  judged-check (Dropped reason) message answer judged is h = cc

  -- a message that is a check is one to every agent
  check-judged : (b : Agent) (d : Option SentCheck) (v : Verdict) → IsChecked a bytes bytes v
      → judgement_of b d from bytes ≡ Check bytes (verdict_of b bytes)
  check-judged b d v of =
      reaches-class b d from bytes Request of.message of.fingerprint of.class
      (eqb-true (method_of (type_field bytes)) 1 of.method)

  pub needs-no-peer : (peer : Option Peer) (d : Option SentCheck) (message answer : List ℕ)
      (judged : Judged) → given a from (judgement_of a c from bytes) ≡ checked message answer judged
      → let b = record a { peer = peer } in
      (given b from (judgement_of b d from bytes) ≡ checked message answer judged)
      × (role_left b.role (judgement_of b d from bytes)
      ≡ role_left a.role (judgement_of a c from bytes))
  needs-no-peer peer d message answer judged h =
      let b : Agent = record a { peer = peer } in
      let of = judged-check (judgement_of a c from bytes) message answer judged refl h in
      let here = check-judged a c of.0 of.1 in
      let there = check-judged b d of.0 of.1 in
      let answers : given b from (judgement_of b d from bytes)
      ≡ given a from (judgement_of a c from bytes) =
      ap (given b from) there ∙ sym (ap (given a from) here) in
      let roles : role_left b.role (judgement_of b d from bytes)
      ≡ role_left a.role (judgement_of a c from bytes) =
      ap (role_left b.role) there ∙ sym (ap (role_left a.role) here) in
      (answers ∙ h, roles)

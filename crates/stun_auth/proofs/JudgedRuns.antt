-- Judging under a nonce is a run of the calls that keep records, at an address that has none.
use Rattle.std.proofs.Common.{◌≡◌, ℕ, List, [], ◌∷◌, Option, Some, None}
use Rattle.std.proofs.Common.{Bool, true, false, refl, sym, ◌∙◌, ap, Ok, Err}
use Rattle.std.specs.Prelude.{cond, not, nat_le, ◌||◌}
use Rattle.std.specs.Cmp.{eq_by_cmp_equiv}
use Rattle.std.specs.Ordering.{eq_by_cmp}
use Rattle.std.specs.FinMap as fin
use Rattle.std.specs.declared.net.socket_addr.SocketAddr.{SocketAddr}
use Rattle.std.specs.declared.result.Result.{Result}
use Rattle.stun_base.proofs.Addresses.{address_total, address_exact}
use Rattle.stun_base.specs.Address.{address_cmp}
use Rattle.stun_base.specs.MessageType.{is_response}
use Rattle.stun_base.specs.Moments.{moment_after}
use Rattle.stun_base.specs.declared.keys.algorithm.IntegrityAlgorithm.{IntegrityAlgorithm}
use Rattle.stun_base.specs.declared.keys.algorithm.IntegrityAlgorithm.TheVariants.{Sha1}
use Rattle.stun_judging.specs.declared.algorithm_set.AlgorithmSet.{AlgorithmSet}
use Rattle.stun_judging.specs.declared.feature.Feature.{Feature}
use Rattle.stun_judging.specs.declared.refusal.VerdictRefusal.{VerdictRefusal}
use Rattle.stun_judging.specs.Algorithms.{algorithms_of}
use Rattle.stun_auth.specs.Forgetting.{without_place}
use Rattle.stun_auth.specs.Judged.{offered_after, verdict_by_nonce}
use Rattle.stun_judging.specs.Nonces.{asks_for_algorithms, nonce_of}
use Rattle.stun_auth.specs.Places.{PlacesSeen, at_place, with_offer}
use Rattle.stun_judging.specs.Reading.{Reading, is_malformed}
use Rattle.stun_judging.specs.Registered.{Registered}
use Rattle.stun_judging.specs.Verdict.{ClientSeen, IsAccepted, agreement, choice, verdict}
use Rattle.stun_auth.specs.Seen.{PlaceSeen, renewed_place}
use Rattle.stun_auth.specs.Server.{current_place_of}
use Rattle.stun_auth.specs.Validation.{ServerSeen, after_validation, answer, answer_to, needs_nonce}
use Rattle.stun_auth.specs.Validation.{place_after, put_place, sight, verdict_at, with_accepted}
use Rattle.stun_judging.proofs.Accepting.{accepted_from_verdict, verdict_from_accepted}
use Rattle.stun_auth.proofs.JudgedLemmas.{answer-at}
use Rattle.stun_auth.proofs.Unchanged.{equal_or}

-- ---- what is kept of one address

put_over : (b : Bool) (p : PlaceSeen) (o : Option PlaceSeen)
    → cond b None (cond b (Some p) o) ≡ cond b None o
put_over true p o = refl
put_over false p o = refl

-- a place that was put there is gone
remove-insert : (places : PlacesSeen) (a : SocketAddr) (p : PlaceSeen)
    → fin.remove (fin.insert places a p) a ≡ fin.remove places a
remove-insert places a p = fin.same_map address_total address_exact _ _ (λ q.
    fin.get-remove address_total (fin.insert places a p) a q
    ∙ ap (cond (eq_by_cmp address_cmp q a) None) (fin.get-insert address_total places a p q)
    ∙ put_over (eq_by_cmp address_cmp q a) p (fin.get places q)
    ∙ sym (fin.get-remove address_total places a q))

remove-absent : (places : PlacesSeen) (a : SocketAddr) → fin.get places a ≡ None
    → fin.remove places a ≡ places
remove-absent places a none = fin.same_map address_total address_exact _ _ (λ q.
    fin.get-remove address_total places a q
    ∙ equal_or (address_cmp q a) None (fin.get places q)
    (λ tied. sym none ∙ fin.get_tied address_total places q a tied))

remove-put_place : (places : PlacesSeen) (a : SocketAddr) (o : Option PlaceSeen)
    → fin.remove (put_place places a o) a ≡ fin.remove places a
remove-put_place places a None = refl
remove-put_place places a (Some p) = remove-insert places a p

remove-at_place : (places : PlacesSeen) (a : SocketAddr) (change : PlaceSeen → PlaceSeen)
    (o : Option PlaceSeen)
    → fin.remove (at_place o places a change) a ≡ fin.remove places a
remove-at_place places a change None = refl
remove-at_place places a change (Some p) = remove-insert places a (change p)

get-put : (places : PlacesSeen) (a : SocketAddr) (p : PlaceSeen)
    → fin.get (fin.insert places a p) a ≡ Some p
get-put places a p =
    fin.get-insert address_total places a p a
    ∙ ap (λ b. cond b (Some p) (fin.get places a)) ((eq_by_cmp_equiv address_total).refl a)

get-changed : (places : PlacesSeen) (a : SocketAddr) (change : PlaceSeen → PlaceSeen)
    (p : PlaceSeen)
    → fin.get places a ≡ Some p
    → fin.get (at_place (fin.get places a) places a change) a ≡ Some (change p)
get-changed places a change p is =
    ap (λ o. fin.get (at_place o places a change) a) is ∙ get-put places a (change p)

-- ---- what is agreed on without an offer is agreed on under each

choice-offered : (list : Option (List IntegrityAlgorithm)) (a : Option IntegrityAlgorithm)
    (offered : List IntegrityAlgorithm) (c : IntegrityAlgorithm)
    → choice list a [] ≡ Some c → choice list a offered ≡ Some c
choice-offered None None offered c h = h
choice-offered None (Some a) offered c h = cc
choice-offered (Some list) None offered c h = cc
choice-offered (Some []) (Some a) offered c h = cc
choice-offered (Some (x ∷ xs)) (Some a) offered c h = cc

agreement-offered : (r : Reading) (nonce : List ℕ) (set : AlgorithmSet) (c : IntegrityAlgorithm)
    → agreement r nonce None ≡ Some c → agreement r nonce (Some set) ≡ Some c
agreement-offered r nonce set c = by (asks_for_algorithms nonce)
  where
    by : (b : Bool) → cond b (choice r.algorithms r.algorithm []) (Some Sha1) ≡ Some c
        → cond b (choice r.algorithms r.algorithm (algorithms_of set)) (Some Sha1) ≡ Some c
    by true h = choice-offered r.algorithms r.algorithm (algorithms_of set) c h
    by false h = h

-- who is accepted before an offer is accepted after it
verdict-offered : (users : Registered) (feature : Feature) (ours : List ℕ) (set : AlgorithmSet)
    (r : Reading) (client : ClientSeen)
    → verdict users feature ours None r ≡ Ok client
    → verdict users feature ours (Some set) r ≡ Ok client
verdict-offered users feature ours set r client h =
    let one = accepted_from_verdict users feature ours None r client h in
    let two : IsAccepted users feature ours (Some set) r client =
    record {
      secret = one.secret;
      key = one.key;
      realm = one.realm;
      nonce = one.nonce;
      algorithm = agreement-offered r ours set client.algorithm one.algorithm;
      named = one.named;
      present = one.present;
      supported = one.supported;
      key_is = one.key_is;
      digest = one.digest;
    } in
    verdict_from_accepted users feature ours (Some set) r client two

-- ---- the run

needs-plain : (b m : Bool) → not (b || m) ≡ true → b ≡ false
needs-plain true m h = cc
needs-plain false m h = refl

module _ (s : ServerSeen) (from : SocketAddr) (now later : ℕ) (words others : List ℕ) (r : Reading)
    (none : fin.get s.places from ≡ None) where
  -- nothing is left of the address
  pub run-forgotten
      : without_place (after_validation (offered_after s from now words r) from later others r) from
      ≡ s
  run-forgotten =
      let first = after_validation s from now words r in
      let second = offered_after s from now words r in
      ap (λ (places : PlacesSeen). record s { places = places })
      (remove-put_place second.places from (place_after (sight second from) later others r)
      ∙ remove-at_place first.places from (with_offer s.registered.algorithms)
      (fin.get first.places from)
      ∙ remove-put_place s.places from (place_after (sight s from) now words r)
      ∙ remove-absent s.places from none)

  module _ (needs : needs_nonce r ≡ true)
      (stands : nat_le later (moment_after now s.expiry) ≡ true) where
    abbrev ours : List ℕ
    ours = nonce_of s.registered.algorithms s.feature words

    abbrev fresh : PlaceSeen
    fresh = renewed_place None ours (moment_after now s.expiry)

    abbrev first : Result ClientSeen VerdictRefusal
    first = verdict s.registered s.feature ours None r

    -- the place after the first message
    put : place_after (sight s from) now words r ≡ Some (with_accepted fresh first)
    put =
        let end = moment_after now s.expiry in
        ap (λ b.
        cond b
        (Some (with_accepted (current_place_of (fin.get s.places from) ours now end)
        (verdict_at (sight s from) (current_place_of (fin.get s.places from) ours now end) r)))
        (fin.get s.places from)) needs
        ∙ ap (λ o. Some (with_accepted (current_place_of o ours now end)
        (verdict_at (sight s from) (current_place_of o ours now end) r))) none

    -- the place once an answer is signed
    offered : fin.get (offered_after s from now words r).places from
        ≡ Some (with_offer s.registered.algorithms (with_accepted fresh first))
    offered =
        get-changed (after_validation s from now words r).places from
        (with_offer s.registered.algorithms) (with_accepted fresh first)
        (ap (λ o. fin.get (put_place s.places from o) from) put
        ∙ get-put s.places from (with_accepted fresh first))

    plain : is_response r.class ≡ false
    plain = needs-plain (is_response r.class) (is_malformed r) needs

    by : (v : Result ClientSeen VerdictRefusal) → first ≡ v
        → fin.get (offered_after s from now words r).places from
        ≡ Some (with_offer s.registered.algorithms (with_accepted fresh v))
        → answer (sight (offered_after s from now words r) from) later others r
        ≡ answer_to (verdict_by_nonce s ours r)
    by (Err refusal) is there =
        answer-at (offered_after s from now words r) from later others
        (with_offer s.registered.algorithms fresh) there stands r plain
    by (Ok client) is there =
        answer-at (offered_after s from now words r) from later others
        (with_accepted fresh (Ok client)) there stands r plain
        ∙ ap answer_to
        (is ∙ sym (verdict-offered s.registered s.feature ours s.registered.algorithms r client is))

    pub run-answer : answer (sight (offered_after s from now words r) from) later others r
        ≡ answer_to (verdict_by_nonce s ours r)
    run-answer = by first refl offered

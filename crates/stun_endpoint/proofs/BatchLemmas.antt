-- Results of a batch, while its answers grow.
use Rattle.std.proofs.Common.{◌≡◌, ◌∙◌, ◌≤◌, ◌<◌, ◌+◌, ◌-◌, ℕ, List, [], ◌∷◌, ◌++◌, length, map}
use Rattle.std.proofs.Common.{ap, arith, sym, subst, refl, drop, take, get_or, zero, suc}
use Rattle.std.proofs.lemmas.Option.{slice_get-map}
use Rattle.std.proofs.lemmas.Grind.{take_at_read}
use Rattle.std.proofs.lemmas.List.{drop-append-le, length-drop, map-append, take-append-le}
use Rattle.std.specs.Option.{option_map}
use Rattle.std.specs.Prelude.{None, Option, Some, slice_get, slice_range}
use Rattle.stun_endpoint.specs.Batches.{Datagram, FollowOneAnother, TakesRoom, outcome_at}
use Rattle.stun_endpoint.specs.Batches.{and_found, outcomes_at, picked, received_all, received_one}
use Rattle.stun_endpoint.specs.Buffered.{outcome_in}
use Rattle.stun_judging.specs.Registered.{Registered}
use Rattle.stun_endpoint.specs.Received.{Outcome}
use Rattle.stun_endpoint.specs.Settings.{Settings}
use Rattle.stun_endpoint.specs.declared.batch.ReceivedAt.{ReceivedAt}
use Rattle.stun_endpoint.specs.declared.buffered.ReceivedInto.{ReceivedInto}
use Rattle.stun_endpoint.specs.declared.buffered.ReceivedInto.TheVariants as code

-- ---- the answers

-- what lies within the answers stays there
part_stays : (answers more : List ℕ) (start end : ℕ) → start ≤ end → end ≤ length answers
    → slice_range (answers ++ more) start end ≡ slice_range answers start end
part_stays answers more start end order within =
    let size = length-drop start answers in
    ap (take (end - start)) (drop-append-le start answers more (omega arith))
    ∙ take-append-le (end - start) (drop start answers) more (omega arith)

room_order : {R I : Type 0} (received : ReceivedInto R I) (start end : ℕ)
    → TakesRoom received start end → start ≤ end
room_order (code.Answer answer) start end room = room
room_order (code.Request request) start end room = omega arith
room_order (code.Indication message) start end room = omega arith
room_order (code.Response message) start end room = omega arith
room_order (code.Dropped reason) start end room = omega arith

-- ---- several

ends_within : {A : Type 0} (from to : ℕ) (results : List (ReceivedAt A))
    → FollowOneAnother from results to → from ≤ to
ends_within from to [] follow = omega arith
ends_within from to (result ∷ later) follow =
    let begins : result.start ≡ from = follow.0 in
    let order : result.start ≤ result.end =
    room_order result.received result.start result.end follow.1 in
    let rest : result.end ≤ to = ends_within result.end to later follow.2 in omega arith

-- results are told of the same bytes after more was appended
outcomes_stay : {A : Type 0} (from : ℕ) (results : List (ReceivedAt A))
    (answers more : List ℕ) → FollowOneAnother from results (length answers)
    → outcomes_at (answers ++ more) results ≡ outcomes_at answers results
outcomes_stay from [] answers more follow = refl
outcomes_stay from (result ∷ later) answers more follow =
    ap (λ part. outcome_in result.received part ∷ outcomes_at (answers ++ more) later)
    (part_stays answers more result.start result.end
    (room_order result.received result.start result.end follow.1)
    (ends_within result.end (length answers) later follow.2))
    ∙ ap (λ outcomes. outcome_at answers result ∷ outcomes)
    (outcomes_stay result.end later answers more follow.2)

-- one more result follows
pub follow_more : {A : Type 0} (from to : ℕ) (results : List (ReceivedAt A)) (one : ReceivedAt A)
    → FollowOneAnother from results to → one.start ≡ to
    → TakesRoom one.received one.start one.end
    → FollowOneAnother from (results ++ one ∷ []) one.end
follow_more from to [] one follow begins room = (begins ∙ sym follow, room, refl)
follow_more from to (result ∷ later) one follow begins room = (
  follow.0,
  follow.1,
  follow_more result.end to later one follow.2 begins room,
)

-- one more datagram is received
taken_more : (datagrams : List Datagram) (i : ℕ) (d : Datagram) → i < length datagrams
    → d ≡ get_or datagrams i d → take (i + 1) datagrams ≡ take i datagrams ++ d ∷ []
taken_more datagrams i d within is =
    (take_at_read datagrams i d within).1 ∙ ap (λ x. take i datagrams ++ x ∷ []) (sym is)

pub batch_more : {A : Type 0} (s : Settings) (users : Option Registered) (now : ℕ) (datagrams : List Datagram)
    (i : ℕ) (d : Datagram) (answers new : List ℕ) (results more : List (ReceivedAt A))
    (one : ReceivedAt A) → i < length datagrams → d ≡ get_or datagrams i d
    → FollowOneAnother 0 results (length answers)
    → outcomes_at answers results ≡ received_all s users now (take i datagrams)
    → new ≡ answers ++ slice_range new one.start one.end
    → outcome_at new one ≡ received_one s users now d → more ≡ results ++ one ∷ []
    → outcomes_at new more ≡ received_all s users now (take (i + 1) datagrams)
batch_more s users now datagrams i d answers new results more one within is follow so_far grown
    received more_is =
    let part = slice_range new one.start one.end in
    let stay : outcomes_at new results ≡ outcomes_at answers results =
    ap (λ bytes. outcomes_at bytes results) grown ∙ outcomes_stay 0 results answers part follow in
    ap (outcomes_at new) more_is ∙ map-append (outcome_at new) results (one ∷ [])
    ∙ ap (λ x. x ++ outcome_at new one ∷ []) (stay ∙ so_far)
    ∙ ap (λ x. received_all s users now (take i datagrams) ++ x ∷ []) received
    ∙ sym (map-append (received_one s users now) (take i datagrams) (d ∷ []))
    ∙ ap (received_all s users now) (sym (taken_more datagrams i d within is))

-- ---- what a batch comes to

pub each_outcome : (s : Settings) (users : Option Registered) (now : ℕ) (datagrams : List Datagram)
    (place : ℕ) (d : Datagram) → slice_get datagrams place ≡ Some d
    → slice_get (received_all s users now datagrams) place ≡ Some (received_one s users now d)
each_outcome s users now datagrams place d at =
    slice_get-map (received_one s users now) datagrams place
    ∙ ap (option_map (received_one s users now)) at

and_found-map : {X Y : Type 0} (f : X → Y) (one : Option X) (later : List X)
    → map f (and_found one later) ≡ and_found (option_map f one) (map f later)
and_found-map f None later = refl
and_found-map f (Some x) later = refl

pub picked-map : {X Y : Type 0} (f : X → Y) (places : List ℕ) (xs : List X)
    → map f (picked places xs) ≡ picked places (map f xs)
picked-map f [] xs = refl
picked-map f (place ∷ places) xs =
    and_found-map f (slice_get xs place) (picked places xs)
    ∙ ap (and_found (option_map f (slice_get xs place))) (picked-map f places xs)
    ∙ ap (λ one. and_found one (picked places (map f xs))) (sym (slice_get-map f xs place))

-- What was signed with success was signable: each addition was taken after those before it.
use Rattle.std.proofs.Common.{◌≡◌, ℕ, ◌+◌, ◌-◌, ◌≤◌, false, List, [], ◌∷◌}
use Rattle.std.proofs.Common.{◌++◌, length, Ok, sym, ◌∙◌, ap, arith}
use Rattle.std.specs.Prelude.{◌==◌}
use Rattle.std.specs.List.{AllByRecursion}
use Rattle.std.proofs.lemmas.List.Folds.{list_any-append}
use Rattle.std.proofs.lemmas.List.Sums.{sum_by-cons}
use Rattle.stun_base.specs.Algorithm.{digest_length}
use Rattle.stun_types.specs.Attribute.{TypedValue, attribute_length}
use Rattle.stun_types.specs.Message.{LENGTH_LIMIT}
use Rattle.stun_types.specs.Visible.{has_kind}
use Rattle.stun_types.specs.Walk.{Member, walk}
use Rattle.stun_types.specs.Writing.{IsAddable, IsOpen, with_attribute}
use Rattle.stun_judging.specs.Additions.{Addition, attribute, integrity, Page, added_all, growth_of}
use Rattle.stun_judging.specs.Joined.{IsTyped}
use Rattle.stun_judging.specs.Signed.{Added, IsSignable, additions_of, kinds_in}
use Rattle.stun_judging.proofs.JoinedLemmas.{WritingLaws, behind_digest, first_added, or_none}
use Rattle.stun_judging.proofs.JoinedLemmas.{taken, taken_digest}
use Rattle.stun_judging.proofs.SignedReading.{typed-additions, written-within}
use Rattle.stun_judging.proofs.SignedRoom.{IsReady, length-one_more}

-- types that are not there after one attribute more were not there before it
fresh_before : (message longer : List ℕ) (a : TypedValue) (kinds : List ℕ)
    → walk longer ≡ walk message ++ (length message, a) ∷ []
    → AllByRecursion (λ kind. has_kind kind (walk longer) ≡ false) kinds
    → AllByRecursion (λ kind. has_kind kind (walk message) ≡ false) kinds
fresh_before message longer a [] walked fresh = tt
fresh_before message longer a (kind ∷ kinds) walked fresh =
    let last = (length message, a) ∷ [] in
    let both = list_any-append (λ (m : Member). m.1.kind == kind) (walk message) last in (
      (or_none (has_kind kind (walk message)) (has_kind kind last)
          (sym both ∙ ap (has_kind kind) (sym walked) ∙ fresh.0)).0,
      fresh_before message longer a kinds walked fresh.1,
    )

pub was_ready : WritingLaws → (list : List Addition) (message : List ℕ) (room : ℕ) (page : Page)
    → IsOpen message → length message ≤ 65552
    → AllByRecursion IsTyped list → added_all list (record { bytes = message; room = room })
    ≡ Ok page → IsReady message room list
was_ready laws [] message room page is_open short typed done =
    record { is_open = is_open; fresh = tt; field = omega (arith, short); room_is = omega arith }
was_ready laws (attribute a ∷ others) message room page is_open short typed done =
    let here : Page = record { bytes = message; room = room } in
    let longer = with_attribute message a in
    let left = room - attribute_length (length a.value) in
    let first = first_added (attribute a) others here page done in
    let facts = taken message room a first.accepted in
    let fits : length message - 20 + attribute_length (length a.value) ≤ 65532 = facts.fits in
    let enough : attribute_length (length a.value) ≤ room = facts.enough in
    let addable : IsAddable message a = record { kind = typed.0; value = facts.fits } in
    let one = laws.added message a is_open addable in
    let long = length-one_more message longer a is_open.is_message one in
    let header = is_open.is_message.header.is_whole in
    let sum = sum_by-cons growth_of (attribute a) others in
    let rest =
    was_ready laws others longer left page (laws.opened message a is_open addable facts.apart)
    (omega (arith, long, fits, header)) typed.1 first.rest in
    record {
      is_open = is_open;
      fresh = (
        facts.fresh,
        fresh_before message longer a (kinds_in others) one.walk_is rest.fresh,
      );
      field = omega (arith, rest.field, sum, long, header);
      room_is = omega (arith, rest.room_is, enough, sum);
    }
was_ready laws (integrity algorithm key ∷ []) message room page is_open short typed done =
    let here : Page = record { bytes = message; room = room } in
    let first = first_added (integrity algorithm key) [] here page done in
    let facts = taken_digest message room algorithm first.accepted in
    let fits : length message - 20 + attribute_length (digest_length algorithm) ≤ 65532 =
    facts.fits in
    let enough : attribute_length (digest_length algorithm) ≤ room = facts.enough in
    let sum = sum_by-cons growth_of (integrity algorithm key) [] in
    record {
      is_open = is_open;
      fresh = tt;
      field = omega (arith, fits, sum);
      room_is = omega (arith, enough, sum);
    }
was_ready laws (integrity algorithm key ∷ other ∷ others) message room page is_open short typed
    done =
    absurd (behind_digest laws algorithm key other others message room page is_open done)

pub was_signable : WritingLaws → (a : Added) (message : List ℕ) (room : ℕ) (page : Page)
    → IsOpen message → length message ≤ LENGTH_LIMIT
    → added_all (additions_of a) (record { bytes = message; room = room }) ≡ Ok page
    → IsSignable a message room
was_signable laws a message room page is_open short done =
    let ready =
    was_ready laws (additions_of a) message room page is_open short (typed-additions a) done in
    record {
      is_open = is_open;
      none_there = ready.fresh;
      texts = written-within a (record { bytes = message; room = room }) page done;
      has_room = record { field = ready.field; enough = ready.room_is };
    }

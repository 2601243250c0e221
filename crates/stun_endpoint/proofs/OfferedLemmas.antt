-- A challenge fits into the error response that it is added to.
use Rattle.std.proofs.Common.{◌≡◌, ◌≤◌, ◌<◌, ◌^◌, ◌+◌, ◌-◌, ℕ, Bool, true, false, List, []}
use Rattle.std.proofs.Common.{◌∷◌, ◌++◌, length, length-append, Option, Some, None, refl, sym, ◌∙◌}
use Rattle.std.proofs.Common.{ap, arith, cond, map, subst, Ok, Err, length-take}
use Rattle.std.specs.Prelude.{◌==◌, IfOk, IsOk, Result, take, ⊤}
use Rattle.std.specs.List.{AllByRecursion}
use Rattle.std.specs.declared.net.socket_addr.SocketAddr.{SocketAddr}
use Rattle.std.proofs.lemmas.Bool.{le-ltb}
use Rattle.std.proofs.lemmas.List.{length-map}
use Rattle.base64.proofs.OnLiterals.{base64_on_literals}
use Rattle.sha1.specs.Sha1.{sha1}
use Rattle.stun_base.specs.Hmac.{hmac}
use Rattle.stun_base.specs.Attributes.{NONCE, PASSWORD_ALGORITHMS, REALM}
use Rattle.stun_base.specs.declared.keys.algorithm.IntegrityAlgorithm.TheVariants.{Sha256}
use Rattle.stun_base.specs.declared.wire.error.StunWriteError.{StunWriteError}
use Rattle.stun_base.specs.declared.wire.error.StunWriteError.TheVariants.{AttributeExists}
use Rattle.stun_base.specs.declared.wire.error.StunWriteError.TheVariants.{IntegrityFailed}
use Rattle.stun_base.specs.declared.wire.error.StunWriteError.TheVariants.{MessageIntegrityExists}
use Rattle.stun_base.specs.declared.wire.error.StunWriteError.TheVariants.{NotAllowed, OutOfMemory}
use Rattle.stun_base.specs.declared.wire.error.StunWriteError.TheVariants.{TooLarge, TooSmall}
use Rattle.stun_types.specs.Attribute.{TypedValue, attribute_length}
use Rattle.stun_types.specs.Limits.{LENGTH_LIMIT, TEXT_LIMIT}
use Rattle.stun_types.specs.Writing.{attribute_refusal, is_set_apart, with_attribute}
use Rattle.stun_judging.specs.AddedAttribute as added
use Rattle.stun_judging.specs.Additions.{Addition, Page, UnlessMemory, added_all, added_one, after}
use Rattle.stun_judging.specs.Additions.{addition_refusal, attribute, is_text_too_long, page_of}
use Rattle.stun_judging.specs.Additions.{page_unless_refused, written_page}
use Rattle.stun_judging.specs.Algorithms.{algorithms_of, contains}
use Rattle.stun_judging.specs.Nonces.{asks_for_algorithms, letter, spelled_bits}
use Rattle.stun_judging.specs.Registered.{Registered}
use Rattle.stun_judging.specs.Challenge.{challenge_under}
use Rattle.stun_judging.specs.declared.algorithm_set.AlgorithmSet.{AlgorithmSet}
use Rattle.stun_judging.specs.declared.algorithm_set.AlgorithmSet.TheVariants.{OnlySha1}
use Rattle.stun_judging.specs.declared.algorithm_set.AlgorithmSet.TheVariants.{OnlySha256, Both}
use Rattle.stun_judging.specs.declared.feature.Feature.{Feature}
use Rattle.stun_judging.specs.declared.feature.Feature.TheVariants.{Auto, Required, Disabled}
use Rattle.stun_extra.specs.AttributeTypes.{SOFTWARE}
use Rattle.stun_endpoint.specs.Answers.{offered, with_attributes}
use Rattle.stun_endpoint.specs.Nonces.{front_of, nonce_in, nonce_text, words_of}
use Rattle.stun_endpoint.specs.Settings.{Settings}
use Rattle.stun_endpoint.specs.code.Room.{HasRoom, IsEndable, LATER}
use Rattle.stun_endpoint.proofs.OfferLemmas.{challenge_attributes, challenge_is}
use Rattle.stun_extra.proofs.RoomLemmas.{allowed, length_grown}
use Rattle.stun_endpoint.proofs.RoomLemmas.{room_more, room_takes, room_within}

-- ---- how long a nonce is

length-front : (algorithms : AlgorithmSet) (feature : Feature)
    → length (front_of algorithms feature) ≡ 13
unfolding spelled_bits base64_on_literals
length-front OnlySha1 Auto = refl
length-front OnlySha1 Required = refl
length-front OnlySha1 Disabled = refl
length-front OnlySha256 Auto = refl
length-front OnlySha256 Required = refl
length-front OnlySha256 Disabled = refl
length-front Both Auto = refl
length-front Both Required = refl
length-front Both Disabled = refl

pub nonce_short : (s : Settings) (secret : List ℕ) (from : SocketAddr) (epoch : ℕ) (nonce : List ℕ)
    → nonce ≡ nonce_in s secret from epoch → length nonce ≤ TEXT_LIMIT
nonce_short s secret from epoch nonce is =
    let words = words_of s.algorithms secret from epoch in
    let front = front_of s.algorithms s.feature in
    omega (
      arith,
      ap length is,
      length-append front (map letter words),
      length-front s.algorithms s.feature,
      length-map words letter,
      length-take 16 (hmac sha1 secret (nonce_text s.algorithms from epoch)),
    )

-- ---- attributes that are added one after another

-- one of them, which nothing refuses
one_added : (page : List ℕ) (a : TypedValue) (others : List Addition) (kinds : List ℕ) (most : ℕ)
    → HasRoom (a.kind ∷ kinds) most page → is_text_too_long a ≡ false
    → is_set_apart a.kind ≡ false → most + attribute_length (length a.value) ≤ 65000
    → added_all (attribute a ∷ others) (page_of page)
    ≡ added_all others (page_of (with_attribute page a))
unfolding added_one
one_added page a others kinds most room short apart few =
    let n = length a.value in
    let refusal = attribute_refusal page (LENGTH_LIMIT - length page) a.kind n in
    let none : addition_refusal (attribute a) (page_of page) ≡ None =
    allowed (is_text_too_long a) TooLarge refusal short
    (room_takes page kinds a.kind n most room apart (omega (arith, few))) in
    let left : LENGTH_LIMIT - length page - attribute_length n
    ≡ LENGTH_LIMIT - length (with_attribute page a) =
    omega (arith, length_grown page a room.is_open.is_message.header.is_whole) in
    let next : Page = record {
      bytes = with_attribute page a;
      room = LENGTH_LIMIT - length page - attribute_length n;
    } in
    let same : next ≡ page_of (with_attribute page a) =
    λ i. record { bytes = with_attribute page a; room = left i } in
    ap (λ o. after (page_unless_refused o next) (added_all others)) none
    ∙ ap (added_all others) same

algorithms_few : (set : AlgorithmSet)
    → length ((added.password_algorithms (algorithms_of set)).value) ≤ 8
algorithms_few OnlySha1 = omega arith
algorithms_few OnlySha256 = omega arith
algorithms_few Both = omega arith

-- a challenge that is added in full, and leaves room for the end
record IsTaken (page : List ℕ) (attributes : List TypedValue) : Type 0 where
  added : added_all (map attribute attributes) (page_of page)
      ≡ Ok (page_of (with_attributes page attributes))
  room : IsEndable (with_attributes page attributes)

offer_taken : (page : List ℕ) (set : AlgorithmSet) (offers : Bool)
    → HasRoom (PASSWORD_ALGORITHMS ∷ SOFTWARE ∷ []) 3000 page
    → IsTaken page (cond offers (added.password_algorithms (algorithms_of set) ∷ []) [])
offer_taken page set false room = record {
  added = refl;
  room = room_within page (SOFTWARE ∷ []) PASSWORD_ALGORITHMS 3000 60000 room (omega arith);
}
offer_taken page set true room =
    let list = added.password_algorithms (algorithms_of set) in
    let few = algorithms_few set in
    let more =
    room_more page list (SOFTWARE ∷ []) 3000
    (room_within page (SOFTWARE ∷ []) PASSWORD_ALGORITHMS 3000 3000 room (omega arith)) (omega arith)
    refl (refl, tt) (omega (arith, few)) in
    record {
      added = one_added page list [] (SOFTWARE ∷ []) 3000 room refl refl (omega (arith, few));
      room = record {
        is_open = more.is_open;
        none = more.none;
        short = omega (arith, more.short, few);
      };
    }

challenge_taken : (users : Registered) (nonce page : List ℕ) → HasRoom LATER 1000 page
    → length nonce ≤ TEXT_LIMIT → length users.realm ≤ TEXT_LIMIT
    → IsTaken page (challenge_attributes users nonce)
challenge_taken users nonce page room short_nonce short_realm =
    let one = with_attribute page (added.nonce nonce) in
    let first =
    room_more page (added.nonce nonce) (REALM ∷ PASSWORD_ALGORITHMS ∷ SOFTWARE ∷ []) 1000
    (room_within page (REALM ∷ PASSWORD_ALGORITHMS ∷ SOFTWARE ∷ []) NONCE 1000 1000 room
    (omega arith)) (omega arith) refl (refl, (refl, (refl, tt))) (omega (arith, short_nonce)) in
    let first : HasRoom (REALM ∷ PASSWORD_ALGORITHMS ∷ SOFTWARE ∷ []) 2000 one = record {
      is_open = first.is_open;
      none = first.none;
      short = omega (arith, first.short, short_nonce);
    } in
    let two = with_attribute one (added.realm users.realm) in
    let second =
    room_more one (added.realm users.realm) (PASSWORD_ALGORITHMS ∷ SOFTWARE ∷ []) 2000
    (room_within one (PASSWORD_ALGORITHMS ∷ SOFTWARE ∷ []) REALM 2000 2000 first (omega arith))
    (omega arith) refl (refl, (refl, tt)) (omega (arith, short_realm)) in
    let second : HasRoom (PASSWORD_ALGORITHMS ∷ SOFTWARE ∷ []) 3000 two = record {
      is_open = second.is_open;
      none = second.none;
      short = omega (arith, second.short, short_realm);
    } in
    let last = offer_taken two users.algorithms (contains Sha256 users.algorithms) second in
    let offers = map attribute (offered users.algorithms) in
    record {
      added = one_added page (added.nonce nonce) (attribute (added.realm users.realm) ∷ offers)
          (REALM ∷ PASSWORD_ALGORITHMS ∷ SOFTWARE ∷ []) 1000 room
          (le-ltb TEXT_LIMIT (length nonce) short_nonce) refl (omega (arith, short_nonce))
          ∙ (one_added one (added.realm users.realm) offers (PASSWORD_ALGORITHMS ∷ SOFTWARE ∷ [])
          2000 first (le-ltb TEXT_LIMIT (length users.realm) short_realm) refl
          (omega (arith, short_realm))
          ∙ last.added);
      room = last.room;
    }

-- a response with a challenge takes its end
pub challenge_endable : {W : Type 0} (users : Registered) (nonce page : List ℕ) (bytes : W → List ℕ)
    (result : Result W StunWriteError) → HasRoom LATER 1000 page
    → length nonce ≤ TEXT_LIMIT → length users.realm ≤ TEXT_LIMIT
    → IfOk result (λ done. bytes done ≡ with_attributes page (challenge_attributes users nonce))
    → IfOk result (λ done. IsEndable (bytes done))
challenge_endable users nonce page bytes (Ok done) room short_nonce short_realm is =
    subst IsEndable (sym is) (challenge_taken users nonce page room short_nonce short_realm).room
challenge_endable users nonce page bytes (Err error) room short_nonce short_realm is = tt

-- a challenge fails for lack of memory alone
pub challenge_granted : {W : Type 0} (M : Type 0) (users : Registered) (nonce page : List ℕ)
    (bytes : W → List ℕ) (room_of : W → ℕ) (result : Result W StunWriteError)
    → asks_for_algorithms nonce ≡ contains Sha256 users.algorithms → HasRoom LATER 1000 page
    → length nonce ≤ TEXT_LIMIT → length users.realm ≤ TEXT_LIMIT
    → UnlessMemory result (written_page bytes room_of result
    ≡ added_all (challenge_under users nonce) (page_of page)) M
    → UnlessMemory result ⊤ ⊥ → IsOk result
challenge_granted {W = W} M users nonce page bytes room_of result asks room short_nonce short_realm =
    by result
  where
    taken : added_all (challenge_under users nonce) (page_of page)
        ≡ Ok (page_of (with_attributes page (challenge_attributes users nonce)))
    taken =
        ap (λ list. added_all list (page_of page)) (challenge_is users nonce asks)
        ∙ (challenge_taken users nonce page room short_nonce short_realm).added

    never : (error : StunWriteError)
        → Err error ≡ added_all (challenge_under users nonce) (page_of page) → ⊥
    never error is = let both = is ∙ taken in cc

    by : (result : Result W StunWriteError)
        → UnlessMemory result (written_page bytes room_of result
        ≡ added_all (challenge_under users nonce) (page_of page)) M
        → UnlessMemory result ⊤ ⊥ → IsOk result
    by (Ok done) is granted = refl
    by (Err NotAllowed) is granted = absurd (never NotAllowed is)
    by (Err MessageIntegrityExists) is granted = absurd (never MessageIntegrityExists is)
    by (Err (AttributeExists kind)) is granted = absurd (never (AttributeExists kind) is)
    by (Err TooLarge) is granted = absurd (never TooLarge is)
    by (Err TooSmall) is granted = absurd (never TooSmall is)
    by (Err IntegrityFailed) is granted = absurd (never IntegrityFailed is)
    by (Err OutOfMemory) is granted = absurd granted

-- What is told of a datagram at a server.
use Rattle.std.proofs.Common.{◌≡◌, ◌∙◌, ◌<◌, ◌≤◌, ℕ, ℤ, pos, negsuc, List, ◌++◌, Bool, true, false}
use Rattle.std.proofs.Common.{if◌then◌else◌, ◌==◌, ◌||◌, not, length, take, drop, min, arith}
use Rattle.std.proofs.Common.{Option, Some, None, Ok, Err, refl, sym, ap, inl, inr, subst, replicate}
use Rattle.std.proofs.Common.{ltb-false, ltb-true}
use Rattle.std.specs.Prelude.{◌⊎◌, Result, nat_lt}
use Rattle.std.proofs.Math.Seq.{take-append_seam}
use Rattle.std.proofs.lemmas.List.{take_all}
use Rattle.std.specs.declared.net.socket_addr.SocketAddr.{SocketAddr}
use Rattle.stun_judging.specs.Named.{Named, by_hash, by_name}
use Rattle.stun_endpoint.specs.Causes.{cause_for}
use Rattle.stun_endpoint.specs.Lookups.{Identification, LookupSeen, identified_by, looked_up}
use Rattle.stun_endpoint.specs.Lookups.{done as done_at_once}
use Rattle.stun_endpoint.specs.Settings.{Settings}
use Rattle.stun_endpoint.specs.declared.server.causes.Cause.{Cause}
use Rattle.stun_handles.specs.Addresses.{socket_address}
use Rattle.stun_handles.specs.Answers.{at_address}
use Rattle.stun_handles.specs.declared.address.Address.{Address}
use Rattle.stun_numbers.specs.Refusals.{refusal_number}
use Rattle.stun_numbers.specs.declared.refusal.Refusal.{Refusal}
use Rattle.stun_numbers.specs.declared.refusal.Refusal.TheVariants as r
use Rattle.stun_c_endpoint.specs.Causes.{CausedAs, OfRealm, cause_number, caused_at}
use Rattle.stun_c_endpoint.specs.HandleLaws.{IsErrorNumber}
use Rattle.stun_c_endpoint.specs.Kept.{Judge}
use Rattle.stun_c_endpoint.specs.Lookups.{IdentifiesAs, IsIdentified, identified_at, lookup_told}
use Rattle.stun_c_endpoint.specs.Replies.{told_name}
use Rattle.stun_c_endpoint.specs.ServerLaws.{Names}
use Rattle.stun_c_endpoint.specs.Told.{AnyOutcome, IsTold, LAST_SECOND, NAME_PLACE, NAME_ROOM}
use Rattle.stun_c_endpoint.specs.Told.{RECEIVED_SIZE, ReceivesAs, answered, at_front, dropped, failed}
use Rattle.stun_c_endpoint.specs.Told.{indicated, kind_number, need_told, number_unless, of_realm}
use Rattle.stun_c_endpoint.specs.Told.{outcome_at, outcome_by, requested, responded, room_refusal}
use Rattle.stun_c_endpoint.specs.Told.{told_of, told_unless, written_unless}
use Rattle.stun_c_endpoint.specs.declared.received.Received.{Received}
use Rattle.stun_c_endpoint.proofs.HandleLawLemmas.{no_error_is}
use Rattle.stun_c_endpoint.proofs.NumberLemmas.{no_refusal, same_number}

-- ---- what each outcome is told by

kind_of : (outcome : AnyOutcome) (x : Received) → (told_of outcome x).kind ≡ kind_number outcome
kind_of (dropped why code) x = refl
kind_of (answered a) x = refl
kind_of (requested None reply) x = refl
kind_of (requested (Some client) reply) x = refl
kind_of (indicated None message) x = refl
kind_of (indicated (Some client) message) x = refl
kind_of (responded message) x = refl

-- no outcome has the number of a look-up
not_five : {A : Type 0} (outcome : AnyOutcome) → 5 ≡ kind_number outcome → A
not_five (dropped why code) is = absurd (omega (arith, is))
not_five (answered a) is = absurd (omega (arith, is))
not_five (requested client reply) is = absurd (omega (arith, is))
not_five (indicated client message) is = absurd (omega (arith, is))
not_five (responded message) is = absurd (omega (arith, is))

-- how far a number is below 0
abbrev depth : ℤ → ℕ
depth (pos n) = 0
depth (negsuc n) = n

needed_by : (outcome : AnyOutcome) (out : List ℕ) (x told : Received) (b : Bool)
    → (bytes : List ℕ) → nat_lt (length out) (length bytes) ≡ b
    → room_refusal (length out) outcome ≡ (if b then Some r.BufferTooSmall else None)
    → need_told outcome x ≡ record x { needed = length bytes }
    → refusal_number r.BufferTooSmall
    ≡ number_unless (room_refusal (length out) outcome) outcome
    → told ≡ told_unless (room_refusal (length out) outcome) outcome x → length out < told.needed
needed_by outcome out x told true bytes room by needs is says =
    let more : length out < length bytes = ltb-true (length out) (length bytes) room in
    let written : told ≡ record x { needed = length bytes } =
    says ∙ ap (λ o. told_unless o outcome x) by ∙ needs in
    let count : told.needed ≡ length bytes = ap (λ (y : Received). y.needed) written in
    omega (arith, more, count)
needed_by outcome out x told false bytes room by needs is says =
    no_refusal (kind_number outcome) r.BufferTooSmall
    (sym (is ∙ ap (λ o. number_unless o outcome) by))

needed_of : (outcome : AnyOutcome) (out after : List ℕ) (x told : Received)
    → IsTold outcome (refusal_number r.BufferTooSmall) out after x told → length out < told.needed
needed_of (dropped why code) out after x told is = no_refusal 0 r.BufferTooSmall (sym is.number)
needed_of (answered a) out after x told is =
    needed_by (answered a) out x told _ a.bytes refl refl refl is.number is.told
needed_of (requested client reply) out after x told is =
    no_refusal 2 r.BufferTooSmall (sym is.number)
needed_of (indicated client message) out after x told is =
    no_refusal 3 r.BufferTooSmall (sym is.number)
needed_of (responded message) out after x told is = no_refusal 4 r.BufferTooSmall (sym is.number)

abbrev IsFailed : List ℕ → List ℕ → Received → Type 0
IsFailed out after told = (after ≡ out) × (told.kind ≡ 7) × (told.length ≡ 0)

failed_as : (out after : List ℕ) (x told : Received) → after ≡ out → told ≡ failed x
    → IsFailed out after told
failed_as out after x told same is =
    (same, ap (λ (y : Received). y.kind) is, ap (λ (y : Received). y.length) is)

-- only the room that is needed is told, if there is none
need_of : (outcome : AnyOutcome) (x told : Received) → told ≡ need_told outcome (failed x)
    → (told.kind ≡ 7) × (told.length ≡ 0)
need_of (dropped why code) x told is =
    (ap (λ (y : Received). y.kind) is, ap (λ (y : Received). y.length) is)
need_of (answered a) x told is =
    (ap (λ (y : Received). y.kind) is, ap (λ (y : Received). y.length) is)
need_of (requested client reply) x told is =
    (ap (λ (y : Received). y.kind) is, ap (λ (y : Received). y.length) is)
need_of (indicated client message) x told is =
    (ap (λ (y : Received). y.kind) is, ap (λ (y : Received). y.length) is)
need_of (responded message) x told is =
    (ap (λ (y : Received). y.kind) is, ap (λ (y : Received). y.length) is)

-- ---- calls, whatever the outcome is

told_kind : (outcome : AnyOutcome) (n : ℕ) (o : Option Refusal) (x told : Received)
    → pos n ≡ number_unless o outcome → told ≡ told_unless o outcome x → told.kind ≡ n
told_kind outcome n None x told is says =
    ap (λ (y : Received). y.kind) says ∙ kind_of outcome x ∙ sym (same_number n _ is)
told_kind outcome n (Some why) x told is says = no_refusal n why is

module _ (judge : Judge) (seconds : ℕ) (bytes : List ℕ) (result : ℤ) (out after : List ℕ)
    (x told : Received) where
  abbrev IsJudged : Option SocketAddr → Type 0
  IsJudged o = (address : SocketAddr) × (o ≡ Some address) × (seconds ≤ 1099511627776)
      × IsTold (outcome_by judge address seconds bytes) result out after x told

  -- a call judges the datagram, or fails by one of these
  opened : (a late : Bool) (o : Option SocketAddr) → nat_lt LAST_SECOND seconds ≡ late
      → ReceivesAs (if a || late then Err r.BadArgument
      else at_address o (λ from. Ok (outcome_by judge from seconds bytes))) result out after x told
      → IsJudged o ⊎ ((result ≡ refusal_number r.BadArgument)
      ⊎ (result ≡ refusal_number r.OutOfMemory))
  opened true late o time call = inr (inl call.0)
  opened false true o time call = inr (inl call.0)
  opened false false None time call = inr (inl call.0)
  opened false false (Some address) time (inl is) =
      inl (address, refl, ltb-false LAST_SECOND seconds time, is)
  opened false false (Some address) time (inr failure) = inr (inr failure.0)

pub judged : (judge : Judge) (from : Address) (seconds : ℕ) (bytes : List ℕ) (n : ℕ)
    (out after : List ℕ) (x told : Received)
    → ReceivesAs (outcome_at (Ok judge) from seconds bytes x) (pos n) out after x told
    → (address : SocketAddr) × (socket_address from ≡ Some address) × (seconds ≤ 1099511627776)
    × IsTold (outcome_by judge address seconds bytes) (pos n) out after x told
judged judge from seconds bytes n out after x told call =
    of_opened (opened judge seconds bytes (pos n) out after x told (not (x.size == RECEIVED_SIZE))
    (nat_lt LAST_SECOND seconds) (socket_address from) refl call)
  where
    of_opened : IsJudged judge seconds bytes (pos n) out after x told (socket_address from)
        ⊎ ((pos n ≡ refusal_number r.BadArgument) ⊎ (pos n ≡ refusal_number r.OutOfMemory))
        → IsJudged judge seconds bytes (pos n) out after x told (socket_address from)
    of_opened (inl is) = is
    of_opened (inr (inl is)) = no_refusal n r.BadArgument is
    of_opened (inr (inr is)) = no_refusal n r.OutOfMemory is

pub needed : (judge : Judge) (from : Address) (seconds : ℕ) (bytes out after : List ℕ)
    (x told : Received)
    → ReceivesAs (outcome_at (Ok judge) from seconds bytes x) (refusal_number r.BufferTooSmall) out
    after x told
    → length out < told.needed
needed judge from seconds bytes out after x told call =
    of_opened (opened judge seconds bytes (refusal_number r.BufferTooSmall) out after x told
    (not (x.size == RECEIVED_SIZE)) (nat_lt LAST_SECOND seconds) (socket_address from) refl call)
  where
    of_opened : IsJudged judge seconds bytes (refusal_number r.BufferTooSmall) out after x told
        (socket_address from)
        ⊎ ((refusal_number r.BufferTooSmall ≡ refusal_number r.BadArgument)
        ⊎ (refusal_number r.BufferTooSmall ≡ refusal_number r.OutOfMemory))
        → length out < told.needed
    of_opened (inl is) = needed_of _ out after x told is.3
    of_opened (inr (inl is)) = let e : 9 ≡ 6 = ap depth is in absurd (omega (arith, e))
    of_opened (inr (inr is)) = let e : 9 ≡ 16 = ap depth is in absurd (omega (arith, e))

pub kind_is : (outcome : Result AnyOutcome Refusal) (n : ℕ) (out after : List ℕ) (x told : Received)
    → ReceivesAs outcome (pos n) out after x told → told.kind ≡ n
kind_is (Ok outcome) n out after x told (inl is) =
    told_kind outcome n (room_refusal (length out) outcome) x told is.number is.told
kind_is (Ok outcome) n out after x told (inr failure) = no_refusal n r.OutOfMemory failure.0
kind_is (Err why) n out after x told call = no_refusal n why call.0

-- an outcome that is refused leaves the buffer
failed_told : (outcome : AnyOutcome) (result : ℤ) (out after : List ℕ) (x told : Received)
    → IsTold outcome result out after (failed x) told → IsErrorNumber result
    → IsFailed out after told
failed_told outcome result out after x told is e =
    by (room_refusal (length out) outcome) refl
  where
    by : (o : Option Refusal) → room_refusal (length out) outcome ≡ o → IsFailed out after told
    by None room =
        no_error_is result (kind_number outcome)
        (is.number ∙ ap (λ o. number_unless o outcome) room) e
    by (Some why) room =
        let need = need_of outcome x told
        (is.told ∙ ap (λ o. told_unless o outcome (failed x)) room) in
        (is.written ∙ ap (λ o. written_unless o outcome out) room, need.0, need.1)

pub failed_is : (outcome : Result AnyOutcome Refusal) (result : ℤ) (out after : List ℕ)
    (x told : Received) → ReceivesAs outcome result out after (failed x) told
    → IsErrorNumber result → (after ≡ out) × (told.kind ≡ 7) × (told.length ≡ 0)
failed_is (Ok outcome) result out after x told (inl is) e =
    failed_told outcome result out after x told is e
failed_is (Ok outcome) result out after x told (inr failure) e =
    failed_as out after x told failure.1 failure.2
failed_is (Err why) result out after x told call e = failed_as out after x told call.1 call.2

-- ---- causes

pub cause_by : (realm : OfRealm) (seconds : ℕ) (bytes : List ℕ) (n : ℕ) (late : Bool)
    (o : Option SocketAddr)
    → CausedAs (if late then Err r.BadArgument else at_address o
    (λ from. Ok (cause_for realm.settings (Some realm.users.registered) from seconds bytes)))
    (pos n)
    → (address : SocketAddr) × (o ≡ Some address)
    × (n ≡ cause_number
    (cause_for realm.settings (Some realm.users.registered) address seconds bytes))
cause_by realm seconds bytes n true o call = no_refusal n r.BadArgument call
cause_by realm seconds bytes n false None call = no_refusal n r.BadArgument call
cause_by realm seconds bytes n false (Some address) (inl is) = (address, refl, same_number n _ is)
cause_by realm seconds bytes n false (Some address) (inr failure) =
    no_refusal n r.OutOfMemory failure

-- ---- look-ups

least : (n : ℕ) → n ≤ 513 → min n 513 ≡ n
least n short = omega (arith, short)

front_name : (name : List ℕ) (count : ℕ) → count ≡ length name
    → take (length name)
    (take count name ++ drop count (replicate 516 0)) ≡ name
front_name name count is =
    ap (λ n. take (length name) (take n name ++ drop n (replicate 516 0))) is
    ∙ ap (λ l. take (length name) (l ++ drop (length name) (replicate 516 0)))
    (take_all (length name) name (omega arith))
    ∙ take-append_seam name (drop (length name) (replicate 516 0))

in_front : (name : List ℕ) → length name ≤ 513
    → take (length name) (at_front NAME_PLACE NAME_ROOM name) ≡ name
in_front name short = front_name name (min (length name) 513) (least (length name) short)

names : (l : LookupSeen) (user : Named) (x told : Received) → l.user ≡ user
    → told ≡ lookup_told l x → Names l.user told
names l user x told is says = subst (λ u. Names u told) (sym is) (by user is)
  where
    told_of_user : (u : Named) → l.user ≡ u
        → told ≡ lookup_told (record l { user = u }) x
    told_of_user u same = says ∙ ap (λ w. lookup_told (record l { user = w }) x) same

    by : (u : Named) → l.user ≡ u → Names u told
    by (by_name name) same =
        let is_told = told_of_user (by_name name) same in (
          ap (λ (y : Received). y.is_hash) is_told,
          λ short. ap told_name is_told ∙ in_front name short,
        )
    by (by_hash hash) same =
        let is_told = told_of_user (by_hash hash) same in (
          ap (λ (y : Received). y.is_hash) is_told,
          λ short. ap told_name is_told ∙ in_front hash short,
        )

identified : (i : Identification) (out after : List ℕ) (x told : Received)
    → IsIdentified i (pos 5) out after x told
    → (l : LookupSeen) × (i ≡ looked_up l) × (after ≡ out) × Names l.user told
identified (done_at_once outcome) out after x told is =
    by (room_refusal (length out) (of_realm outcome)) is.number
  where
    by : {A : Type 0} (o : Option Refusal) → pos 5 ≡ number_unless o (of_realm outcome) → A
    by None number = not_five (of_realm outcome) (same_number 5 _ number)
    by (Some why) number = no_refusal 5 why number
identified (looked_up l) out after x told is = (l, refl, is.1, names l l.user x told refl is.2)

module _ (s : Settings) (seconds : ℕ) (bytes out after : List ℕ) (x told : Received) where
  pub looked_up_by : (early : Bool) (o : Option SocketAddr)
      → IdentifiesAs (if early then Err r.BadArgument
      else at_address o (λ from. Ok (identified_by s from seconds bytes))) (pos 5) out after x told
      → (address : SocketAddr) × (lookup : LookupSeen) × (o ≡ Some address)
      × (identified_by s address seconds bytes ≡ looked_up lookup) × (after ≡ out)
      × Names lookup.user told
  looked_up_by true o call = no_refusal 5 r.BadArgument call.0
  looked_up_by false None call = no_refusal 5 r.BadArgument call.0
  looked_up_by false (Some address) (inl is) =
      let one = identified (identified_by s address seconds bytes) out after x told is in
      (address, one.0, refl, one.1, one.2, one.3)
  looked_up_by false (Some address) (inr failure) = no_refusal 5 r.OutOfMemory failure.0

identified_failed : (i : Identification) (result : ℤ) (out after : List ℕ) (x told : Received)
    → IsIdentified i result out after (failed x) told → IsErrorNumber result
    → IsFailed out after told
identified_failed (done_at_once outcome) result out after x told is e =
    failed_told (of_realm outcome) result out after x told is e
identified_failed (looked_up l) result out after x told is e = no_error_is result 5 is.0 e

pub lookup_failed : (i : Result Identification Refusal) (result : ℤ) (out after : List ℕ)
    (x told : Received) → IdentifiesAs i result out after (failed x) told → IsErrorNumber result
    → (after ≡ out) × (told.kind ≡ 7) × (told.length ≡ 0)
lookup_failed (Ok i) result out after x told (inl is) e =
    identified_failed i result out after x told is e
lookup_failed (Ok i) result out after x told (inr failure) e =
    failed_as out after x told failure.1 failure.2
lookup_failed (Err why) result out after x told call e = failed_as out after x told call.1 call.2

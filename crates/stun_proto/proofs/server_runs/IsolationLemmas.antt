-- What an address can tell depends on its own calls alone.
use Rattle.std.proofs.Common.{◌≡◌, List, [], ◌∷◌, Option, Some, None, Bool}
use Rattle.std.proofs.Common.{true, false, refl, sym, ◌∙◌, ap, subst, Ok, Err}
use Rattle.std.specs.Prelude.{cond}
use Rattle.std.specs.Option.{option_map}
use Rattle.std.specs.Ordering.{is_eq}
use Rattle.std.specs.Cmp.{eq_by_cmp_equiv}
use Rattle.std.specs.declared.result.Result.{Result}
use Rattle.std.specs.declared.cmp.Ordering.{Ordering}
use Rattle.std.specs.declared.cmp.Ordering.TheVariants.{Less, Equal, Greater}
use Rattle.std.specs.FinMap as fin
use Rattle.std.specs.FinMap.{get-insert, get-remove}
use Rattle.std.specs.declared.net.socket_addr.SocketAddr.{SocketAddr}
use Rattle.stun_base.specs.Address.{address_cmp, same_address}
use Rattle.stun_base.specs.declared.wire.error.StunParseError.{StunParseError}
use Rattle.stun_base.specs.declared.wire.error.StunWriteError.{StunWriteError}
use Rattle.stun_types.specs.Message.{refusal}
use Rattle.stun_judging.specs.Additions.{Page}
use Rattle.stun_auth.specs.Places.{at_place, with_client, with_offer}
use Rattle.stun_base.specs.MessageType.{class_in, is_response}
use Rattle.stun_judging.specs.Reading.{reading_of}
use Rattle.stun_auth.specs.Seen.{PlaceSeen}
use Rattle.stun_auth.specs.Server.{Sight}
use Rattle.stun_auth.specs.ServerSigning.{after_signing}
use Rattle.stun_auth.specs.Validation.{ServerSeen, sight, answer, place_after, put_place}
use Rattle.stun_proto.specs.Signing.{if_signed, place_offered, signing}
use Rattle.stun_proto.specs.Serving.{reply_of_answer, reply_of_signing, reply_unless}
use Rattle.stun_proto.specs.Serving.{places_unless, reply, after_call, replies, after_calls}
use Rattle.stun_proto.specs.Serving.{registered_after, feature_after, expiry_after}
use Rattle.stun_proto.specs.Isolation.{IsIsolated, concerns, own_calls, own_place_after}
use Rattle.stun_proto.specs.Isolation.{own_replies, place_unless, sight_after, sight_over}
use Rattle.stun_proto.specs.declared.replay.call.ServerCall.{ServerCall}
use Rattle.stun_proto.specs.declared.replay.call.ServerCall.TheVariants as Call
use Rattle.stun_auth.proofs.Forgotten.{get-places_kept}
use Rattle.stun_base.proofs.Addresses.{address_total, address_exact}

is_equal : (o : Ordering) → is_eq o ≡ true → o ≡ Equal
is_equal Less h = cc
is_equal Equal h = refl
is_equal Greater h = cc

-- addresses that pass the test are one
pub one_address : (a b : SocketAddr) → same_address a b ≡ true → a ≡ b
one_address a b h = address_exact a b (is_equal (address_cmp a b) h)

swapped : (a b : SocketAddr) → same_address a b ≡ same_address b a
swapped a b = (eq_by_cmp_equiv address_total).symm a b

-- ---- places

-- the place of another address stays
put_elsewhere : (places : fin.FinMap address_cmp PlaceSeen) (from a : SocketAddr)
    (o : Option PlaceSeen) → same_address from a ≡ false
    → fin.get (put_place places from o) a ≡ fin.get places a
put_elsewhere places from a None h = refl
put_elsewhere places from a (Some p) h =
    get-insert address_total places from p a
    ∙ ap (λ b. cond b (Some p) (fin.get places a)) (swapped a from ∙ h)

-- a place that is put where one stands, or where none is put, is there
pub put_here : (places : fin.FinMap address_cmp PlaceSeen) (a : SocketAddr) (o : Option PlaceSeen)
    → (o ≡ None → fin.get places a ≡ None) → fin.get (put_place places a o) a ≡ o
put_here places a None h = h refl
put_here places a (Some p) h =
    get-insert address_total places a p a
    ∙ ap (λ b. cond b (Some p) (fin.get places a)) ((eq_by_cmp_equiv address_total).refl a)

elsewhere : (places : fin.FinMap address_cmp PlaceSeen) (o : Option PlaceSeen) (b a : SocketAddr)
    (change : PlaceSeen → PlaceSeen) → same_address b a ≡ false
    → fin.get (at_place o places b change) a ≡ fin.get places a
elsewhere places None b a change h = refl
elsewhere places (Some p) b a change h =
    get-insert address_total places b (change p) a
    ∙ ap (λ t. cond t (Some (change p)) (fin.get places a)) (swapped a b ∙ h)

pub here : (places : fin.FinMap address_cmp PlaceSeen) (o : Option PlaceSeen) (a : SocketAddr)
    (change : PlaceSeen → PlaceSeen) → fin.get places a ≡ o
    → fin.get (at_place o places a change) a ≡ option_map change o
here places None a change h = h
here places (Some p) a change h =
    get-insert address_total places a (change p) a
    ∙ ap (λ t. cond t (Some (change p)) (fin.get places a)) ((eq_by_cmp_equiv address_total).refl a)

-- a place that is removed is gone there, and stays elsewhere
removed_here : (places : fin.FinMap address_cmp PlaceSeen) (a : SocketAddr)
    → fin.get (fin.remove places a) a ≡ None
removed_here places a =
    get-remove address_total places a a
    ∙ ap (λ b. cond b None (fin.get places a)) ((eq_by_cmp_equiv address_total).refl a)

removed_elsewhere : (places : fin.FinMap address_cmp PlaceSeen) (b a : SocketAddr)
    → same_address b a ≡ false → fin.get (fin.remove places b) a ≡ fin.get places a
removed_elsewhere places b a h =
    get-remove address_total places b a ∙ ap (λ t. cond t None (fin.get places a)) (swapped a b ∙ h)

-- where no place is left, none stood
pub none_left : (needs : Bool) (left : PlaceSeen) (stood : Option PlaceSeen)
    → cond needs (Some left) stood ≡ None → stood ≡ None
none_left true left stood h = cc
none_left false left stood h = h

-- bytes that are not a message leave the places
unless_here : (refused : Option StunParseError) (before after : fin.FinMap address_cmp PlaceSeen)
    (a : SocketAddr) (left : Option PlaceSeen)
    → fin.get after a ≡ left → fin.get (places_unless refused before after) a
    ≡ place_unless refused (fin.get before a) left
unless_here None before after a left h = h
unless_here (Some error) before after a left h = refl

unless_elsewhere : (refused : Option StunParseError)
    (before after : fin.FinMap address_cmp PlaceSeen) (a : SocketAddr)
    → fin.get after a ≡ fin.get before a
    → fin.get (places_unless refused before after) a ≡ fin.get before a
unless_elsewhere None before after a h = h
unless_elsewhere (Some error) before after a h = refl

-- ---- one call

-- a sight after a call, by the place that is left
abbrev seen_after : ServerSeen → ServerCall → Option PlaceSeen → Sight
seen_after s call place = record {
  registered = registered_after s.registered call;
  feature = feature_after s.feature call;
  expiry = expiry_after s.expiry call;
  place = place;
}

-- what was offered is kept at the address, and nowhere else
signed_here : (signed : Result Page StunWriteError) (s : ServerSeen) (a : SocketAddr)
    (response : Bool)
    → fin.get (if_signed signed s.places (after_signing s a response).places) a
    ≡ if_signed signed (fin.get s.places a) (place_offered (sight s a) response)
signed_here (Ok page) s a true =
    here s.places (fin.get s.places a) a (with_offer s.registered.algorithms) refl
signed_here (Ok page) s a false = refl
signed_here (Err reason) s a response = refl

signed_elsewhere : (signed : Result Page StunWriteError) (s : ServerSeen) (to a : SocketAddr)
    (response : Bool) → same_address to a ≡ false
    → fin.get (if_signed signed s.places (after_signing s to response).places) a
    ≡ fin.get s.places a
signed_elsewhere (Ok page) s to a true h =
    elsewhere s.places (fin.get s.places to) to a (with_offer s.registered.algorithms) h
signed_elsewhere (Ok page) s to a false h = refl
signed_elsewhere (Err reason) s to a response h = refl

-- the place that an own call leaves
own_place : (a : SocketAddr) (call : ServerCall) (s : ServerSeen) → concerns a call ≡ true
    → fin.get (after_call s call).places a ≡ own_place_after (sight s a) call
own_place a (Call.Validate from now message words) s h =
    let same : from ≡ a = one_address from a h in
    let P : SocketAddr
    → Type 0 = λ b. fin.get (after_call s (Call.Validate b now message words)).places a
    ≡ own_place_after (sight s a) (Call.Validate b now message words) in
    subst P (sym same)
    (unless_here (refusal message.items) s.places _ a
    (place_after (sight s a) now words (reading_of message.items))
    (put_here s.places a (place_after (sight s a) now words (reading_of message.items))
    (none_left _ _ (fin.get s.places a))))
own_place a (Call.Sign to message) s h =
    let same : to ≡ a = one_address to a h in
    let P : SocketAddr → Type 0 = λ b. fin.get (after_call s (Call.Sign b message)).places a
    ≡ own_place_after (sight s a) (Call.Sign b message) in
    subst P (sym same)
    (unless_here (refusal message.items) s.places _ a _
    (signed_here (signing (sight s a) message.items) s a (is_response (class_in message.items))))
own_place a (Call.AddUser name password) s h = refl
own_place a (Call.RemoveUser name) s h = refl
own_place a (Call.AddIntegrity algorithm) s h = refl
own_place a (Call.SetIntegrity algorithm) s h = refl
own_place a (Call.SetAnonymous feature) s h = refl
own_place a (Call.RemoveClient b) s h =
    let same : b ≡ a = one_address b a h in
    let P : SocketAddr → Type 0 = λ x. fin.get (after_call s (Call.RemoveClient x)).places a
    ≡ own_place_after (sight s a) (Call.RemoveClient x) in
    subst P (sym same) (here s.places (fin.get s.places a) a (with_client None) refl)
own_place a (Call.SetExpiry expiry) s h = refl
own_place a (Call.ForgetExpired now) s h = get-places_kept now s.places a
own_place a (Call.Forget b) s h =
    let same : b ≡ a = one_address b a h in
    let P : SocketAddr → Type 0 = λ x. fin.get (after_call s (Call.Forget x)).places a ≡ None in
    subst P (sym same) (removed_here s.places a)

-- an own call does to what an address can tell what it does to the server
pub own_step : (a : SocketAddr) (call : ServerCall) (s : ServerSeen) → concerns a call ≡ true
    → sight (after_call s call) a ≡ sight_after (sight s a) call
own_step a call s h = ap (seen_after s call) (own_place a call s h)

-- a call of another address does nothing to it
pub other_step : (a : SocketAddr) (call : ServerCall) (s : ServerSeen) → concerns a call ≡ false
    → sight (after_call s call) a ≡ sight s a
other_step a (Call.Validate from now message words) s h =
    ap (λ (o : Option PlaceSeen). record (sight s a) { place = o })
    (unless_elsewhere (refusal message.items) s.places _ a
    (put_elsewhere s.places from a
    (place_after (sight s from) now words (reading_of message.items)) h))
other_step a (Call.Sign to message) s h =
    ap (λ (o : Option PlaceSeen). record (sight s a) { place = o })
    (unless_elsewhere (refusal message.items) s.places _ a
    (signed_elsewhere (signing (sight s to) message.items) s to a
    (is_response (class_in message.items)) h))
other_step a (Call.AddUser name password) s h = cc
other_step a (Call.RemoveUser name) s h = cc
other_step a (Call.AddIntegrity algorithm) s h = cc
other_step a (Call.SetIntegrity algorithm) s h = cc
other_step a (Call.SetAnonymous feature) s h = cc
other_step a (Call.RemoveClient b) s h =
    ap (λ (o : Option PlaceSeen). record (sight s a) { place = o })
    (elsewhere s.places (fin.get s.places b) b a (with_client None) h)
other_step a (Call.SetExpiry expiry) s h = cc
other_step a (Call.ForgetExpired now) s h = cc
other_step a (Call.Forget b) s h =
    ap (λ (o : Option PlaceSeen). record (sight s a) { place = o })
    (removed_elsewhere s.places b a h)

-- the reply to an own call is a function of what the address can tell
own_reply : (a : SocketAddr) (call : ServerCall) (s t : ServerSeen) → concerns a call ≡ true
    → sight s a ≡ sight t a → reply s call ≡ reply t call
own_reply a (Call.Validate from now message words) s t h alike =
    let P : SocketAddr → Type 0 = λ b. reply s (Call.Validate b now message words)
    ≡ reply t (Call.Validate b now message words) in
    subst P (sym (one_address from a h))
    (ap (λ v. reply_unless (refusal message.items)
    (reply_of_answer (answer v now words (reading_of message.items)))) alike)
own_reply a (Call.Sign to message) s t h alike =
    let P : SocketAddr
    → Type 0 = λ b. reply s (Call.Sign b message) ≡ reply t (Call.Sign b message) in
    subst P (sym (one_address to a h))
    (ap (λ v. reply_unless (refusal message.items) (reply_of_signing (signing v message.items)))
    alike)
own_reply a (Call.AddUser name password) s t h alike = refl
own_reply a (Call.RemoveUser name) s t h alike = refl
own_reply a (Call.AddIntegrity algorithm) s t h alike = refl
own_reply a (Call.SetIntegrity algorithm) s t h alike = refl
own_reply a (Call.SetAnonymous feature) s t h alike = refl
own_reply a (Call.RemoveClient b) s t h alike = refl
own_reply a (Call.SetExpiry expiry) s t h alike = refl
own_reply a (Call.ForgetExpired now) s t h alike = refl
own_reply a (Call.Forget b) s t h alike = refl

-- ---- a list of calls

-- the replies to an address are those of a run over its own calls alone, from any server that looks
-- the same to it
pub isolated_from : (a : SocketAddr) (calls : List ServerCall) (s t : ServerSeen)
    → sight s a ≡ sight t a → own_replies a calls (replies s calls) ≡ replies t (own_calls a calls)
isolated_from a [] s t alike = refl
isolated_from a (call ∷ calls) s t alike =
    elim (concerns a call) as (λ b. concerns a call ≡ b
    → cond b (reply s call ∷ own_replies a calls (replies (after_call s call) calls))
    (own_replies a calls (replies (after_call s call) calls))
    ≡ replies t (cond b (call ∷ own_calls a calls) (own_calls a calls))) [
      | true ↦ λ h.
          let next : sight (after_call s call) a ≡ sight (after_call t call) a = own_step a call s h
          ∙ ap (λ v. sight_after v call) alike ∙ sym (own_step a call t h) in
          ap (λ r. r ∷ own_replies a calls (replies (after_call s call) calls))
          (own_reply a call s t h alike)
          ∙ ap (λ rs. reply t call ∷ rs)
          (isolated_from a calls (after_call s call) (after_call t call) next)
      | false ↦ λ h. isolated_from a calls (after_call s call) t (other_step a call s h ∙ alike)
    ] refl

pub is_isolated : (s : ServerSeen) (calls : List ServerCall) → IsIsolated s calls (replies s calls)
is_isolated s calls a = isolated_from a calls s s refl

-- what an address can tell in the end is a recursion over its own calls
pub sight-after_calls : (a : SocketAddr) (calls : List ServerCall) (s : ServerSeen)
    → sight (after_calls s calls) a ≡ sight_over (sight s a) (own_calls a calls)
sight-after_calls a [] s = refl
sight-after_calls a (call ∷ calls) s =
    elim (concerns a call) as (λ b. concerns a call ≡ b
    → sight (after_calls (after_call s call) calls) a
    ≡ sight_over (sight s a) (cond b (call ∷ own_calls a calls) (own_calls a calls))) [
      | true ↦ λ h. sight-after_calls a calls (after_call s call)
          ∙ ap (λ v. sight_over v (own_calls a calls)) (own_step a call s h)
      | false ↦ λ h. sight-after_calls a calls (after_call s call)
          ∙ ap (λ v. sight_over v (own_calls a calls)) (other_step a call s h)
    ] refl

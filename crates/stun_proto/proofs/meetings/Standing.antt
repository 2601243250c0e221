-- A nonce that stands at an address does so after calls that leave it.
use Rattle.std.proofs.Common.{◌≡◌, ℕ, suc, List, [], ◌∷◌, Option, Some, None, Bool}
use Rattle.std.proofs.Common.{true, false, refl, sym, ◌∙◌, ap, Ok, Err, arith}
use Rattle.std.specs.Prelude.{cond, nat_le, nat_lt, not, ◌&&◌}
use Rattle.std.specs.Option.{is_none, option_map}
use Rattle.std.proofs.lemmas.Bool.{le-ltb, leb-true}
use Rattle.std.specs.declared.net.socket_addr.SocketAddr.{SocketAddr}
use Rattle.std.specs.declared.result.Result.{Result}
use Rattle.stun_base.specs.Moments.{moment_after}
use Rattle.stun_base.specs.declared.wire.error.StunParseError.{StunParseError}
use Rattle.stun_base.specs.declared.wire.error.StunWriteError.{StunWriteError}
use Rattle.stun_types.specs.Message.{refusal}
use Rattle.stun_judging.specs.declared.feature.Feature.{Feature}
use Rattle.stun_judging.specs.Additions.{Page}
use Rattle.stun_auth.specs.Forgetting.{place_kept}
use Rattle.stun_judging.specs.Nonces.{nonce_of}
use Rattle.stun_auth.specs.Places.{with_offer}
use Rattle.stun_base.specs.MessageType.{class_in, is_response}
use Rattle.stun_judging.specs.Reading.{Reading, reading_of}
use Rattle.stun_auth.specs.Reasons.{ServerRefusal}
use Rattle.stun_judging.specs.Registered.{Registered}
use Rattle.stun_judging.specs.Verdict.{ClientSeen}
use Rattle.stun_auth.specs.Seen.{PlaceSeen, renewed_place}
use Rattle.stun_auth.specs.Server.{Sight, current_place}
use Rattle.stun_auth.specs.ServerSigning.{after_signing}
use Rattle.stun_auth.specs.Validation.{ServerSeen, needs_nonce, place_after}
use Rattle.stun_auth.specs.Validation.{sight, verdict_at, with_accepted}
use Rattle.stun_proto.specs.Isolation.{concerns, place_unless, sight_after}
use Rattle.stun_proto.specs.Renewal.{LeaveNonce, leaves_nonce}
use Rattle.stun_proto.specs.Serving.{after_call, after_calls}
use Rattle.stun_proto.specs.Signing.{if_signed, place_offered, signing}
use Rattle.stun_proto.specs.declared.replay.call.ServerCall.{ServerCall}
use Rattle.stun_proto.specs.declared.replay.call.ServerCall.TheVariants as Call
use Rattle.stun_proto.proofs.server_runs.IsolationLemmas.{other_step, own_step}
use Rattle.stun_proto.proofs.server_runs.Sights.{sight-after_signing}

module _ (users : Registered) (feature : Feature) (expiry : ℕ) (address : SocketAddr)
    (nonce : List ℕ) (end : ℕ) (removable : Bool) where
  -- the place of the nonce, whoever is known there, and what the address then can tell
  abbrev pub place_of : Option ClientSeen → PlaceSeen
  place_of known =
      record { nonce = nonce; expires = end; offered = Some users.algorithms; client = known }

  abbrev pub seen : Option PlaceSeen → Sight
  seen place = record { registered = users; feature = feature; expiry = expiry; place = place }

  -- somebody is known there unless that client may be removed
  abbrev pub Knows : Option ClientSeen → Type 0
  Knows known = removable ≡ false → is_none known ≡ false

  -- the nonce stands at the address
  abbrev pub Stands : ServerSeen → Type 0
  Stands s = (known : Option ClientSeen) × (sight s address ≡ seen (Some (place_of known)))
      × Knows known

  pub standing_in_time : (known : Option ClientSeen) (now : ℕ) (words : List ℕ)
      → nat_le now end ≡ true
      → current_place (seen (Some (place_of known))) now words ≡ place_of known
  standing_in_time known now words h =
      ap (λ b.
      cond b (place_of known)
      (renewed_place (Some (place_of known)) (nonce_of users.algorithms feature words)
      (moment_after now expiry))) h

  -- a place that is left with the nonce
  abbrev IsLeft : Option PlaceSeen → Type 0
  IsLeft place = (next : Option ClientSeen) × (place ≡ Some (place_of next)) × Knows next

  accepted_there : (known : Option ClientSeen) → Knows known → (o : Result ClientSeen ServerRefusal)
      → (next : Option ClientSeen) × (with_accepted (place_of known) o ≡ place_of next) × Knows next
  accepted_there known knows (Ok user) = (Some user, refl, λ never. refl)
  accepted_there known knows (Err refusal) = (known, refl, knows)

  if_needed : (needs : Bool) (known next : Option ClientSeen) (left : PlaceSeen) → Knows known
      → left ≡ place_of next → Knows next
      → IsLeft (cond needs (Some left) (Some (place_of known)))
  if_needed true known next left knows is knows_next = (next, ap Some is, knows_next)
  if_needed false known next left knows is knows_next = (known, refl, knows)

  message_there : (known : Option ClientSeen) → Knows known
      → (now : ℕ) (words : List ℕ) (r : Reading) → nat_le now end ≡ true
      → IsLeft (place_after (seen (Some (place_of known))) now words r)
  message_there known knows now words r h =
      let v = seen (Some (place_of known)) in
      let accepted = accepted_there known knows (verdict_at v (place_of known) r) in
      if_needed (needs_nonce r) known accepted.0
      (with_accepted (current_place v now words) (verdict_at v (current_place v now words) r)) knows
      (ap (λ q. with_accepted q (verdict_at v q r)) (standing_in_time known now words h)
      ∙ accepted.1) accepted.2

  unless_there : (refused : Option StunParseError) (known : Option ClientSeen) → Knows known
      → (left : Option PlaceSeen) → IsLeft left
      → IsLeft (place_unless refused (Some (place_of known)) left)
  unless_there None known knows left is = is
  unless_there (Some error) known knows left is = (known, refl, knows)

  offer_there : (known : Option ClientSeen)
      → with_offer users.algorithms (place_of known) ≡ place_of known
  offer_there None = refl
  offer_there (Some user) = refl

  offered_there : (response : Bool) (known : Option ClientSeen)
      → place_offered (seen (Some (place_of known))) response ≡ Some (place_of known)
  offered_there true known = ap Some (offer_there known)
  offered_there false known = refl

  signed_there : (signed : Result Page StunWriteError) (known : Option ClientSeen)
      (left : Option PlaceSeen) → left ≡ Some (place_of known)
      → if_signed signed (Some (place_of known)) left ≡ Some (place_of known)
  signed_there (Ok page) known left is = is
  signed_there (Err reason) known left is = refl

  -- forgetting leaves it, by its end where the client may be removed, and else by its client
  not_forgotten : (may : Bool) → removable ≡ may → (known : Option ClientSeen) → Knows known
      → (now : ℕ)
      → cond may (nat_le now end) true ≡ true
      → place_kept now (Some (place_of known)) ≡ Some (place_of known)
  not_forgotten true is None knows now h =
      ap (λ b. cond b None (Some (place_of None))) (le-ltb end now (leb-true now end h))
  not_forgotten false is None knows now h =
      ap (λ b. cond (b && nat_lt end now) None (Some (place_of None))) (knows is)
  not_forgotten may is (Some user) knows now h = refl

  with_place : (place : Option PlaceSeen) → IsLeft place
      → (next : Option ClientSeen) × (seen place ≡ seen (Some (place_of next))) × Knows next
  with_place place left = (left.0, ap seen left.1, left.2)

  own_leaves : (call : ServerCall) (known : Option ClientSeen) → Knows known
      → concerns address call ≡ true → leaves_nonce address end removable call ≡ true
      → (next : Option ClientSeen)
      × (sight_after (seen (Some (place_of known))) call ≡ seen (Some (place_of next))) × Knows next
  own_leaves (Call.Validate from now message words) known knows own h =
      with_place _ (unless_there (refusal message.items) known knows _
      (message_there known knows now words (reading_of message.items)
      (sym (ap (λ b. cond b (nat_le now end) true) own) ∙ h)))
  own_leaves (Call.Sign to message) known knows own h =
      with_place _ (unless_there (refusal message.items) known knows _ (
        known,
        signed_there (signing (seen (Some (place_of known))) message.items) known _
            (offered_there (is_response (class_in message.items)) known),
        knows,
      ))
  own_leaves (Call.AddUser name password) known knows own h = cc
  own_leaves (Call.RemoveUser name) known knows own h = cc
  own_leaves (Call.AddIntegrity algorithm) known knows own h = cc
  own_leaves (Call.SetIntegrity algorithm) known knows own h = cc
  own_leaves (Call.SetAnonymous setting) known knows own h = cc
  own_leaves (Call.RemoveClient removed) known knows own h =
      let may : removable ≡ true = sym (ap (λ b. cond b removable true) own) ∙ h in
      (None, refl, λ never. cc)
  own_leaves (Call.SetExpiry time) known knows own h = cc
  own_leaves (Call.ForgetExpired now) known knows own h =
      with_place _ (known, not_forgotten removable refl known knows now h, knows)
  own_leaves (Call.Forget forgotten) known knows own h = let clash : false ≡ true = sym (ap not own)
      ∙ h in cc

  call_leaves : (s : ServerSeen) (call : ServerCall)
      → leaves_nonce address end removable call ≡ true → Stands s → Stands (after_call s call)
  call_leaves s call h stands =
      elim (concerns address call) as (λ b. concerns address call ≡ b
      → Stands (after_call s call)) [
        | true ↦ λ own.
            let left = own_leaves call stands.0 stands.2 own h in (
              left.0,
              own_step address call s own ∙ ap (λ v. sight_after v call) stands.1 ∙ left.1,
              left.2,
            )
        | false ↦ λ other. (stands.0, other_step address call s other ∙ stands.1, stands.2)
      ] refl

  pub calls_leave : (calls : List ServerCall) (s : ServerSeen)
      → LeaveNonce address end removable calls → Stands s → Stands (after_calls s calls)
  calls_leave [] s leave stands = stands
  calls_leave (call ∷ calls) s leave stands =
      calls_leave calls (after_call s call) (λ k d h. leave (suc k) d (omega arith))
      (call_leaves s call (leave 0 call (omega arith)) stands)

  pub signing_sight : (s : ServerSeen) (stands : Stands s)
      → sight (after_signing s address true) address ≡ seen (Some (place_of stands.0))
  signing_sight s stands =
      sight-after_signing s address
      ∙ ap (λ (v : Sight).
      record v { place = option_map (with_offer v.registered.algorithms) v.place }) stands.1
      ∙ ap (λ q. seen (Some q)) (offer_there stands.0)

  pub signing_leaves : (s : ServerSeen) → Stands s → Stands (after_signing s address true)
  signing_leaves s stands = (stands.0, signing_sight s stands, stands.2)

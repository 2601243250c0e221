-- An address keeps some nonce of the settings after calls that leave its place: the nonce may end,
-- and another one be made.
use Rattle.std.proofs.Common.{◌≡◌, ◌≤◌, ◌<◌, ◌+◌, ℕ, suc, List, [], ◌∷◌, Option, Some}
use Rattle.std.proofs.Common.{None, Bool, true, false, refl, sym, ◌∙◌, ap, Ok, Err, arith}
use Rattle.std.specs.Prelude.{cond, nat_le, nat_lt, not, ◌&&◌}
use Rattle.std.specs.Option.{is_none, is_some}
use Rattle.std.proofs.Math.Nat.{le-min}
use Rattle.std.proofs.lemmas.Bool.{le-ltb, leb-true, leb-false}
use Rattle.std.specs.declared.net.socket_addr.SocketAddr.{SocketAddr}
use Rattle.std.specs.declared.result.Result.{Result}
use Rattle.stun_base.specs.Moments.{last_moment, moment_after}
use Rattle.stun_base.specs.declared.wire.error.StunParseError.{StunParseError}
use Rattle.stun_base.specs.declared.wire.error.StunWriteError.{StunWriteError}
use Rattle.stun_types.specs.Message.{refusal}
use Rattle.stun_judging.specs.declared.feature.Feature.{Feature}
use Rattle.stun_judging.specs.Additions.{Page}
use Rattle.stun_auth.specs.Forgetting.{place_kept}
use Rattle.stun_judging.specs.Nonces.{nonce_of}
use Rattle.stun_auth.specs.Places.{with_client, with_offer}
use Rattle.stun_base.specs.MessageType.{class_in, is_response}
use Rattle.stun_judging.specs.Reading.{Reading, reading_of}
use Rattle.stun_auth.specs.Reasons.{ServerRefusal}
use Rattle.stun_judging.specs.Registered.{Registered}
use Rattle.stun_judging.specs.Verdict.{ClientSeen}
use Rattle.stun_auth.specs.Seen.{PlaceSeen, renewed_place}
use Rattle.stun_auth.specs.Server.{Sight, current_place}
use Rattle.stun_auth.specs.Validation.{ServerSeen, needs_nonce, place_after}
use Rattle.stun_auth.specs.Validation.{sight, verdict_at, with_accepted}
use Rattle.stun_proto.specs.Isolation.{concerns, place_unless, sight_after}
use Rattle.stun_proto.specs.Renewal.{LeavePlace, leaves_place}
use Rattle.stun_proto.specs.Serving.{after_call, after_calls}
use Rattle.stun_proto.specs.Signing.{if_signed, place_offered, signing}
use Rattle.stun_proto.specs.declared.replay.call.ServerCall.{ServerCall}
use Rattle.stun_proto.specs.declared.replay.call.ServerCall.TheVariants as Call
use Rattle.stun_proto.proofs.server_runs.IsolationLemmas.{other_step, own_step}
use Rattle.stun_proto.proofs.Tests.{both}

-- A place has a nonce of these settings, with all algorithms offered, and does not end before a
-- bound. It has a client unless that may be removed
pub record IsKept (users : Registered) (feature : Feature) (bound : ℕ) (removable : Bool)
    (p : PlaceSeen) : Type 0 where
  pub words : List ℕ
  pub nonce : p.nonce ≡ nonce_of users.algorithms feature words
  pub offered : p.offered ≡ Some users.algorithms
  pub lasts : (now : ℕ) → now ≤ bound → now ≤ last_moment → now ≤ p.expires
  pub has_client : removable ≡ false → is_none p.client ≡ false

pub and_false : (b : Bool) → (b && false) ≡ false
and_false true = refl
and_false false = refl

module _ (users : Registered) (feature : Feature) (expiry : ℕ) (bound : ℕ) (removable : Bool) where
  abbrev kept : PlaceSeen → Type 0
  kept p = IsKept users feature bound removable p

  abbrev seen_at : Option PlaceSeen → Sight
  seen_at place = record { registered = users; feature = feature; expiry = expiry; place = place }

  -- some place that is kept
  abbrev Leaves : Option PlaceSeen → Type 0
  Leaves place = (q : PlaceSeen) × (place ≡ Some q) × kept q

  pub standing_kept : (p : PlaceSeen) → IsKept users feature bound removable p
      → (now : ℕ) (words : List ℕ)
      → IsKept users feature bound removable (current_place (seen_at (Some p)) now words)
  standing_kept p k now words = by (nat_le now p.expires) refl
    where
      by : (b : Bool) → nat_le now p.expires ≡ b
          → kept (cond b p
          (renewed_place (Some p) (nonce_of users.algorithms feature words)
          (moment_after now expiry)))
      by true h = k
      by false h = record {
        words = words;
        nonce = refl;
        offered = k.offered;
        lasts = λ t below last.
            let before : t ≤ p.expires = k.lasts t below last in
            let later : p.expires < now = leb-false now p.expires h in
            let within : t ≤ now + expiry = omega arith in
            le-min within last;
        has_client = k.has_client;
      }

  removed_kept : (p : PlaceSeen) → removable ≡ true → kept p → kept (with_client None p)
  removed_kept p may k =
      record {
        words = k.words;
        nonce = k.nonce;
        offered = k.offered;
        lasts = k.lasts;
        has_client = λ never. cc;
      }

  accepted_kept : (p : PlaceSeen) (o : Result ClientSeen ServerRefusal) → kept p
      → kept (with_accepted p o)
  accepted_kept p (Ok client) k =
      record {
        words = k.words;
        nonce = k.nonce;
        offered = k.offered;
        lasts = k.lasts;
        has_client = λ never. refl;
      }
  accepted_kept p (Err reason) k = k

  needed_kept : (b : Bool) (p q : PlaceSeen) → kept p → kept q → Leaves (cond b (Some q) (Some p))
  needed_kept true p q kp kq = (q, refl, kq)
  needed_kept false p q kp kq = (p, refl, kp)

  message_kept : (p : PlaceSeen) → kept p → (now : ℕ) (words : List ℕ) (r : Reading)
      → Leaves (place_after (seen_at (Some p)) now words r)
  message_kept p k now words r =
      let q = current_place (seen_at (Some p)) now words in
      needed_kept (needs_nonce r) p (with_accepted q (verdict_at (seen_at (Some p)) q r)) k
      (accepted_kept q (verdict_at (seen_at (Some p)) q r) (standing_kept p k now words))

  unless_kept : (o : Option StunParseError) (p : PlaceSeen) (left : Option PlaceSeen) → kept p
      → Leaves left → Leaves (place_unless o (Some p) left)
  unless_kept None p left k there = there
  unless_kept (Some error) p left k there = (p, refl, k)

  offer_kept : (b : Bool) (p : PlaceSeen) → kept p
      → kept (cond b p (record p { offered = Some users.algorithms }))
  offer_kept true p k = k
  offer_kept false p k = record {
    words = k.words;
    nonce = k.nonce;
    offered = refl;
    lasts = k.lasts;
    has_client = k.has_client;
  }

  offered_kept : (response : Bool) (p : PlaceSeen) → kept p
      → Leaves (place_offered (seen_at (Some p)) response)
  offered_kept true p k = (with_offer users.algorithms p, refl, offer_kept (is_some p.client) p k)
  offered_kept false p k = (p, refl, k)

  signed_kept : (signed : Result Page StunWriteError) (p : PlaceSeen) (left : Option PlaceSeen)
      → kept p → Leaves left → Leaves (if_signed signed (Some p) left)
  signed_kept (Ok page) p left k there = there
  signed_kept (Err reason) p left k there = (p, refl, k)

  not_forgotten : (p : PlaceSeen) (now : ℕ) → now ≤ p.expires → place_kept now (Some p) ≡ Some p
  not_forgotten p now later =
      ap (λ b. cond b None (Some p))
      (ap (λ b. is_none p.client && b) (le-ltb p.expires now later) ∙ and_false (is_none p.client))

  -- forgetting leaves it, by its end where the client may be removed, and else by its client
  forgetting_kept : (may : Bool) → removable ≡ may → (p : PlaceSeen) → kept p → (now : ℕ)
      → cond may (nat_le now bound && nat_le now last_moment) true ≡ true
      → place_kept now (Some p) ≡ Some p
  forgetting_kept true is p k now h =
      let in_time = both (nat_le now bound) (nat_le now last_moment) h in
      not_forgotten p now
      (k.lasts now (leb-true now bound in_time.0) (leb-true now last_moment in_time.1))
  forgetting_kept false is p k now h =
      ap (λ b. cond (b && nat_lt p.expires now) None (Some p)) (k.has_client is)

  with_place : (place : Option PlaceSeen) → Leaves place
      → (q : PlaceSeen) × (seen_at place ≡ seen_at (Some q)) × kept q
  with_place place there = (there.0, ap seen_at there.1, there.2)

  module _ (address : SocketAddr) where
    own_keeps : (call : ServerCall) (p : PlaceSeen) → kept p → concerns address call ≡ true
        → leaves_place address bound removable call ≡ true
        → (q : PlaceSeen) × (sight_after (seen_at (Some p)) call ≡ seen_at (Some q)) × kept q
    own_keeps (Call.Validate from now message words) p k own h =
        with_place _
        (unless_kept (refusal message.items) p _ k
        (message_kept p k now words (reading_of message.items)))
    own_keeps (Call.Sign to message) p k own h =
        with_place _ (unless_kept (refusal message.items) p _ k
        (signed_kept (signing (seen_at (Some p)) message.items) p _ k
        (offered_kept (is_response (class_in message.items)) p k)))
    own_keeps (Call.AddUser name password) p k own h = cc
    own_keeps (Call.RemoveUser name) p k own h = cc
    own_keeps (Call.AddIntegrity algorithm) p k own h = cc
    own_keeps (Call.SetIntegrity algorithm) p k own h = cc
    own_keeps (Call.SetAnonymous setting) p k own h = cc
    own_keeps (Call.RemoveClient removed) p k own h =
        (with_client None p, refl, removed_kept p (sym (ap (λ b. cond b removable true) own) ∙ h) k)
    own_keeps (Call.SetExpiry time) p k own h = cc
    own_keeps (Call.ForgetExpired now) p k own h =
        with_place _ (p, forgetting_kept removable refl p k now h, k)
    own_keeps (Call.Forget forgotten) p k own h = let clash : false ≡ true = sym (ap not own)
        ∙ h in cc

    -- the address has such a place
    abbrev pub Keeps : ServerSeen → Type 0
    Keeps s = (p : PlaceSeen) × (sight s address ≡ seen_at (Some p))
        × IsKept users feature bound removable p

    call_keeps : (s : ServerSeen) (call : ServerCall)
        → leaves_place address bound removable call ≡ true → Keeps s → Keeps (after_call s call)
    call_keeps s call h keeps =
        elim (concerns address call) as (λ b. concerns address call ≡ b
        → Keeps (after_call s call)) [
          | true ↦ λ own.
              let left = own_keeps call keeps.0 keeps.2 own h in (
                left.0,
                own_step address call s own ∙ ap (λ v. sight_after v call) keeps.1 ∙ left.1,
                left.2,
              )
          | false ↦ λ other. (keeps.0, other_step address call s other ∙ keeps.1, keeps.2)
        ] refl

    pub calls_keep : (calls : List ServerCall) (s : ServerSeen)
        → LeavePlace address bound removable calls → Keeps s → Keeps (after_calls s calls)
    calls_keep [] s leave keeps = keeps
    calls_keep (call ∷ calls) s leave keeps =
        calls_keep calls (after_call s call) (λ k d h. leave (suc k) d (omega arith))
        (call_keeps s call (leave 0 call (omega arith)) keeps)

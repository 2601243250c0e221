-- Where a message stands that becomes the current one again: it is an earlier one.
use Rattle.std.proofs.Common.{◌≡◌, ℕ, Bool, true, false, Option, Some, None, cond, refl}
use Rattle.std.specs.Option.{is_none, option_map}
use Rattle.std.specs.Prelude.{◌||◌, ⊤, find}
use Rattle.stun_client.specs.Challenges.{Answered}
use Rattle.stun_client.specs.Judging.{Verdict, anew, believed, doubted, dropped, refused}
use Rattle.stun_client.specs.Standing.{StandingSeen}
use Rattle.stun_client_endpoint.specs.declared.ended.DropReason.TheVariants.{LateChallenge}
use Rattle.stun_client_endpoint.specs.declared.ended.DropReason.TheVariants.{NotVerified}
use Rattle.stun_client_calls.specs.Deciding.{DecisionSeen, Place, answered, begun_again}
use Rattle.stun_client_calls.specs.Deciding.{decided, drops, giving_way, is_idle, is_spent}
use Rattle.stun_client_calls.specs.Deciding.{place_of, refuses, turns, turns_for, challenged_out}
use Rattle.stun_client_calls.specs.Deciding.{undoubted}
use Rattle.stun_client_calls.specs.Messages.{AskedSeen, SentSeen, eligible, has_unsigned, is_late}
use Rattle.stun_client_calls.specs.Messages.{message_for, signed_eligible}
use Rattle.stun_client_calls.specs.declared.deciding.Limits.{Limits}
use Rattle.stun_client_calls.specs.declared.turning.Why.{Why}
use Rattle.stun_client_calls.specs.declared.turning.Why.TheVariants.{Challenged, Doubted, Refused}

-- something holds of its rank and its ID, if it is an earlier message
abbrev pub IsPlace : (Place → Type 0) → Option Place → Type 0
IsPlace P None = ⊤
IsPlace P (Some p) = P p

abbrev pub IsPlaced : (Place → Type 0) → DecisionSeen → Type 0
IsPlaced P (answered by) = ⊤
IsPlaced P challenged_out = ⊤
IsPlaced P (turns why place d) = IsPlace P place
IsPlaced P refuses = ⊤
IsPlaced P (drops why) = ⊤

-- it holds of each earlier message that a search finds
module _ (P : Place → Type 0) (a : AskedSeen)
    (found : (p : ℕ × SentSeen → Bool) (e : ℕ × SentSeen) → find p a.earlier ≡ Some e
    → P (place_of e)) where
  placed_for : (c : Answered) → IsPlace P (option_map place_of (message_for c a.earlier))
  placed_for c = by (message_for c a.earlier) (found _)
    where
      by : (o : Option (ℕ × SentSeen)) → ((e : ℕ × SentSeen) → o ≡ Some e → P (place_of e))
          → IsPlace P (option_map place_of o)
      by None each = tt
      by (Some e) each = each e refl

  placed_anew : (why : Why) (c : Answered) (late spent : Bool)
      → IsPlaced P
      (cond late (drops LateChallenge) (cond spent challenged_out (turns_for why c a)))
  placed_anew why c true spent = tt
  placed_anew why c false true = tt
  placed_anew why c false false = placed_for c

  placed_undoubted : (o : Option (ℕ × SentSeen))
      → ((e : ℕ × SentSeen) → o ≡ Some e → P (place_of e)) → IsPlaced P (undoubted o)
  placed_undoubted None each = tt
  placed_undoubted (Some e) each = each e refl

  placed_again : (b : Bool) → IsPlaced P (cond b (drops NotVerified) (turns Doubted None None))
  placed_again true = tt
  placed_again false = tt

  placed_without : (standing : StandingSeen) (b : Bool)
      → IsPlaced P (cond b (undoubted (signed_eligible standing a.earlier)) (begun_again a))
  placed_without standing true =
      placed_undoubted (signed_eligible standing a.earlier) (found _)
  placed_without standing false = placed_again (has_unsigned a.earlier)

  placed_way : (standing : StandingSeen) (o : Option (ℕ × SentSeen))
      → ((e : ℕ × SentSeen) → o ≡ Some e → P (place_of e))
      → IsPlaced P (giving_way standing a o)
  placed_way standing None each = placed_without standing (is_none a.signed_for)
  placed_way standing (Some e) each = each e refl

  placed_doubt : (standing : StandingSeen) (b : Bool)
      → IsPlaced P
      (cond b (drops NotVerified) (giving_way standing a (eligible standing a.earlier)))
  placed_doubt standing true = tt
  placed_doubt standing false = placed_way standing (eligible standing a.earlier) (found _)

  placed_refusal : (b : Bool) → IsPlaced P (cond b challenged_out refuses)
  placed_refusal true = tt
  placed_refusal false = tt

  pub placed : (limits : Limits) (standing : StandingSeen) (now : ℕ) (v : Verdict)
      → IsPlaced P (decided limits standing now a v)
  placed limits standing now (believed by) = tt
  placed limits standing now (anew c) =
      placed_anew Challenged c (is_late now a) (is_spent limits a)
  placed limits standing now (refused None) =
      placed_refusal (limits.is_reliable || a.refusals.is_earlier)
  placed limits standing now (refused (Some c)) = placed_anew Refused c (is_late now a) _
  placed limits standing now doubted = placed_doubt standing (is_idle limits now a)
  placed limits standing now (dropped why) = tt

-- a search finds it among the earlier messages of a request
abbrev pub IsFound : AskedSeen → Place → Type 0
IsFound a p =
    (e : ℕ × SentSeen) × (f : ℕ × SentSeen → Bool) × (find f a.earlier ≡ Some e) × (place_of e ≡ p)

pub found_there : (limits : Limits) (standing : StandingSeen) (now : ℕ) (a : AskedSeen) (v : Verdict)
    → IsPlaced (IsFound a) (decided limits standing now a v)
found_there limits standing now a v =
    placed (IsFound a) a (λ f e found. (e, f, found, refl)) limits standing now v

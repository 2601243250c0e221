-- What an address can tell after each step of its own.
use Rattle.std.proofs.Common.{◌≡◌, ℕ, suc, List, [], ◌∷◌, Option, true, refl, ◌∙◌, ap, arith}
use Rattle.std.specs.Option.{option_map}
use Rattle.std.specs.FinMap as fin
use Rattle.std.specs.declared.net.socket_addr.SocketAddr.{SocketAddr}
use Rattle.stun_auth.specs.Places.{with_offer}
use Rattle.stun_judging.specs.Reading.{Reading}
use Rattle.stun_auth.specs.Seen.{PlaceSeen}
use Rattle.stun_auth.specs.ServerSigning.{after_signing}
use Rattle.stun_auth.specs.Validation.{ServerSeen, sight, place_after, after_validation}
use Rattle.stun_proto.specs.Matching.{AreOfOthers}
use Rattle.stun_proto.specs.Serving.{after_call, after_calls}
use Rattle.stun_proto.specs.declared.replay.call.ServerCall.{ServerCall}
use Rattle.stun_proto.proofs.server_runs.IsolationLemmas.{put_here, none_left, here, other_step}

pub sight-after_validation : (s : ServerSeen) (a : SocketAddr) (now : ℕ) (words : List ℕ)
    (r : Reading)
    → sight (after_validation s a now words r) a
    ≡ record (sight s a) { place = place_after (sight s a) now words r }
sight-after_validation s a now words r =
    ap (λ (o : Option PlaceSeen). record (sight s a) { place = o })
    (put_here s.places a (place_after (sight s a) now words r) (none_left _ _ (fin.get s.places a)))

-- a response that is signed
pub sight-after_signing : (s : ServerSeen) (a : SocketAddr)
    → sight (after_signing s a true) a
    ≡ record (sight s a)
    { place = option_map (with_offer s.registered.algorithms) (fin.get s.places a) }
sight-after_signing s a =
    ap (λ (o : Option PlaceSeen). record (sight s a) { place = o })
    (here s.places (fin.get s.places a) a (with_offer s.registered.algorithms) refl)

-- calls of others leave what an address can tell
pub sight-after_others : (s : ServerSeen) (a : SocketAddr) (calls : List ServerCall)
    → AreOfOthers a calls → sight (after_calls s calls) a ≡ sight s a
sight-after_others s a [] others = refl
sight-after_others s a (call ∷ calls) others =
    sight-after_others (after_call s call) a calls (λ k d h. others (suc k) d (omega arith))
    ∙ other_step a call s (others 0 call (omega arith))

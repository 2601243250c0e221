-- Two messages with one reading are answered alike, alone and in each run.
use Rattle.std.proofs.Common.{◌≡◌, ℕ, List, [], ◌∷◌, ◌++◌, sym, ◌∙◌, ap}
use Rattle.std.specs.Prelude.{None}
use Rattle.std.specs.declared.alloc.Global.{Global}
use Rattle.std.specs.declared.net.socket_addr.SocketAddr.{SocketAddr}
use Rattle.std.specs.declared.vec.Vec.{Vec}
use Rattle.stun_types.specs.Message.{refusal}
use Rattle.stun_judging.specs.Reading.{reading_of}
use Rattle.stun_auth.specs.Validation.{ServerSeen, after_validation, answer, sight}
use Rattle.stun_proto.specs.declared.replay.call.ServerCall.{ServerCall}
use Rattle.stun_proto.specs.declared.replay.call.ServerCall.TheVariants.{Validate}
use Rattle.stun_proto.specs.Appending.{AreAnsweredAlike}
use Rattle.stun_proto.specs.Serving.{after_call, after_calls, places_unless}
use Rattle.stun_proto.specs.Serving.{replies, reply, reply_of_answer, reply_unless}

-- two calls with the same reply that leave the same server are alike in each run
replies-alike : (one other : ServerCall) → ((s : ServerSeen) → reply s one ≡ reply s other)
    → ((s : ServerSeen) → after_call s one ≡ after_call s other)
    → (s : ServerSeen) (earlier later : List ServerCall)
    → replies s (earlier ++ one ∷ later) ≡ replies s (earlier ++ other ∷ later)
replies-alike one other replied kept s [] later = λ i. replied s i ∷ replies (kept s i) later
replies-alike one other replied kept s (call ∷ earlier) later =
    ap (λ rest. reply s call ∷ rest)
    (replies-alike one other replied kept (after_call s call) earlier later)

after_calls-alike : (one other : ServerCall)
    → ((s : ServerSeen) → after_call s one ≡ after_call s other)
    → (s : ServerSeen) (earlier later : List ServerCall)
    → after_calls s (earlier ++ one ∷ later) ≡ after_calls s (earlier ++ other ∷ later)
after_calls-alike one other kept s [] later = ap (λ left. after_calls left later) (kept s)
after_calls-alike one other kept s (call ∷ earlier) later =
    after_calls-alike one other kept (after_call s call) earlier later

-- so are two messages with one reading
pub answered_alike : (message other : Vec ℕ Global) → refusal message.items ≡ None
    → refusal other.items ≡ None
    → reading_of message.items ≡ reading_of other.items → AreAnsweredAlike message other
answered_alike message other is_message is_message_too reading =
    let refused : refusal message.items ≡ refusal other.items = is_message ∙ sym is_message_too in
    let replied : (s : ServerSeen) (from : SocketAddr) (now : ℕ) (words : List ℕ)
    → reply s (Validate from now message words) ≡ reply s (Validate from now other words) =
    λ s from now words i.
    reply_unless (refused i) (reply_of_answer (answer (sight s from) now words (reading i))) in
    let kept : (s : ServerSeen) (from : SocketAddr) (now : ℕ) (words : List ℕ)
    → after_call s (Validate from now message words)
    ≡ after_call s (Validate from now other words) =
    λ s from now words i. record {
      registered = s.registered;
      feature = s.feature;
      expiry = s.expiry;
      places =
          places_unless (refused i) s.places (after_validation s from now words (reading i)).places;
    } in
    record {
      replied = replied;
      kept = kept;
      run_replied = λ start earlier later from now words.
          replies-alike (Validate from now message words) (Validate from now other words)
          (λ s. replied s from now words) (λ s. kept s from now words) start earlier later;
      run_kept = λ start earlier later from now words.
          after_calls-alike (Validate from now message words) (Validate from now other words)
          (λ s. kept s from now words) start earlier later;
    }

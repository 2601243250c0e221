-- A server answers a message that verifies under none of a user's keys in the same way, whatever the
-- keys are.
use Rattle.std.proofs.Common.{◌≡◌, ℕ, List, Option, Some, None, Bool}
use Rattle.std.proofs.Common.{true, false, refl, ap}
use Rattle.std.specs.Prelude.{cond, not, ◌||◌}
use Rattle.std.specs.Option.{option_and_then}
use Rattle.std.specs.FinMap as fin
use Rattle.std.specs.declared.net.socket_addr.SocketAddr.{SocketAddr}
use Rattle.stun_base.specs.MessageType.{is_response}
use Rattle.stun_auth.specs.Handed.{with_users}
use Rattle.stun_judging.specs.OtherUsers.{VerifiesUnderNone, with_secret_for}
use Rattle.stun_judging.specs.Reading.{Reading, verified_under, is_malformed}
use Rattle.stun_judging.specs.Registered.{Registered, UserSecret, key_at}
use Rattle.stun_judging.specs.Verdict.{ClientSeen, verdict}
use Rattle.stun_auth.specs.Seen.{PlaceSeen}
use Rattle.stun_auth.specs.Server.{current_place}
use Rattle.stun_auth.specs.Validation.{ServerSeen, after_validation, answer, answer_to}
use Rattle.stun_auth.specs.Validation.{client_verified, put_place, sight}
use Rattle.stun_auth.specs.Validation.{validated_or_failed, with_accepted}
use Rattle.stun_judging.proofs.NoOracle.{key-alike, verdict-alike}

client-alike : (users : Registered) (name : List ℕ) (one other : UserSecret) (r : Reading)
    → VerifiesUnderNone users name one r → VerifiesUnderNone users name other r
    → (place : Option PlaceSeen)
    → client_verified (with_secret_for users name (Some one)) r place
    ≡ client_verified (with_secret_for users name (Some other)) r place
client-alike users name one other r under_one under_other place =
    by (option_and_then (λ (p : PlaceSeen). p.client) place)
  where
    by : (o : Option ClientSeen)
        → option_and_then
        (λ (c : ClientSeen). option_and_then (verified_under r)
        (key_at (with_secret_for users name (Some one)) c.name c.algorithm)) o
        ≡ option_and_then
        (λ (c : ClientSeen). option_and_then (verified_under r)
        (key_at (with_secret_for users name (Some other)) c.name c.algorithm)) o
    by None = refl
    by (Some c) = key-alike users name one other r under_one under_other c.name c.algorithm

module _ (s : ServerSeen) (name : List ℕ) (one other : UserSecret) (r : Reading)
    (under_one : VerifiesUnderNone s.registered name one r)
    (under_other : VerifiesUnderNone s.registered name other r) where
  abbrev server_with : UserSecret → ServerSeen
  server_with secret = with_users s (with_secret_for s.registered name (Some secret))

  judged_at : (from : SocketAddr) (now : ℕ) (words : List ℕ)
      → verdict (server_with one).registered s.feature
      (current_place (sight s from) now words).nonce
      (current_place (sight s from) now words).offered r
      ≡ verdict (server_with other).registered s.feature
      (current_place (sight s from) now words).nonce
      (current_place (sight s from) now words).offered r
  judged_at from now words =
      verdict-alike s.registered name one other r under_one under_other s.feature
      (current_place (sight s from) now words).nonce
      (current_place (sight s from) now words).offered

  pub answer-alike : (from : SocketAddr) (now : ℕ) (words : List ℕ)
      → answer (sight (server_with one) from) now words r
      ≡ answer (sight (server_with other) from) now words r
  answer-alike from now words = by (is_response r.class)
    where
      by : (b : Bool)
          → cond b
          (validated_or_failed (client_verified (server_with one).registered r
          (fin.get s.places from)))
          (answer_to (verdict (server_with one).registered s.feature
          (current_place (sight s from) now words).nonce
          (current_place (sight s from) now words).offered r))
          ≡ cond b
          (validated_or_failed (client_verified (server_with other).registered r
          (fin.get s.places from)))
          (answer_to (verdict (server_with other).registered s.feature
          (current_place (sight s from) now words).nonce
          (current_place (sight s from) now words).offered r))
      by true =
          ap validated_or_failed
          (client-alike s.registered name one other r under_one under_other
          (fin.get s.places from))
      by false = ap answer_to (judged_at from now words)

  pub after_validation-alike : (from : SocketAddr) (now : ℕ) (words : List ℕ)
      → with_users (after_validation (server_with one) from now words r) s.registered
      ≡ with_users (after_validation (server_with other) from now words r) s.registered
  after_validation-alike from now words =
      ap (λ (place : Option PlaceSeen). record s { places = put_place s.places from place })
      (by (is_response r.class) (is_malformed r))
    where
      by : (b m : Bool)
          → cond (not (b || m))
          (Some (with_accepted (current_place (sight s from) now words)
          (verdict (server_with one).registered s.feature
          (current_place (sight s from) now words).nonce
          (current_place (sight s from) now words).offered r)))
          (fin.get s.places from)
          ≡ cond (not (b || m))
          (Some (with_accepted (current_place (sight s from) now words)
          (verdict (server_with other).registered s.feature
          (current_place (sight s from) now words).nonce
          (current_place (sight s from) now words).offered r)))
          (fin.get s.places from)
      by true m = refl
      by false true = refl
      by false false =
          ap (λ v. Some (with_accepted (current_place (sight s from) now words) v))
          (judged_at from now words)

-- A message is judged by the one user whom it means. That user is found where there is no other
-- user, and the verdict looks at no other.
use Rattle.std.proofs.Common.{◌≡◌, ℕ, List, Option, Some}
use Rattle.std.proofs.Common.{None, Bool, true, false, refl, ap}
use Rattle.std.specs.Prelude.{cond, not, ◌||◌}
use Rattle.std.specs.Option.{option_and_then, option_map}
use Rattle.std.specs.FinMap as fin
use Rattle.std.specs.declared.net.socket_addr.SocketAddr.{SocketAddr}
use Rattle.stun_base.specs.MessageType.{is_response}
use Rattle.stun_judging.specs.Named.{Named, by_name, just, named_in}
use Rattle.stun_auth.specs.Handed.{meant_user, named_at, with_users}
use Rattle.stun_judging.specs.Reading.{Reading, verified_under, is_malformed}
use Rattle.stun_judging.specs.Registered.{Registered, RegisteredUser, key_of}
use Rattle.stun_judging.specs.Verdict.{ClientSeen}
use Rattle.stun_auth.specs.Seen.{PlaceSeen}
use Rattle.stun_auth.specs.Server.{Sight, current_place}
use Rattle.stun_auth.specs.Validation.{ServerSeen, after_validation, answer, answer_to}
use Rattle.stun_auth.specs.Validation.{client_verified, put_place, sight, validated_or_failed}
use Rattle.stun_auth.specs.Validation.{verdict_at, verified_for_client, with_accepted}
use Rattle.stun_judging.proofs.MeantUser.{named_alone, alone, named_by-alone, verdict-named_user}

client-alone : (users : Registered) (r : Reading) (place : Option PlaceSeen)
    → client_verified (alone users (named_at place)) r place ≡ client_verified users r place
client-alone users r place = by (option_and_then (λ (p : PlaceSeen). p.client) place)
  where
    by : (o : Option ClientSeen)
        → option_and_then
        (verified_for_client (alone users (option_map (λ (c : ClientSeen). by_name c.name) o)) r) o
        ≡ option_and_then (verified_for_client users r) o
    by None = refl
    by (Some c) =
        ap (λ (user : Option RegisteredUser). option_and_then (verified_under r)
        (option_and_then (λ (u : RegisteredUser). key_of users u c.algorithm) user))
        (named_alone users c.name)

-- ---- a server

-- the server at an address, with the one user who is meant
abbrev alone_at : ServerSeen → SocketAddr → Option Named → Sight
alone_at s from who = sight (with_users s (alone s.registered who)) from

-- whom a message means, by whether it is a response
abbrev who_by : ServerSeen → SocketAddr → Reading → Bool → Option Named
who_by s from r response =
    cond response (named_at (fin.get s.places from)) (named_in r.userhash r.username s.feature)

verdict-meant_user : (s : ServerSeen) (from : SocketAddr) (place : PlaceSeen) (r : Reading)
    → verdict_at (alone_at s from (who_by s from r false)) place r
    ≡ verdict_at (sight s from) place r
verdict-meant_user s from place r =
    verdict-named_user s.registered _ s.feature place.nonce place.offered r
    (named_by-alone s.registered s.feature r.userhash r.username)

pub answer-meant_user : (s : ServerSeen) (from : SocketAddr) (now : ℕ) (words : List ℕ)
    (r : Reading)
    → answer (sight (with_users s (just s.registered (meant_user s from r))) from) now words r
    ≡ answer (sight s from) now words r
answer-meant_user s from now words r = by (is_response r.class)
  where
    by : (b : Bool)
        → cond b
        (validated_or_failed (client_verified (alone s.registered (who_by s from r b)) r
        (fin.get s.places from)))
        (answer_to (verdict_at (alone_at s from (who_by s from r b))
        (current_place (sight s from) now words) r))
        ≡ cond b (validated_or_failed (client_verified s.registered r (fin.get s.places from)))
        (answer_to (verdict_at (sight s from) (current_place (sight s from) now words) r))
    by true = ap validated_or_failed (client-alone s.registered r (fin.get s.places from))
    by false = ap answer_to (verdict-meant_user s from (current_place (sight s from) now words) r)

pub after_validation-meant_user : (s : ServerSeen) (from : SocketAddr) (now : ℕ) (words : List ℕ)
    (r : Reading)
    → after_validation (with_users s (just s.registered (meant_user s from r))) from now words r
    ≡ with_users (after_validation s from now words r) (just s.registered (meant_user s from r))
after_validation-meant_user s from now words r =
    ap (λ (place : Option PlaceSeen). record s {
      registered = just s.registered (meant_user s from r);
      places = put_place s.places from place;
    }) (by (is_response r.class) (is_malformed r))
  where
    by : (b m : Bool)
        → cond (not (b || m))
        (Some (with_accepted (current_place (sight s from) now words)
        (verdict_at (alone_at s from (who_by s from r b))
        (current_place (sight s from) now words) r)))
        (fin.get s.places from)
        ≡ cond (not (b || m))
        (Some (with_accepted (current_place (sight s from) now words)
        (verdict_at (sight s from) (current_place (sight s from) now words) r)))
        (fin.get s.places from)
    by true m = refl
    by false true = refl
    by false false =
        ap (λ v. Some (with_accepted (current_place (sight s from) now words) v))
        (verdict-meant_user s from (current_place (sight s from) now words) r)

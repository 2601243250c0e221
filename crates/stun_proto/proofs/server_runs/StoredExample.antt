-- A message is judged with one of two users, and what has expired is forgotten.
use Rattle.std.proofs.Common.{◌≡◌, ℕ, List, [], ◌∷◌, ◌++◌, Option, Some, None, refl, sym, subst, ap, ◌∙◌}
use Rattle.std.specs.Prelude.{codes, cond}
use Rattle.std.specs.Prelude.{map as list_map}
use Rattle.std.specs.Cmp.Lexicographic.{nat_list_cmp_total}
use Rattle.std.specs.FinMap as map
use Rattle.std.specs.FinMap.{get-insert}
use Rattle.std.specs.Option.{option_and_then, option_map}
use Rattle.std.specs.Global.{Vec}
use Rattle.std.specs.declared.net.socket_addr.SocketAddr.{SocketAddr}
use Rattle.stun_base.specs.declared.wire.error.StunParseError.{StunParseError}
use Rattle.stun_types.specs.Message.{refusal}
use Rattle.stun_auth.specs.ForgettingSteps.{after_step}
use Rattle.stun_judging.specs.Named.{by_name, named_in, user_of}
use Rattle.stun_auth.specs.Handed.{judged_by, meant_user, named_at, with_users}
use Rattle.stun_judging.specs.Reading.{Reading, reading_of}
use Rattle.stun_judging.specs.Registered.{Registered, new_registered, of_password, user_by_password}
use Rattle.stun_judging.specs.Registered.{with_user}
use Rattle.stun_auth.specs.Server.{Sight}
use Rattle.stun_auth.specs.Validation.{ServerSeen, after_validation, answer, sight}
use Rattle.stun_proto.specs.DatabaseLoop.{IfAMessage, Made, Stored, forgotten, whole, with_passed}
use Rattle.stun_proto.specs.MeetingExample.{a_user}
use Rattle.stun_proto.specs.Serving.{Done, reply_of_answer}
use Rattle.stun_proto.specs.StoredExample.{IsStored, NamesTheFirst, OneIsStored, another_user}
use Rattle.stun_proto.specs.StoredExample.{two_users}
use Rattle.stun_proto.proofs.meetings.ExampleLemmas.{one_present}
use Rattle.stun_proto.specs.declared.replay.call.ServerCall.TheVariants as Call

-- the users of the data base
abbrev users : Registered
users = (whole two_users).registered

first_there : map.get users.secrets (codes "user") ≡ Some (of_password a_user.password)
first_there =
    get-insert nat_list_cmp_total
    (with_user (new_registered (codes "realm")) a_user).secrets another_user.username
    (of_password another_user.password) (codes "user")
    ∙ one_present (new_registered (codes "realm")) refl a_user

module _ (from : SocketAddr) (bytes : List ℕ) (names : NamesTheFirst bytes) where
  abbrev r : Reading
  r = reading_of bytes

  abbrev v : Sight
  v = sight (whole two_users) from

  judged_by_name : judged_by v r ≡ Some (by_name (codes "user"))
  judged_by_name =
      ap (λ b. cond b (named_at v.place) (named_in r.userhash r.username v.feature))
      names.no_response
      ∙ ap (λ h. named_in h r.username v.feature) names.no_hash
      ∙ ap (λ u. named_in None u v.feature) names.named

  meant : meant_user (whole two_users) from r ≡ Some (user_by_password a_user)
  meant =
      ap (option_and_then (user_of users)) judged_by_name
      ∙ ap (option_map (λ secret. record { username = codes "user"; secret = secret })) first_there

module _ (from : SocketAddr) (now later : ℕ) (words : List ℕ) (request : Vec ℕ)
    (names : NamesTheFirst request.items) where
  abbrev passed : ServerSeen
  passed = with_passed two_users (meant_user (whole two_users) from (reading_of request.items))

  judged : Made
  judged = record {
    calls = Call.Validate from now request words ∷ [];
    given = reply_of_answer
        (answer (sight passed from) now words (reading_of request.items)) ∷ [];
    after = record two_users {
      server = with_users (after_validation passed from now words (reading_of request.items))
          two_users.server.registered;
    };
  }

  abbrev left : ServerSeen
  left = judged.after.server

  forgets : Made
  forgets = record {
    calls = list_map Call.Forget (forgotten left later None 1);
    given = list_map (λ a. Done) (forgotten left later None 1);
    after = record judged.after { server = after_step left later None 1 };
  }

  is_judged : (o : Option StunParseError) → o ≡ None
      → IfAMessage two_users (Call.Validate from now request words) o judged (judged ≡ judged)
  is_judged o none =
      subst (λ x. IfAMessage two_users (Call.Validate from now request words) x judged
      (judged ≡ judged)) (sym none) refl

  is_stored : IsStored from now later words request
  unfolding judged forgets
  is_stored = record {
    named = meant from request.items names;
    calls = judged.calls ++ (forgets.calls ++ []);
    given = judged.given ++ (forgets.given ++ []);
    last = forgets.after;
    made = (
      judged,
      forgets.calls ++ [],
      forgets.given ++ [],
      refl,
      refl,
      is_judged (refusal request.items) names.is_message,
      (forgets, [], [], refl, refl, refl, (refl, refl, refl)),
    );
  }

pub one_is_stored : OneIsStored
one_is_stored from now later words request names =
    is_stored from now later words request names

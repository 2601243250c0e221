-- Its first request is outstanding after no call, and so after the challenge.
use Rattle.std.proofs.Common.{◌≡◌, ◌∙◌, ◌∷◌, [], ℕ, Bool, true, false, List, None, Some}
use Rattle.std.proofs.Common.{arith, cond, map, refl, sym}
use Rattle.std.specs.Prelude.{◌&&◌, ◌==◌, replicate}
use Rattle.std.specs.declared.net.socket_addr.SocketAddr.{SocketAddr}
use Rattle.std.proofs.lemmas.Bool.{eq-eqb}
use Rattle.std.proofs.lemmas.Str.{IsUtf8-from_ascii}
use Rattle.sha1.specs.Sha1.{compress, digest_bytes, first_words, hash_after, rounds, schedule, sha1}
use Rattle.stun_base.specs.Hmac.{hmac}
use Rattle.stun_base.specs.declared.keys.algorithm.IntegrityAlgorithm.TheVariants.{Sha256}
use Rattle.stun_judging.specs.Naming.{naming_of}
use Rattle.stun_judging.specs.Nonces.{asks_for_userhash, letter}
use Rattle.stun_judging.specs.Signed.{plain_name}
use Rattle.stun_client.specs.Ids.{id_of}
use Rattle.stun_client.specs.Judging.{long_term}
use Rattle.stun_client_calls.specs.Clients.{started}
use Rattle.stun_client_calls.specs.NewClients.{made_of}
use Rattle.stun_client_calls.specs.Runs.{no_call}
use Rattle.stun_endpoint.specs.Settings.{registered_of}
use Rattle.stun_endpoint.specs.Nonces.{current_nonce, epoch_of, words_of}
use Rattle.stun_exchanges.specs.Instance.{example_user, example_users}
use Rattle.stun_exchanges.proofs.Ascii.{from_small}
use Rattle.stun_requests.specs.Fitting.{IsBuiltBody, adds, new}
use Rattle.stun_client_meetings.specs.Beginning.{CanBegin, allocate_body, example_client}
use Rattle.stun_client_meetings.specs.Beginning.{example_server, side_of}
use Rattle.stun_client_meetings.specs.Meeting.{CanMeet, challenge_at}
use Rattle.stun_client_meetings.proofs.BeginningLemmas.{first_signed, goes_on, ignores_none}
use Rattle.stun_client_meetings.proofs.BeginningLemmas.{is_client_of, starts_so}
use Rattle.stun_client_meetings.proofs.laws.new_clients_meet_servers.Goals as goal

pub returns-clause-met : goal.returns-clause-met
returns-clause-met g = λ s users from n a method body options start time now memory can meetable low
    built in_time.
    let c = made_of n in
    let page = g.requests_can_be_written.ensures.written n.form n.who n.preferences
    n.accepts_unsigned None
    method (id_of n.seed 0) body low built can.software tt in
    let begun = started method body options start c in
    let none = starts_so s users n a can method body page options meetable start in
    let unsigned = first_signed s users n a can method body page options meetable start in
    let side = side_of n in
    let client = is_client_of n
    (g.clients_stay_in_order.ensures.begins n.transport n.server n.counts n.requires_fingerprint
    (long_term n.who n.preferences n.accepts_unsigned) n.form n.understood n.turns n.plan n.seed) in
    let meets = g.clients_meet_servers.ensures s users from side a c begun method body options start
    [] page.bytes can.meet client meetable low built none (no_call begun) unsigned.sent in
    let challenge = challenge_at s side a from time in
    let again = meets.renewed time now memory unsigned
    (goes_on s users n a can method body page options meetable start challenge now in_time)
    (ignores_none s users n a can method body page options meetable start challenge)
    in
    record {
      starts = none;
      first = page.bytes;
      unsigned = unsigned;
      challenged = meets.challenged time unsigned;
      renewed = again;
      accepted = λ later within.
          (g.clients_meet_servers.ensures s users from side a c again.next method body options
          start again.events again.bytes can.meet client meetable low built none again.calls
          again.signed.sent).accepted time later again.signed within;
    }

-- ---- the examples

-- two IDs, computed
ids_differ : (id_of (replicate 32 0) 1 == id_of (replicate 32 0) 0) ≡ false
unfolding hmac first_words schedule rounds compress hash_after digest_bytes sha1
ids_differ = refl

true_false : true ≡ false → ⊥
true_false is = cc

example_meets : (c : goal.After-requests_can_be_written) (hashes : Bool) (secret : List ℕ)
    (server : SocketAddr)
    → CanMeet (example_server hashes secret) example_users (side_of (example_client server)) Sha256
example_meets c true secret server =
    let it = c.sides_can_meet.ensures secret in
    record {
      built = it.0;
      known = it.1;
      text = IsUtf8-from_ascii example_user.username (from_small example_user.username refl);
      short = omega arith;
      agree = it.2;
      printed = λ is. refl;
      required = λ is. refl;
    }
example_meets c false secret server =
    let it = c.sides_can_meet.ensures secret in
    record {
      built = record {
        realm_fits = it.0.realm_fits;
        realm_text = it.0.realm_text;
        software_fits = it.0.software_fits;
      };
      known = record { realm = it.1.realm; registered = it.1.registered; hashed = it.1.hashed };
      text = IsUtf8-from_ascii example_user.username (from_small example_user.username refl);
      short = omega arith;
      agree = record { first = it.2.first; hashes = λ must. cc };
      printed = λ is. refl;
      required = λ is. refl;
    }

example_begins : (c : goal.After-requests_can_be_written) (hashes : Bool) (secret : List ℕ)
    (server : SocketAddr)
    → CanBegin (example_server hashes secret) example_users (example_client server) Sha256
example_begins c hashes secret server = record {
  meet = example_meets c hashes secret server;
  turns = omega arith;
  software = tt;
  another = λ same. true_false (sym (eq-eqb (id_of (replicate 32 0) 1) (id_of (replicate 32 0) 0)
      same)
      ∙ ids_differ);
}

built_body : IsBuiltBody allocate_body
built_body =
    adds [] allocate_body 0x0019 (17 ∷ 0 ∷ 0 ∷ 0 ∷ []) new (omega arith) refl refl

example_named : (hashes asks : Bool) (realm : List ℕ) → asks ≡ hashes
    → plain_name (naming_of (asks && true) example_user.username realm)
    ≡ cond hashes None (Some example_user.username)
example_named true true realm is = refl
example_named true false realm is = cc
example_named false true realm is = cc
example_named false false realm is = refl

example_name : (g : goal.After-requests_can_be_written) (hashes : Bool) (secret : List ℕ)
    (from server : SocketAddr) (time : ℕ)
    → plain_name (challenge_at (example_server hashes secret) (side_of (example_client server))
    Sha256
    from time).challenge.naming
    ≡ cond hashes None (Some example_user.username)
example_name g true secret from server time =
    let s = example_server true secret in
    let up_to_date = g.nonces_of_a_server_are_up_to_date.ensures.marked (registered_of s)
    s.feature (map letter (words_of s.algorithms s.secret from (epoch_of s time))) in
    example_named true (asks_for_userhash (current_nonce s from time)) s.realm up_to_date.hashes
example_name g false secret from server time =
    let s = example_server false secret in
    let up_to_date = g.nonces_of_a_server_are_up_to_date.ensures.marked (registered_of s)
    s.feature (map letter (words_of s.algorithms s.secret from (epoch_of s time))) in
    example_named false (asks_for_userhash (current_nonce s from time)) s.realm up_to_date.hashes

pub returns-clause-exist : goal.returns-clause-exist
returns-clause-exist g = λ hashes secret from server start time now memory in_time.
    let s = example_server hashes secret in
    let n = example_client server in
    let can = example_begins g hashes secret server in
    let met = returns-clause-met g in
    record {
      binding = met s example_users from n Sha256 1 [] None start time now memory can tt
          (omega arith) new in_time;
      allocate = met s example_users from n Sha256 3 allocate_body None start time now memory can tt
          (omega arith) built_body in_time;
      named = example_name g hashes secret from server time;
    }

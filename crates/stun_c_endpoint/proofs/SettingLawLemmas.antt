-- The server and the client of settings that are accepted.
use Rattle.std.proofs.Common.{◌≡◌, ◌∙◌, ◌≤◌, ℕ, zero, suc, pos, List, Bool, true, false, true≢false}
use Rattle.std.proofs.Common.{if◌then◌else◌, ◌==◌, ◌&&◌, ◌||◌, not, length, arith, ltb-false, eqb-true}
use Rattle.std.proofs.Common.{Option, Some, None, refl, sym, ap, inl, inr, replicate}
use Rattle.std.specs.Prelude.{◌≢◌, nat_lt, slice_index}
use Rattle.std.specs.Str.{bytes_eq, is_utf8}
use Rattle.std.proofs.lemmas.Slice.Eq.{bytes_eq-Decides}
use Rattle.std.specs.declared.net.socket_addr.SocketAddr.{SocketAddr}
use Rattle.stun_judging.specs.declared.algorithm_set.AlgorithmSet.TheVariants.{OnlySha1}
use Rattle.stun_judging.specs.declared.algorithm_set.AlgorithmSet.TheVariants.{OnlySha256, Both}
use Rattle.stun_judging.specs.declared.feature.Feature.TheVariants.{Auto, Disabled, Required}
use Rattle.stun_base.specs.declared.keys.algorithm.IntegrityAlgorithm.TheVariants.{Sha1, Sha256}
use Rattle.stun_client.specs.Judging.{short_term, unsigned}
use Rattle.stun_client_calls.specs.Clients.{Client as ClientSeen}
use Rattle.stun_endpoint.specs.Realm.{feature_for}
use Rattle.stun_endpoint.specs.Responding.{Responding}
use Rattle.stun_endpoint.specs.Settings.{Settings}
use Rattle.stun_handles.specs.Addresses.{socket_address}
use Rattle.stun_numbers.specs.declared.refusal.Refusal.{Refusal}
use Rattle.stun_numbers.specs.declared.refusal.Refusal.TheVariants as r
use Rattle.stun_c_endpoint.specs.ClientsGiven.{ClientGiven, MakesAt, MakesClient, algorithm_given}
use Rattle.stun_c_endpoint.specs.ClientsGiven.{client_given, client_refusal}
use Rattle.stun_c_endpoint.specs.ClientsGiven.{is_half_user, long_term_given, or_else}
use Rattle.stun_c_endpoint.specs.ClientsGiven.{has_user, is_out_of_range as is_client_out_of_range}
use Rattle.stun_c_endpoint.specs.Given.{Given, GivenAlone, LONGEST_NONCE_LIFETIME, Makes, MakesServer}
use Rattle.stun_c_endpoint.specs.Given.{alone_refusal, given_refusal, if_any}
use Rattle.stun_c_endpoint.specs.Given.{is_out_of_range, is_repeated, is_wrong_previous}
use Rattle.stun_c_endpoint.specs.Given.{is_wrong_secret, nonce_seconds, responding_given, server_given}
use Rattle.stun_c_endpoint.specs.SettingLaws.{AreNumbered, IsAlgorithm, IsAloneOf, IsClientOf}
use Rattle.stun_c_endpoint.specs.SettingLaws.{IsDrawn, IsFeature, IsIdentity, IsOr, IsPrevious}
use Rattle.stun_c_endpoint.specs.SettingLaws.{IsServerOf, IsTextPassed}
use Rattle.stun_c_endpoint.specs.declared.client.settings.ClientOptions.{ClientOptions}
use Rattle.stun_c_endpoint.specs.declared.handle.endpoint.Kept.{Kept}
use Rattle.stun_c_endpoint.specs.declared.handle.endpoint.Kept.TheVariants as kind
use Rattle.stun_c_endpoint.proofs.NumberLemmas.{done, no_refusal}

-- ---- tests

made_ok : (why : Option Refusal) (k : Kept) (now : Option Kept) → Makes why k (pos 0) now
    → (why ≡ None) × (now ≡ Some k)
made_ok None k now call = (refl, done None now (Some k) call)
made_ok (Some why) k now call = no_refusal 0 why call.0

neither : (a b : Bool) → (a || b) ≡ false → (a ≡ false) × (b ≡ false)
neither false b is = (refl, is)
neither true b is = cc

both : (a b : Bool) → (a && b) ≡ true → (a ≡ true) × (b ≡ true)
both true b is = (refl, is)
both false b is = cc

not_false : (b : Bool) → not b ≡ false → b ≡ true
not_false true is = refl
not_false false is = cc

none_holds : (x y z : Bool) → (if x then Some r.BadArgument else if y then Some r.NotText
    else if z then Some r.TextTooLong else None) ≡ None
    → (x ≡ false) × (y ≡ false) × (z ≡ false)
none_holds false false false h = (refl, refl, refl)
none_holds false false true h = cc
none_holds false true z h = cc
none_holds true y z h = cc

neither_holds : (y z : Bool) → (if y then Some r.NotText
    else if z then Some r.TextTooLong else None) ≡ None → (y ≡ false) × (z ≡ false)
neither_holds false false h = (refl, refl)
neither_holds false true h = cc
neither_holds true z h = cc

apart : (m n : ℕ) → (m == n) ≡ false → m ≢ n
apart m n other same = true≢false (sym (ap (λ k. k == n) same ∙ itself n) ∙ other)
  where
    itself : (k : ℕ) → (k == k) ≡ true
    itself k = grind arith

differ : (m n : ℕ) → m ≢ n → (m == n) ≡ false
differ m n other = by (m == n) refl
  where
    by : (b : Bool) → (m == n) ≡ b → b ≡ false
    by true is = absurd (other (eqb-true m n is))
    by false is = refl

-- ---- secrets and texts

repeated : (secret : List ℕ) (byte : ℕ) → secret ≡ replicate 32 byte → is_repeated secret ≡ true
repeated secret byte same =
    ap is_repeated same
    ∙ (bytes_eq-Decides (replicate 32 byte) (replicate 32 (slice_index (replicate 32 byte) 0))).1 refl

drawn : (secret : List ℕ) → is_repeated secret ≡ false → IsDrawn secret
drawn secret is byte same = true≢false (sym (repeated secret byte same) ∙ is)

previous : (secret : List ℕ) (o : Option (List ℕ)) → is_wrong_previous secret o ≡ false
    → IsPrevious secret o
previous secret None is = tt
previous secret (Some other) is =
    let one = neither (is_repeated other) (bytes_eq other secret) is in (
      drawn other one.0,
      λ same. true≢false (sym ((bytes_eq-Decides other secret).1 same) ∙ one.1),
    )

text_by : (text : List ℕ) (b : Bool) → (length text == 0) ≡ b
    → IsTextPassed text (if b then None else Some text)
text_by text true is = inl (eqb-true (length text) 0 is, refl)
text_by text false is = inr (apart (length text) 0 is, refl)

text : (bytes : List ℕ) → IsTextPassed bytes (if_any bytes)
text bytes = text_by bytes (length bytes == 0) refl

-- ---- servers

numbered : (n : ℕ) (one two : Bool) → (n == 1) ≡ one → (n == 2) ≡ two → n ≤ 3
    → AreNumbered n (if one then OnlySha1 else if two then OnlySha256 else Both)
numbered n true two is other most = eqb-true n 1 is
numbered n false true is other most = eqb-true n 2 other
numbered zero false false is other most = inl refl
numbered (suc zero) false false is other most = cc
numbered (suc (suc zero)) false false is other most = cc
numbered (suc (suc (suc zero))) false false is other most = inr refl
numbered (suc (suc (suc (suc n)))) false false is other most = absurd (omega (arith, most))

feature_by : (n : ℕ) → n ≢ 2 → feature_for (not (n == 2)) ≡ Auto
feature_by n other = ap (λ b. feature_for (not b)) (differ n 2 other)

lifetime_by : (n : ℕ) → n ≢ 0 → nonce_seconds n ≡ n
lifetime_by n other = ap (λ b. if b then 3600 else n) (differ n 0 other)

is_server : (g : Given) → given_refusal g ≡ None → IsServerOf g (server_given g)
unfolding given_refusal
is_server g h =
    let none = none_holds _ _ _ h in
    let range_and_others = neither (is_out_of_range g) _ none.0 in
    let secret_and_realm = neither (is_wrong_secret g) (length g.realm == 0) range_and_others.1 in
    let algorithms = neither (nat_lt 3 g.algorithms) _ range_and_others.0 in
    let names = neither (nat_lt 2 g.anonymous_username) _ algorithms.1 in
    let times = neither (nat_lt (nonce_seconds g.nonce_seconds) 30)
    (nat_lt LONGEST_NONCE_LIFETIME (nonce_seconds g.nonce_seconds)) names.1 in
    let secrets = neither (is_repeated g.secret) (is_wrong_previous g.secret g.previous_secret)
    secret_and_realm.0 in
    let texts = both (is_utf8 g.realm) (is_utf8 g.software)
    (not_false (is_utf8 g.realm && is_utf8 g.software) none.1) in
    let lengths = neither (nat_lt 763 (length g.realm)) (nat_lt 763 (length g.software)) none.2 in
    record {
      realm = refl;
      algorithms = numbered g.algorithms (g.algorithms == 1) (g.algorithms == 2) refl refl
          (ltb-false 3 g.algorithms algorithms.0);
      hashed = λ other. feature_by g.anonymous_username other;
      never_hashed = λ is. ap (λ n. feature_for (not (n == 2))) is;
      secret = refl;
      drawn = drawn g.secret secrets.0;
      previous = refl;
      other = previous g.secret g.previous_secret secrets.1;
      hour = λ is. ap nonce_seconds is;
      lifetime = λ other. lifetime_by g.nonce_seconds other;
      least = ltb-false (nonce_seconds g.nonce_seconds) 30 times.0;
      most = ltb-false LONGEST_NONCE_LIFETIME (nonce_seconds g.nonce_seconds) times.1;
      software = text g.software;
      answers_binding = refl;
      requires_fingerprint = refl;
      text = texts.0;
      some = apart (length g.realm) 0 secret_and_realm.1;
      short = ltb-false 763 (length g.realm) lengths.0;
    }

is_alone : (g : GivenAlone) → alone_refusal g ≡ None → IsAloneOf g (responding_given g)
is_alone g h =
    let none = neither_holds (not (is_utf8 g.software)) (nat_lt 763 (length g.software)) h in
    record {
      software = text g.software;
      answers_binding = refl;
      requires_fingerprint = refl;
      text = not_false (is_utf8 g.software) none.0;
      short = ltb-false 763 (length g.software) none.1;
    }

pub server_made : (g : Given) (now : Option Kept) → MakesServer g (pos 0) now
    → (s : Settings) × (now ≡ Some (kind.Server s)) × IsServerOf g s
server_made g now call =
    let one = made_ok (given_refusal g) (kind.Server (server_given g)) now call in
    (server_given g, one.1, is_server g one.0)

pub short_term_made : (g : GivenAlone) (now : Option Kept)
    → Makes (alone_refusal g) (kind.ShortTerm (responding_given g)) (pos 0) now
    → (s : Responding) × (now ≡ Some (kind.ShortTerm s)) × IsAloneOf g s
short_term_made g now call =
    let one = made_ok (alone_refusal g) (kind.ShortTerm (responding_given g)) now call in
    (responding_given g, one.1, is_alone g one.0)

pub open_made : (g : GivenAlone) (now : Option Kept)
    → Makes (alone_refusal g) (kind.Open (responding_given g)) (pos 0) now
    → (s : Responding) × (now ≡ Some (kind.Open s)) × IsAloneOf g s
open_made g now call =
    let one = made_ok (alone_refusal g) (kind.Open (responding_given g)) now call in
    (responding_given g, one.1, is_alone g one.0)

-- ---- clients

algorithm_by : (n : ℕ) (b : Bool) → (n == 2) ≡ b → IsAlgorithm n (if b then Sha256 else Sha1)
algorithm_by n true is = eqb-true n 2 is
algorithm_by n false is = apart n 2 is

client_feature : (n : ℕ) (one two : Bool) → (n == 1) ≡ one → (n == 2) ≡ two
    → IsFeature n (if one then Required else if two then Disabled else Auto)
client_feature n true two is other = eqb-true n 1 is
client_feature n false true is other = eqb-true n 2 other
client_feature n false false is other = (apart n 1 is, apart n 2 other)

identity_by : (name password : List ℕ) (o : ClientOptions) (none short : Bool)
    → (length name == 0) ≡ none → (o.credentials == 1) ≡ short
    → (if not none then length password == 0 else not (length password == 0)) ≡ false
    → o.algorithms ≤ 3
    → IsIdentity name password o
    (if not (not none) then unsigned
    else if short then short_term name password (algorithm_given o.algorithms)
    else long_term_given name password o)
identity_by name password o true short is kind half most =
    (eqb-true (length name) 0 is, eqb-true (length password) 0 (not_false (length password == 0) half))
identity_by name password o false true is kind half most = (
  apart (length name) 0 is,
  apart (length password) 0 half,
  eqb-true o.credentials 1 kind,
  refl,
  refl,
  algorithm_by o.algorithms (o.algorithms == 2) refl,
)
identity_by name password o false false is kind half most = (
  apart (length name) 0 is,
  apart (length password) 0 half,
  apart o.credentials 1 kind,
  refl,
  refl,
  refl,
  numbered o.algorithms (o.algorithms == 1) (o.algorithms == 2) refl refl most,
  client_feature o.anonymous_username (o.anonymous_username == 1) (o.anonymous_username == 2) refl
      refl,
)

or_by : (default passed : ℕ) (b : Bool) → (passed == 0) ≡ b
    → IsOr default passed (if b then default else passed)
or_by default passed true is = inl (eqb-true passed 0 is, refl)
or_by default passed false is = inr (apart passed 0 is, refl)

or_is : (default passed : ℕ) → IsOr default passed (or_else passed default)
or_is default passed = or_by default passed (passed == 0) refl

is_client : (g : ClientGiven) (server : SocketAddr) → client_refusal g ≡ None
    → IsClientOf g server (client_given g server)
unfolding client_refusal
is_client g server h =
    let none = none_holds _ _ _ h in
    let ranges = neither (is_client_out_of_range (has_user g.name) g.options)
    (is_half_user g.name g.password || is_repeated g.seed) none.0 in
    let halves = neither (is_half_user g.name g.password) (is_repeated g.seed) ranges.1 in
    let algorithms = neither (nat_lt 3 g.options.algorithms) _ ranges.0 in
    record {
      server_is = refl;
      seed = refl;
      drawn = drawn g.seed halves.1;
      first = refl;
      identity = identity_by g.name g.password g.options (length g.name == 0)
          (g.options.credentials == 1) refl refl halves.0
          (ltb-false 3 g.options.algorithms algorithms.0);
      requires_fingerprint = refl;
      has_fingerprint = refl;
      software = text g.software;
      challenges = or_is 6 g.options.challenges;
      initial = or_is 500000000 g.options.initial;
      longest = or_is 18446744073709551615 g.options.longest;
      transmissions = or_is 7 g.options.transmissions;
      last = or_is 8000000000 g.options.last;
    }

client_at : (g : ClientGiven) (now : Option Kept) (o : Option SocketAddr)
    → MakesAt o g (pos 0) now
    → (server : SocketAddr) × (c : ClientSeen) × (o ≡ Some server)
    × (now ≡ Some (kind.Client c)) × IsClientOf g server c
client_at g now None call = no_refusal 0 r.BadArgument call.0
client_at g now (Some server) call =
    let one = made_ok (client_refusal g) (kind.Client (client_given g server)) now call in
    (server, client_given g server, refl, one.1, is_client g server one.0)

pub client_made : (g : ClientGiven) (now : Option Kept) → MakesClient g (pos 0) now
    → (server : SocketAddr) × (c : ClientSeen) × (socket_address g.server ≡ Some server)
    × (now ≡ Some (kind.Client c)) × IsClientOf g server c
client_made g now call = client_at g now (socket_address g.server) call

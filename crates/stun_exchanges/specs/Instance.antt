-- There are a server, a user and a client that meet the premises: a server with both algorithms
-- that accepts hashed names, and its one user.
use Rattle.std.specs.Prelude.{List, [], ℕ, true, false, None, codes}
use Rattle.std.specs.FinMap as fin
use Rattle.stun_base.specs.Credentials.{NameAndPassword}
use Rattle.stun_base.specs.declared.keys.algorithm.IntegrityAlgorithm.TheVariants.{Sha256}
use Rattle.stun_judging.specs.Registered.{Registered, of_password}
use Rattle.stun_judging.specs.declared.algorithm_set.AlgorithmSet.TheVariants.{Both}
use Rattle.stun_judging.specs.declared.feature.Feature.TheVariants.{Auto}
use Rattle.stun_exchanges.specs.Agreement.{AgreeOn}
use Rattle.stun_client.specs.declared.preferences.Preferences.{Preferences}
use Rattle.stun_endpoint.specs.Settings.{Settings}
use Rattle.stun_exchanges.specs.Exchange.{IsRegisteredUser, IsServer}

abbrev pub example_settings : List ℕ → Settings
example_settings secret = record {
  realm = codes "example.org";
  algorithms = Both;
  feature = Auto;
  secret = secret;
  previous = None;
  lifetime = 600;
  known = [];
  software = None;
  answers_binding = true;
  requires_fingerprint = false;
}

abbrev pub example_user : NameAndPassword
example_user = record { username = codes "alice"; password = codes "wonderland" }

-- a table with this user, for every server of the realm
abbrev pub example_users : Registered
example_users = record {
  realm = codes "example.org";
  algorithms = Both;
  secrets = fin.insert fin.empty example_user.username (of_password example_user.password);
}

abbrev pub example_preferences : Preferences
example_preferences = record { algorithms = Both; anonymous_username = Auto }

-- whatever the secret is, they can meet, with HMAC-SHA256
abbrev pub SidesCanMeet : Type 0
SidesCanMeet =
    (secret : List ℕ) → let s = example_settings secret in
    IsServer s × IsRegisteredUser s example_users example_user
    × AgreeOn example_preferences s.algorithms s.feature Sha256

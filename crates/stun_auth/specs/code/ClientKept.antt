-- What a client stores, as its settings and its state.
use Rattle.std.specs.Prelude.{◌≤◌, length, map, Result, Ok, Err, string_bytes}
use Rattle.std.specs.Option.{IfSome, option_map}
use Rattle.stun_types.specs.Limits.{TEXT_LIMIT}
use Rattle.stun_types.specs.PasswordAlgorithms.{integrity_of}
use Rattle.stun_auth.specs.Client.{Challenge, ClientState, initial, authenticating, authenticated}
use Rattle.stun_auth.specs.ClientSigning.{kept_challenge}
use Rattle.stun_auth.specs.ClientStep.{new_challenge}
use Rattle.stun_judging.specs.Parts.{naming_seen}
use Rattle.stun_auth.specs.declared.client.challenge.ChallengeRefusal.{ChallengeRefusal}
use Rattle.stun_auth.specs.declared.client.challenge.KeptChallenge.{KeptChallenge}
use Rattle.stun_auth.specs.declared.client.challenge.Offer.{Offer}
use Rattle.stun_auth.specs.declared.client.State.{State}
use Rattle.stun_judging.specs.declared.feature.Feature.{Feature}

abbrev pub challenge_seen : {A : Type 0} → KeptChallenge A → Challenge
challenge_seen c = record {
  naming = naming_seen c.naming;
  realm = string_bytes c.realm.text;
  nonce = string_bytes c.nonce.text;
  algorithms = map integrity_of c.algorithms.items;
  algorithm = c.algorithm;
  key = c.key;
}

abbrev pub state_seen : {A : Type 0} → State A → ClientState
state_seen State.Initial = initial
state_seen (State.Authenticating c) = authenticating (challenge_seen c)
state_seen (State.Authenticated c) = authenticated (challenge_seen c)

-- the stored nonce and realm are within their limits
abbrev pub KeepsShortTexts : ClientState → Type 0
KeepsShortTexts state =
    IfSome (kept_challenge state)
    (λ c. (length c.nonce ≤ TEXT_LIMIT) × (length c.realm ≤ TEXT_LIMIT))

-- the challenge that is stored of an offer
abbrev pub offer_kept : Feature → Offer → Challenge
offer_kept feature o =
    new_challenge feature (record { username = o.username.now; password = o.password.now })
    o.realm.now
    o.nonce.now (option_map (map integrity_of) o.list) o.algorithm

abbrev pub offer_seen : Feature → Result Offer ChallengeRefusal → Result Challenge ChallengeRefusal
offer_seen feature (Ok o) = Ok (offer_kept feature o)
offer_seen feature (Err refusal) = Err refusal

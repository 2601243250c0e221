-- A change of one user changes nothing at a server for the other users.
use Rattle.std.proofs.Common.{◌≡◌, ℕ, List, Option, Some, None, Bool}
use Rattle.std.proofs.Common.{refl, sym, ◌∙◌, ap}
use Rattle.std.specs.Prelude.{◌≢◌}
use Rattle.std.specs.Option.{option_and_then, option_map}
use Rattle.std.specs.FinMap as fin
use Rattle.std.specs.declared.net.socket_addr.SocketAddr.{SocketAddr}
use Rattle.stun_base.specs.declared.keys.algorithm.IntegrityAlgorithm.{IntegrityAlgorithm}
use Rattle.stun_judging.specs.Additions.{Page, added_all, after}
use Rattle.stun_judging.specs.Named.{by_name, just}
use Rattle.stun_auth.specs.Handed.{judged_by, named_at, with_users}
use Rattle.stun_judging.specs.OtherUsers.{MeansAnother, with_secret_for}
use Rattle.stun_judging.specs.Reading.{Reading}
use Rattle.stun_judging.specs.Registered.{Registered, RegisteredUser, UserSecret, key_at, key_of}
use Rattle.stun_judging.specs.Verdict.{ClientSeen}
use Rattle.stun_auth.specs.Seen.{PlaceSeen}
use Rattle.stun_auth.specs.ServerSigning.{attributes_for, protected_for, server_signed}
use Rattle.stun_auth.specs.ServerSigning.{signed_at, signed_under_key}
use Rattle.stun_auth.specs.Validation.{ServerSeen, after_validation, answer, sight}
use Rattle.stun_auth.proofs.MeantClients.{after_validation-meant_user, answer-meant_user}
use Rattle.stun_judging.proofs.MeantUser.{with_secret}
use Rattle.stun_judging.proofs.UsersApart.{meant-another, other_secret}

module _ (users : Registered) (name : List ℕ) (secret : Option UserSecret) where
  abbrev changed : Registered
  changed = with_secret_for users name secret

  key-another : (other : List ℕ) (a : IntegrityAlgorithm) → other ≢ name
      → key_at changed other a ≡ key_at users other a
  key-another other a apart =
      ap (λ o. option_and_then (λ (u : RegisteredUser). key_of users u a) (with_secret other o))
      (other_secret users name secret other apart)

  signed-for : (nonce : List ℕ) (client : Option ClientSeen)
      → MeansAnother users name (option_map (λ (c : ClientSeen). by_name c.name) client)
      → (response : Bool) (page : Page)
      → after (added_all (attributes_for response changed nonce client) page)
      (protected_for changed client)
      ≡ after (added_all (attributes_for response users nonce client) page)
      (protected_for users client)
  signed-for nonce None apart response page = refl
  signed-for nonce (Some c) apart response page =
      ap (λ key. after (added_all (attributes_for response users nonce (Some c)) page)
      (signed_under_key c.algorithm key))
      (key-another c.name c.algorithm apart)

  signed-another : (place : Option PlaceSeen) (response : Bool) (page : Page)
      → MeansAnother users name (named_at place)
      → signed_at response changed place page ≡ signed_at response users place page
  signed-another None response page apart = refl
  signed-another (Some p) response page apart = signed-for p.nonce p.client apart response page

module _ (s : ServerSeen) (name : List ℕ) (secret : Option UserSecret) where
  abbrev users_changed : Registered
  users_changed = with_secret_for s.registered name secret

  abbrev server_changed : ServerSeen
  server_changed = with_users s users_changed

  pub answer-another : (from : SocketAddr) (now : ℕ) (words : List ℕ) (r : Reading)
      → MeansAnother s.registered name (judged_by (sight s from) r)
      → answer (sight server_changed from) now words r ≡ answer (sight s from) now words r
  answer-another from now words r apart =
      sym (answer-meant_user server_changed from now words r)
      ∙ ap (λ user. answer (sight (with_users s (just s.registered user)) from) now words r)
      (meant-another s.registered name secret (judged_by (sight s from) r) apart)
      ∙ answer-meant_user s from now words r

  pub after_validation-another : (from : SocketAddr) (now : ℕ) (words : List ℕ) (r : Reading)
      → MeansAnother s.registered name (judged_by (sight s from) r)
      → after_validation server_changed from now words r
      ≡ with_users (after_validation s from now words r) users_changed
  after_validation-another from now words r apart =
      ap (λ left. with_users left users_changed)
      (sym (after_validation-meant_user server_changed from now words r)
      ∙ ap (λ user. after_validation (with_users s (just s.registered user)) from now words r)
      (meant-another s.registered name secret (judged_by (sight s from) r) apart)
      ∙ after_validation-meant_user s from now words r)

  pub server_signed-another : (to : SocketAddr) (response : Bool) (page : Page)
      → MeansAnother s.registered name (named_at (fin.get s.places to))
      → server_signed (sight server_changed to) response page
      ≡ server_signed (sight s to) response page
  server_signed-another to response page apart =
      signed-another s.registered name secret (fin.get s.places to) response page apart

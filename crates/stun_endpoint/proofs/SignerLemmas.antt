-- Who has signed a message, test by test.
use Rattle.std.proofs.Common.{◌≡◌, ◌↔◌, ℕ, List, Bool, true, false, Option, Some, None, refl, ◌∙◌}
use Rattle.std.proofs.Common.{ap, subst, Ok, Err}
use Rattle.std.specs.Prelude.{cond}
use Rattle.std.specs.FinMap as map
use Rattle.std.specs.Option.{is_none, option_and_then}
use Rattle.std.specs.declared.result.Result.{Result}
use Rattle.stun_base.specs.declared.keys.algorithm.IntegrityAlgorithm.{IntegrityAlgorithm}
use Rattle.stun_types.specs.Integrity.{deciding, verified_algorithm, verified_at}
use Rattle.stun_types.specs.Walk.{Member}
use Rattle.stun_endpoint.specs.ShortTerm.{IsSignedBy, Keys, Signer, by_digest, by_key, named_by}
use Rattle.stun_endpoint.specs.ShortTerm.{signer_named, signer_of}
use Rattle.stun_endpoint.specs.declared.received.Refusal.{Refusal}
use Rattle.stun_endpoint.specs.declared.received.Refusal.TheVariants.{BadRequest}

module _ (users : Keys) (bytes : List ℕ) (signer : Signer) where
  of_digest : (name key : List ℕ) → named_by bytes ≡ Ok name → map.get users name ≡ Some key
      → (digest : Option IntegrityAlgorithm) → verified_algorithm bytes key ≡ digest
      → by_digest name key digest ≡ Ok signer → IsSignedBy users bytes signer
  of_digest name key names has None is h = cc
  of_digest name key names has (Some algorithm) is h =
      let one : Signer =
      record { client = record { name = name; algorithm = algorithm }; key = key } in
      let same : one ≡ signer = cc in
      subst (λ s. IsSignedBy users bytes s) same
      (record { name = names; key = has; digest = is })

  of_key : (name : List ℕ) → named_by bytes ≡ Ok name → (key : Option (List ℕ))
      → map.get users name ≡ key → by_key bytes name key ≡ Ok signer
      → IsSignedBy users bytes signer
  of_key name names None has h = cc
  of_key name names (Some key) has h =
      of_digest name key names has (verified_algorithm bytes key) refl h

  of_name : (named : Result (List ℕ) Refusal) → named_by bytes ≡ named
      → signer_named users bytes named ≡ Ok signer → IsSignedBy users bytes signer
  of_name (Err refusal) names h = cc
  of_name (Ok name) names h = of_key name names (map.get users name) refl h

  of_test : (none : Bool)
      → cond none (Err BadRequest) (signer_named users bytes (named_by bytes)) ≡ Ok signer
      → IsSignedBy users bytes signer
  of_test true h = cc
  of_test false h = of_name (named_by bytes) refl h

  -- a digest that verifies is in an attribute that is there
  has_digest : (key : List ℕ) (algorithm : IntegrityAlgorithm) (o : Option Member)
      → option_and_then (verified_at (λ _. key) bytes) o ≡ Some algorithm → is_none o ≡ false
  has_digest key algorithm None h = cc
  has_digest key algorithm (Some m) h = refl

  by_all : IsSignedBy users bytes signer → signer_of users bytes ≡ Ok signer
  by_all s =
      ap (λ b. cond b (Err BadRequest) (signer_named users bytes (named_by bytes)))
      (has_digest signer.key signer.client.algorithm (deciding bytes) s.digest)
      ∙ ap (signer_named users bytes) s.name
      ∙ ap (by_key bytes signer.client.name) s.key
      ∙ ap (by_digest signer.client.name signer.key) s.digest

  pub signed-iff : (signer_of users bytes ≡ Ok signer) ↔ IsSignedBy users bytes signer
  signed-iff = (of_test (is_none (deciding bytes)), by_all)

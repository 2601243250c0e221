-- What each side adds under a short realm, name and nonce is small.
use Rattle.std.proofs.Common.{◌≡◌, ℕ, ◌≤◌, List, length, Bool, true, false, sym, subst, arith}
use Rattle.std.specs.Option.{IfSome}
use Rattle.sha2.proofs.Facts256.{length-sha256}
use Rattle.stun_base.specs.declared.keys.algorithm.IntegrityAlgorithm.{IntegrityAlgorithm}
use Rattle.stun_judging.specs.declared.algorithm_set.AlgorithmSet.{AlgorithmSet}
use Rattle.stun_judging.specs.declared.algorithm_set.AlgorithmSet.TheVariants.{OnlySha1}
use Rattle.stun_judging.specs.declared.algorithm_set.AlgorithmSet.TheVariants.{OnlySha256, Both}
use Rattle.stun_judging.specs.Algorithms.{algorithms_of}
use Rattle.stun_auth.specs.Client.{Challenge}
use Rattle.stun_judging.specs.Naming.{naming_of}
use Rattle.stun_judging.specs.Registered.{Registered}
use Rattle.stun_judging.specs.Signed.{IsSmall, hashed_name, is_listed, nothing, only_if, plain_name}
use Rattle.stun_auth.specs.Signed.{added_under, added_under_key, added_without_client}

listed_small : (set : AlgorithmSet) → length (algorithms_of set) ≤ 2
listed_small OnlySha1 = omega arith
listed_small OnlySha256 = omega arith
listed_small Both = omega arith

kept_small : (set : AlgorithmSet)
    → IfSome (only_if (is_listed (algorithms_of set)) (algorithms_of set)) (λ list. length list ≤ 2)
kept_small OnlySha1 = omega arith
kept_small OnlySha256 = omega arith
kept_small Both = omega arith

plain_small : (hashes : Bool) (name realm : List ℕ) → length name ≤ 513
    → IfSome (plain_name (naming_of hashes name realm)) (λ text. length text ≤ 513)
plain_small true name realm short = tt
plain_small false name realm short = short

hashed_small : (hashes : Bool) (name realm : List ℕ)
    → IfSome (hashed_name (naming_of hashes name realm)) (λ hash. length hash ≡ 32)
hashed_small true name realm = length-sha256 _
hashed_small false name realm = tt

pub nothing_small : IsSmall nothing
nothing_small =
    record {
      texts = record { nonce = tt; realm = tt; username = tt };
      userhash = tt;
      algorithms = tt;
    }

pub request_small : (c : Challenge) (set : AlgorithmSet) (hashes : Bool) (name realm : List ℕ)
    → c.algorithms ≡ algorithms_of set → c.naming ≡ naming_of hashes name realm
    → length c.nonce ≤ 763 → length c.realm ≤ 763 → length name ≤ 513 → IsSmall (added_under true c)
request_small c set hashes name realm listed_is naming_is nonce_short realm_short name_short =
    record {
      texts = record {
        nonce = nonce_short;
        realm = realm_short;
        username =
            subst (λ n. IfSome (plain_name n) (λ text. length text ≤ 513)) (sym naming_is)
            (plain_small hashes name realm name_short);
      };
      userhash =
          subst (λ n. IfSome (hashed_name n) (λ hash. length hash ≡ 32)) (sym naming_is)
          (hashed_small hashes name realm);
      algorithms =
          subst (λ l. IfSome (only_if (is_listed l) l) (λ list. length list ≤ 2)) (sym listed_is)
          (kept_small set);
    }

pub offer_small : (users : Registered) (nonce : List ℕ) → length nonce ≤ 763
    → length users.realm ≤ 763 → IsSmall (added_without_client true users nonce)
offer_small users nonce nonce_short realm_short =
    record {
      texts = record { nonce = nonce_short; realm = realm_short; username = tt };
      userhash = tt;
      algorithms = listed_small users.algorithms;
    }

pub known_small : (users : Registered) (nonce : List ℕ) (a : IntegrityAlgorithm) (key : List ℕ)
    → length nonce ≤ 763 → length users.realm ≤ 763
    → IsSmall (added_under_key true users nonce a key)
known_small users nonce a key nonce_short realm_short =
    record {
      texts = record { nonce = nonce_short; realm = realm_short; username = tt };
      userhash = tt;
      algorithms = tt;
    }

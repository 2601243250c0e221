-- What a client chooses from the list of a server is the strongest algorithm of both.
use Rattle.std.proofs.Common.{◌≡◌, ℕ, List, Option, Some, None, Bool}
use Rattle.std.proofs.Common.{true, false, refl, sym, ◌∙◌, ap, Ok, Err}
use Rattle.std.specs.Prelude.{cond, not, ◌&&◌, ◌||◌}
use Rattle.std.specs.declared.result.Result.{Result}
use Rattle.stun_base.specs.declared.keys.algorithm.IntegrityAlgorithm.{IntegrityAlgorithm}
use Rattle.stun_base.specs.declared.keys.algorithm.IntegrityAlgorithm.TheVariants.{Sha1, Sha256}
use Rattle.stun_judging.specs.declared.algorithm_set.AlgorithmSet.{AlgorithmSet}
use Rattle.stun_judging.specs.declared.algorithm_set.AlgorithmSet.TheVariants.{OnlySha1}
use Rattle.stun_judging.specs.declared.algorithm_set.AlgorithmSet.TheVariants.{OnlySha256, Both}
use Rattle.stun_judging.specs.declared.feature.Feature.{Feature}
use Rattle.stun_judging.specs.Algorithms.{contains, has, algorithms_of}
use Rattle.stun_auth.specs.ClientStep.{choose, choose_by_list, or_unsupported, unless_missing}
use Rattle.stun_judging.specs.Feature.{is_required, is_possible}
use Rattle.stun_auth.specs.code.ClientStep.{ClientRefusal, unsupported_feature}
use Rattle.stun_judging.specs.Nonces.{asks_for_algorithms, asks_for_userhash, nonce_of}
use Rattle.stun_proto.specs.Best.{best}
use Rattle.stun_proto.proofs.meetings.Signed.{NoncesAsk}
use Rattle.stun_proto.proofs.meetings.Strongest.{best-by_cases, best_is, common, has_from_Contains}

unless_or : (missing : Bool) (o : Option IntegrityAlgorithm)
    → unless_missing missing (or_unsupported o) ≡ or_unsupported (cond missing None o)
unless_or true None = refl
unless_or true (Some a) = refl
unless_or false None = refl
unless_or false (Some a) = refl

of_both : (h1 h256 : Bool)
    → cond h256 (Some Sha256) (cond h1 (Some Sha1) None) ≡ common h1 h256 true true
of_both true true = refl
of_both false true = refl
of_both true false = refl
of_both false false = refl

of_sha256 : (h1 h256 : Bool) → cond h256 (Some Sha256) None ≡ common h1 h256 false true
of_sha256 true true = refl
of_sha256 false true = refl
of_sha256 true false = refl
of_sha256 false false = refl

of_sha1 : (h1 h256 : Bool) → cond h1 (Some Sha1) None ≡ common h1 h256 true false
of_sha1 true true = refl
of_sha1 false true = refl
of_sha1 true false = refl
of_sha1 false false = refl

without_bits : (required h1 h256 : Bool)
    → cond required (Err unsupported_feature) (cond h1 (Ok Sha1) (Err unsupported_feature))
    ≡ or_unsupported (cond (required && true) None (common h1 h256 true false))
without_bits true h1 h256 = refl
without_bits false true true = refl
without_bits false true false = refl
without_bits false false true = refl
without_bits false false false = refl

-- the choice by what a nonce asks for
abbrev by_nonce : List IntegrityAlgorithm → Bool → Bool → Bool → Bool → List IntegrityAlgorithm
    → Result IntegrityAlgorithm ClientRefusal
by_nonce supported required bits hashes asks list =
    cond bits (unless_missing (required && not hashes) (choose_by_list supported asks (Some list)))
    (cond required (Err unsupported_feature)
    (cond (has Sha1 supported) (Ok Sha1) (Err unsupported_feature)))

by_cases : (supported : List IntegrityAlgorithm) (required possible : Bool) (set : AlgorithmSet)
    → by_nonce supported required (contains Sha256 set || possible) possible (contains Sha256 set)
    (algorithms_of set)
    ≡ or_unsupported
    (cond (required && not possible) None
    (common (has Sha1 supported) (has Sha256 supported) (contains Sha1 set) (contains Sha256 set)))
by_cases supported required possible Both =
    unless_or (required && not possible) _
    ∙ ap (λ o. or_unsupported (cond (required && not possible) None o))
    (of_both (has Sha1 supported) (has Sha256 supported))
by_cases supported required possible OnlySha256 =
    unless_or (required && not possible) _
    ∙ ap (λ o. or_unsupported (cond (required && not possible) None o))
    (of_sha256 (has Sha1 supported) (has Sha256 supported))
by_cases supported required true OnlySha1 =
    unless_or (required && false) _
    ∙ ap (λ o. or_unsupported (cond (required && false) None o))
    (of_sha1 (has Sha1 supported) (has Sha256 supported))
by_cases supported required false OnlySha1 =
    without_bits required (has Sha1 supported) (has Sha256 supported)

pub choose-best : NoncesAsk
    → (supported : List IntegrityAlgorithm) (set : AlgorithmSet) (wanted given : Feature)
    (words : List ℕ)
    → choose supported wanted (nonce_of set given words) (Some (algorithms_of set))
    ≡ or_unsupported (best supported (algorithms_of set) wanted given)
choose-best say supported set wanted given words =
    let nonce = nonce_of set given words in
    ap (λ b. by_nonce supported (is_required wanted) b (asks_for_userhash nonce)
    (asks_for_algorithms nonce) (algorithms_of set)) (say.there set given words)
    ∙ ap (λ b. by_nonce supported (is_required wanted) (contains Sha256 set || is_possible given) b
    (asks_for_algorithms nonce) (algorithms_of set)) (say.userhash set given words)
    ∙ ap (λ b. by_nonce supported (is_required wanted) (contains Sha256 set || is_possible given)
    (is_possible given) b (algorithms_of set)) (say.algorithms set given words)
    ∙ by_cases supported (is_required wanted) (is_possible given) set
    ∙ ap or_unsupported (sym (best-by_cases supported (algorithms_of set) wanted given))

-- the strongest of both is one of the server's
pub best-had : (supported : List IntegrityAlgorithm) (set : AlgorithmSet) (wanted given : Feature)
    (a : IntegrityAlgorithm)
    → best supported (algorithms_of set) wanted given ≡ Some a → contains a set ≡ true
best-had supported set wanted given a h =
    let strongest = (best_is supported (algorithms_of set) wanted given).some a in
    has_from_Contains a (algorithms_of set) (strongest.0 h).1.shared.1

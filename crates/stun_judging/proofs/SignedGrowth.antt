-- How much signing adds at most.
use Rattle.std.proofs.Common.{◌≡◌, ℕ, ◌+◌, ◌*◌, ◌≤◌, List, [], ◌∷◌, length, refl, arith}
use Rattle.std.specs.Prelude.{Option, Some, None}
use Rattle.std.specs.Option.{IfSome}
use Rattle.std.proofs.lemmas.List.Sums.{sum_by-cons}
use Rattle.stun_base.specs.Attributes.{NONCE, PASSWORD_ALGORITHM, PASSWORD_ALGORITHMS}
use Rattle.stun_base.specs.Attributes.{REALM, USERHASH, USERNAME}
use Rattle.stun_base.specs.declared.keys.algorithm.IntegrityAlgorithm.{IntegrityAlgorithm}
use Rattle.stun_base.specs.declared.keys.algorithm.IntegrityAlgorithm.TheVariants.{Sha1, Sha256}
use Rattle.stun_base.specs.declared.wire.message_type.MessageClass.{MessageClass}
use Rattle.stun_types.specs.Attribute.{attribute_length}
use Rattle.stun_judging.specs.Additions.{Addition, attribute, integrity, growth, growth_of}
use Rattle.stun_judging.specs.Joined.{Protection}
use Rattle.stun_judging.specs.Signed.{Added, HasRoomFor, IsBuilt, IsSmall, additions_of, if_there}
use Rattle.stun_judging.proofs.SignedReading.{entry, from_algorithm, from_algorithms}
use Rattle.stun_judging.proofs.SignedReading.{from_integrity, from_realm, from_userhash}
use Rattle.stun_judging.proofs.SignedReading.{from_username, listing, text, typed_as}

-- one attribute more
more : {A : Type 0} (own : ℕ) (value : A → List ℕ) (o : Option A) (others : List Addition)
    (most : ℕ) → IfSome o (λ x. attribute_length (length (value x)) ≤ most)
    → growth (if_there (λ x. attribute (typed_as own (value x))) o others) ≤ most + growth others
more own value None others most fits = omega arith
more own value (Some x) others most fits =
    let sum = sum_by-cons growth_of (attribute (typed_as own (value x))) others in
    omega (arith, fits, sum)

-- each attribute at its longest
text_takes : (o : Option (List ℕ)) (most : ℕ) → IfSome o (λ bytes. length bytes ≤ most)
    → IfSome o (λ x. attribute_length (length (text x)) ≤ attribute_length most)
text_takes None most fits = tt
text_takes (Some bytes) most fits = omega (arith, fits)

hash_takes : (o : Option (List ℕ)) → IfSome o (λ hash. length hash ≡ 32)
    → IfSome o (λ x. attribute_length (length (text x)) ≤ 36)
hash_takes None whole = tt
hash_takes (Some hash) whole = omega (arith, whole)

length-entry : (a : IntegrityAlgorithm) → length (entry a) ≡ 4
length-entry Sha1 = refl
length-entry Sha256 = refl

length-listing : (list : List IntegrityAlgorithm) → length (listing list) ≡ 4 * length list
length-listing [] = refl
length-listing (Sha1 ∷ list) = omega (arith, length-listing list)
length-listing (Sha256 ∷ list) = omega (arith, length-listing list)

list_takes : (o : Option (List IntegrityAlgorithm)) → IfSome o (λ list. length list ≤ 2)
    → IfSome o (λ x. attribute_length (length (listing x)) ≤ 12)
list_takes None few = tt
list_takes (Some list) few = omega (arith, few, length-listing list)

entry_takes : (o : Option IntegrityAlgorithm)
    → IfSome o (λ x. attribute_length (length (entry x)) ≤ 8)
entry_takes None = tt
entry_takes (Some a) = omega (arith, length-entry a)

digest_of : (algorithm : IntegrityAlgorithm) (key : List ℕ)
    → growth (integrity algorithm key ∷ []) ≤ 36
digest_of Sha1 key = omega arith
digest_of Sha256 key = omega arith

digest_takes : (o : Option Protection)
    → growth (if_there (λ (p : Protection). integrity p.algorithm p.key) o []) ≤ 36
digest_takes None = omega arith
digest_takes (Some p) = digest_of p.algorithm p.key

-- all of them
pub growth-most : (a : Added) → IsSmall a → growth (additions_of a) ≤ 2148
growth-most a short =
    let nonce =
    more NONCE text a.nonce (from_realm a) 768 (text_takes a.nonce 763 short.texts.nonce) in
    let realm =
    more REALM text a.realm (from_username a) 768 (text_takes a.realm 763 short.texts.realm) in
    let username =
    more USERNAME text a.username (from_userhash a) 520
    (text_takes a.username 513 short.texts.username) in
    let userhash =
    more USERHASH text a.userhash (from_algorithms a) 36 (hash_takes a.userhash short.userhash) in
    let algorithms =
    more PASSWORD_ALGORITHMS listing a.algorithms (from_algorithm a) 12
    (list_takes a.algorithms short.algorithms) in
    let algorithm =
    more PASSWORD_ALGORITHM entry a.algorithm (from_integrity a) 8 (entry_takes a.algorithm) in
    let digest = digest_takes a.integrity in
    omega (arith, nonce, realm, username, userhash, algorithms, algorithm, digest)

-- a message that was built has a field for all of them
pub room-enough : (a : Added) (message : List ℕ) (room : ℕ) (class : MessageClass)
    (error : Option ℕ) → IsBuilt message class error → IsSmall a → 2148 ≤ room
    → HasRoomFor a message room
room-enough a message room class error built short enough =
    let most = growth-most a short in
    record { field = omega (arith, most, built.short); enough = omega (arith, most, enough) }

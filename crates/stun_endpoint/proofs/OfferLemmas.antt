-- The nonces of a server ask for a choice of algorithms if and only if it supports HMAC-SHA256, and
-- so its error responses offer its algorithms.
use Rattle.std.proofs.Common.{◌≡◌, ℕ, List, [], ◌∷◌, ◌++◌, ◌-◌, map, Option, Some, None}
use Rattle.std.proofs.Common.{Bool, true, false, refl, sym, ◌∙◌, ap, Ok, Err}
use Rattle.std.specs.Prelude.{cond, IfOk, Result}
use Rattle.std.specs.declared.net.socket_addr.SocketAddr.{SocketAddr}
use Rattle.stun_base.specs.declared.keys.algorithm.IntegrityAlgorithm.TheVariants.{Sha256}
use Rattle.stun_base.specs.declared.wire.error.StunWriteError.{StunWriteError}
use Rattle.stun_types.specs.Attribute.{TypedValue}
use Rattle.stun_judging.specs.AddedAttribute as added
use Rattle.stun_judging.specs.Additions.{Addition, Page, added_all, added_one, addition_refusal}
use Rattle.stun_judging.specs.Additions.{after, UnlessMemory, attribute, growth_of, page_in}
use Rattle.stun_judging.specs.Additions.{page_unless_refused, with_addition, written_page}
use Rattle.stun_judging.specs.Algorithms.{algorithms_of, contains}
use Rattle.stun_judging.specs.Nonces.{asks_for_algorithms, letter}
use Rattle.stun_judging.specs.Registered.{Registered}
use Rattle.stun_judging.specs.Challenge.{challenge_under}
use Rattle.stun_judging.proofs.MarkedNonces.{marked_asks_for_algorithms}
use Rattle.stun_endpoint.specs.Answers.{offered, with_attributes}
use Rattle.stun_endpoint.specs.Nonces.{nonce_in, words_of}
use Rattle.stun_endpoint.specs.Settings.{Settings}

pub nonce_asks : (s : Settings) (secret : List ℕ) (from : SocketAddr) (epoch : ℕ) (nonce : List ℕ)
    → nonce ≡ nonce_in s secret from epoch
    → asks_for_algorithms nonce ≡ contains Sha256 s.algorithms
nonce_asks s secret from epoch nonce is =
    ap asks_for_algorithms is
    ∙ marked_asks_for_algorithms s.algorithms s.feature
    (map letter (words_of s.algorithms secret from epoch))

-- ---- attributes that are added one after another

added_or_refused : (refused : Option StunWriteError) (next done : Page) (others : List Addition)
    (bytes : List ℕ) → (added_all others next ≡ Ok done → done.bytes ≡ bytes)
    → after (page_unless_refused refused next) (added_all others) ≡ Ok done → done.bytes ≡ bytes
added_or_refused None next done others bytes rest is = rest is
added_or_refused (Some error) next done others bytes rest is = cc

attributes_added : (attributes : List TypedValue) (page done : Page)
    → added_all (map attribute attributes) page ≡ Ok done
    → done.bytes ≡ with_attributes page.bytes attributes
unfolding added_one
attributes_added [] page done h =
    let same : page ≡ done = cc in sym (ap (λ (p : Page). p.bytes) same)
attributes_added (a ∷ others) page done h =
    let next : Page = record {
      bytes = with_addition (attribute a) page.bytes;
      room = page.room - growth_of (attribute a);
    } in
    added_or_refused (addition_refusal (attribute a) page) next done (map attribute others)
    (with_attributes next.bytes others) (attributes_added others next done) h

-- what a challenge adds, as attributes
abbrev pub challenge_attributes : Registered → List ℕ → List TypedValue
challenge_attributes users nonce =
    added.nonce nonce ∷ added.realm users.realm ∷ offered users.algorithms

pub challenge_is : (users : Registered) (nonce : List ℕ)
    → asks_for_algorithms nonce ≡ contains Sha256 users.algorithms
    → challenge_under users nonce ≡ map attribute (challenge_attributes users nonce)
challenge_is users nonce asks =
    ap (λ b. attribute (added.nonce nonce) ∷ attribute (added.realm users.realm)
    ∷ cond b (attribute (added.password_algorithms (algorithms_of users.algorithms)) ∷ []) []) asks
    ∙ by (contains Sha256 users.algorithms)
  where
    by : (b : Bool)
        → attribute (added.nonce nonce) ∷ attribute (added.realm users.realm)
        ∷ cond b (attribute (added.password_algorithms (algorithms_of users.algorithms)) ∷ []) []
        ≡ map attribute (added.nonce nonce ∷ added.realm users.realm
        ∷ cond b (added.password_algorithms (algorithms_of users.algorithms) ∷ []) [])
    by true = refl
    by false = refl

-- a challenge that is added
pub challenged : (users : Registered) (nonce : List ℕ) (page done : Page)
    → asks_for_algorithms nonce ≡ contains Sha256 users.algorithms
    → Ok done ≡ added_all (challenge_under users nonce) page
    → done.bytes ≡ with_attributes page.bytes (challenge_attributes users nonce)
challenged users nonce page done asks is =
    attributes_added (challenge_attributes users nonce) page done
    (ap (λ list. added_all list page) (sym (challenge_is users nonce asks)) ∙ sym is)

-- what the call that adds it says
pub challenged_in : {W : Type 0} (M : Type 0) (users : Registered) (nonce : List ℕ) (page : Page)
    (bytes : W → List ℕ) (room : W → ℕ) (result : Result W StunWriteError)
    → asks_for_algorithms nonce ≡ contains Sha256 users.algorithms
    → UnlessMemory result (written_page bytes room result
    ≡ added_all (challenge_under users nonce) page) M
    → IfOk result (λ done. bytes done
    ≡ with_attributes page.bytes (challenge_attributes users nonce))
challenged_in M users nonce page bytes room (Ok done) asks is =
    challenged users nonce page (page_in bytes room done) asks is
challenged_in M users nonce page bytes room (Err error) asks is = tt

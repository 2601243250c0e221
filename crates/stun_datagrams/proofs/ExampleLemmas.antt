-- A request that a registered user signs is accepted.
use Rattle.std.proofs.Common.{◌≡◌, ◌≤◌, ◌<◌, ◌^◌, ◌+◌, inl, ℕ, zero, suc}
use Rattle.std.proofs.lemmas.List.{length-take}
use Rattle.std.proofs.Common.{List, [], ◌++◌}
use Rattle.std.proofs.Common.{Option, Some, None, true, false, refl, sym, ◌∙◌, ap, arith, Ok}
use Rattle.std.proofs.Common.{length, map}
use Rattle.std.specs.Prelude.{cond, not, take, ◌&&◌, ◌||◌, IsUtf8}
use Rattle.std.specs.List.{AllByRecursion}
use Rattle.std.specs.Option.{is_some, option_map}
use Rattle.std.specs.declared.net.socket_addr.SocketAddr.{SocketAddr}
use Rattle.stun_base.specs.Attributes.{FINGERPRINT}
use Rattle.stun_base.specs.Credentials.{NameAndPassword}
use Rattle.stun_base.specs.Keys.{long_term_key}
use Rattle.stun_base.specs.MessageType.{class_in, class_of, type_number}
use Rattle.stun_base.specs.declared.keys.algorithm.IntegrityAlgorithm.TheVariants.{Sha1, Sha256}
use Rattle.stun_base.specs.declared.wire.message_type.MessageClass.{MessageClass}
use Rattle.stun_base.specs.declared.wire.message_type.MessageClass.TheVariants as Class
use Rattle.stun_types.specs.Grammar.{spelled_message}
use Rattle.stun_types.specs.Integrity.{first_of}
use Rattle.stun_types.specs.Visible.{visible}
use Rattle.stun_types.specs.Walk.{Member, walk_up_to}
use Rattle.stun_types.specs.Writing.{IsOpen}
use Rattle.stun_types.proofs.MessageLemmas.{refusal-none}
use Rattle.stun_judging.specs.declared.algorithm_set.AlgorithmSet.{AlgorithmSet}
use Rattle.stun_judging.specs.declared.algorithm_set.AlgorithmSet.TheVariants.{OnlySha1}
use Rattle.stun_judging.specs.declared.algorithm_set.AlgorithmSet.TheVariants.{OnlySha256, Both}
use Rattle.stun_judging.specs.Additions.{Addition, Page, added_all, page_of}
use Rattle.stun_judging.specs.Algorithms.{algorithms_of, contains}
use Rattle.stun_judging.specs.Joined.{HasAdded, IsTyped, added_members}
use Rattle.stun_judging.specs.Nonces.{letter}
use Rattle.stun_judging.specs.Reading.{Reading, error_code, reading_of}
use Rattle.stun_judging.specs.Registered.{UserSecret, of_password}
use Rattle.stun_judging.specs.Verdict.{ClientSeen}
use Rattle.stun_judging.specs.Verdict.{IsAccepted, IsAcceptedOffering, agreement, choice}
use Rattle.stun_judging.specs.Verdict.{is_unoffered, named_by, named_user}
use Rattle.stun_judging.specs.Signed.{Added, HasRoomFor, IsBuilt, IsSmall, IsText, IsUnsigned}
use Rattle.stun_judging.specs.Signed.{IsWithinLimits, ReadsAs, additions_of}
use Rattle.stun_judging.proofs.SignedReading.{typed-additions}
use Rattle.stun_extra.specs.Fingerprint.{fingerprint_if, fingerprint_in}
use Rattle.stun_extra.specs.declared.fingerprint.Fingerprint.TheVariants.{Absent}
use Rattle.stun_endpoint.specs.Judged.{IsAcceptedUnder}
use Rattle.stun_endpoint.specs.Nonces.{current_nonce, epoch_of, front_of, nonce_in, words_of}
use Rattle.stun_endpoint.specs.Responding.{drop_reason, fault_of, is_undropped_request}
use Rattle.stun_endpoint.specs.Responding.{no_message}
use Rattle.stun_endpoint.specs.Lookups.{users_with}
use Rattle.stun_endpoint.specs.Settings.{Settings}
use Rattle.stun_datagrams.specs.Events.{UserSecrets, realm_with}
use Rattle.stun_datagrams.specs.Example.{IsUserOf, SignedRequestsAreAccepted, added_by_user}
use Rattle.stun_datagrams.specs.Example.{plain_binding_request, strongest_in}
use Rattle.stun_endpoint.proofs.OfferLemmas.{nonce_asks}
use Rattle.stun_datagrams.proofs.OutcomeLemmas.{undropped_is}
use Rattle.stun_datagrams.proofs.EventLemmas.{class_read}

abbrev pub BareAreBuilt : Type 0
BareAreBuilt =
    (message_type transaction_id : ℕ) → message_type < 2 ^ 14
    → IsBuilt (spelled_message message_type transaction_id []) (class_of message_type) None

-- what the laws of `stun_judging` and `stun_endpoint` say of signed messages and of nonces
pub record SigningLaws : Type 0 where
  pub built : BareAreBuilt
  pub read : (a : Added) (message : List ℕ) (room : ℕ) (page : Page) → IsUnsigned message
      → IsText a → added_all (additions_of a) (record { bytes = message; room = room }) ≡ Ok page
      → ReadsAs (class_in message) (error_code message) a (reading_of page.bytes)
  pub added : (list : List Addition) (message : List ℕ) (room : ℕ) (page : Page) → IsOpen message
      → AllByRecursion IsTyped list
      → added_all list (record { bytes = message; room = room }) ≡ Ok page
      → HasAdded message list page.bytes
  pub room : (a : Added) (message : List ℕ) (room : ℕ) (class : MessageClass) (error : Option ℕ)
      → IsBuilt message class error → IsSmall a → 2148 ≤ room → HasRoomFor a message room
  pub signs : (a : Added) (message : List ℕ) (room : ℕ) → IsUnsigned message → IsWithinLimits a
      → HasRoomFor a message room
      → (page : Page)
      × (added_all (additions_of a) (record { bytes = message; room = room }) ≡ Ok page)
  pub text : (s : Settings) (words : List ℕ)
      → IsUtf8 (front_of s.algorithms s.feature ++ map letter words)
  pub short : (s : Settings) (words : List ℕ)
      → length (front_of s.algorithms s.feature ++ map letter words) ≤ 13 + length words

-- a nonce is made of at most sixteen numbers
sixteen : (list : List ℕ) → length (take 16 list) ≤ 16
sixteen list = omega (arith, length-take 16 list)

-- ---- by the supported algorithms

-- both sides mean the strongest
agreed : (set : AlgorithmSet) (nonce realm : List ℕ) (user : NameAndPassword)
    → let a = added_by_user set nonce realm user in
    cond (contains Sha256 set) (choice a.algorithms a.algorithm (algorithms_of set)) (Some Sha1)
    ≡ Some (strongest_in set)
agreed OnlySha1 nonce realm user = refl
agreed OnlySha256 nonce realm user = refl
agreed Both nonce realm user = refl

-- the user adds a list and a choice only if the server offers a list
offered_only : (set : AlgorithmSet) (nonce realm : List ℕ) (user : NameAndPassword)
    → let a = added_by_user set nonce realm user in
    (not (contains Sha256 set) && (is_some a.algorithms || is_some a.algorithm)) ≡ false
offered_only OnlySha1 nonce realm user = refl
offered_only OnlySha256 nonce realm user = refl
offered_only Both nonce realm user = refl

supported_is : (set : AlgorithmSet) → contains (strongest_in set) set ≡ true
supported_is OnlySha1 = refl
supported_is OnlySha256 = refl
supported_is Both = refl

small : (set : AlgorithmSet) (nonce realm : List ℕ) (user : NameAndPassword)
    → IsWithinLimits (added_by_user set nonce realm user)
    → IsSmall (added_by_user set nonce realm user)
small OnlySha1 nonce realm user texts =
    record { texts = texts; userhash = tt; algorithms = tt }
small OnlySha256 nonce realm user texts =
    record { texts = texts; userhash = tt; algorithms = omega arith }
small Both nonce realm user texts =
    record { texts = texts; userhash = tt; algorithms = omega arith }

-- none of the additions is a FINGERPRINT
no_fingerprint : (set : AlgorithmSet) (nonce realm : List ℕ) (user : NameAndPassword)
    (message : List ℕ)
    → first_of FINGERPRINT
    (added_members message (additions_of (added_by_user set nonce realm user))) ≡ None
no_fingerprint OnlySha1 nonce realm user message = refl
no_fingerprint OnlySha256 nonce realm user message = refl
no_fingerprint Both nonce realm user message = refl

-- ---- the request

request_shows : visible plain_binding_request ≡ []
unfolding plain_binding_request visible walk_up_to
request_shows = refl

request_class : class_in plain_binding_request ≡ Class.Request
unfolding plain_binding_request
request_class = refl

request_built : BareAreBuilt → IsBuilt plain_binding_request Class.Request None
unfolding plain_binding_request
request_built law = law (type_number Class.Request 1) 7 (omega arith)

module _ (laws : SigningLaws) (s : Settings) (users : UserSecrets) (user : NameAndPassword)
    (from : SocketAddr) (now : ℕ) (known : IsUserOf s users user)
    (plain : s.requires_fingerprint ≡ false) where
  abbrev words : List ℕ
  words = words_of s.algorithms s.secret from (epoch_of s now)

  abbrev nonce : List ℕ
  nonce = current_nonce s from now

  abbrev a : Added
  a = added_by_user s.algorithms nonce s.realm user

  abbrev built : IsBuilt plain_binding_request Class.Request None
  built = request_built laws.built

  within : IsWithinLimits a
  within = record {
    nonce = omega (arith, laws.short s words, sixteen_words);
    realm = known.realm_fits;
    username = known.name_fits;
  }
    where
      sixteen_words : length words ≤ 16
      sixteen_words = sixteen _

  texts : IsText a
  texts = record {
    nonce = laws.text s words;
    realm = known.realm_text;
    username = known.name_text;
    userhash = tt;
  }

  signed : (page : Page) × (added_all (additions_of a) (page_of plain_binding_request) ≡ Ok page)
  signed =
      let room = (page_of plain_binding_request).room in
      laws.signs a plain_binding_request room built.unsigned within
      (laws.room a plain_binding_request room Class.Request None built
      (small s.algorithms nonce s.realm user within) (omega (arith, built.short)))

  abbrev page : Page
  page = signed.0

  abbrev r : Reading
  r = reading_of page.bytes

  abbrev client : ClientSeen
  client = record { name = user.username; algorithm = strongest_in s.algorithms }

  reads : ReadsAs (class_in plain_binding_request) (error_code plain_binding_request) a r
  reads =
      laws.read a plain_binding_request (page_of plain_binding_request).room page built.unsigned
      texts signed.1

  has_added : HasAdded plain_binding_request (additions_of a) page.bytes
  has_added =
      laws.added (additions_of a) plain_binding_request (page_of plain_binding_request).room page
      built.unsigned.is_open (typed-additions a) signed.1

  named : named_user (users_with s users) s.feature r
      ≡ Some (record { username = user.username; secret = of_password user.password })
  named =
      ap (λ h. named_by h r.username (users_with s users) s.feature) reads.userhash_is
      ∙ ap (λ n. named_by None n (users_with s users) s.feature) reads.username_is
      ∙ ap (option_map
      (λ (secret : UserSecret). record { username = user.username; secret = secret }))
      known.registered

  agreed_here : agreement r nonce (Some s.algorithms) ≡ Some (strongest_in s.algorithms)
  agreed_here =
      ap (λ b. cond b (choice r.algorithms r.algorithm (algorithms_of s.algorithms)) (Some Sha1))
      (nonce_asks s s.secret from (epoch_of s now) nonce refl)
      ∙ ap (λ l. cond (contains Sha256 s.algorithms)
      (choice l r.algorithm (algorithms_of s.algorithms)) (Some Sha1)) reads.algorithms_are
      ∙ ap (λ c. cond (contains Sha256 s.algorithms)
      (choice a.algorithms c (algorithms_of s.algorithms)) (Some Sha1)) reads.algorithm_is
      ∙ agreed s.algorithms nonce s.realm user

  offered_here : is_unoffered s.algorithms r ≡ false
  offered_here =
      ap (λ l. not (contains Sha256 s.algorithms) && (is_some l || is_some r.algorithm))
      reads.algorithms_are
      ∙ ap (λ c. not (contains Sha256 s.algorithms) && (is_some a.algorithms || is_some c))
      reads.algorithm_is
      ∙ offered_only s.algorithms nonce s.realm user

  accepted_as_all : IsAccepted (users_with s users) s.feature nonce (Some s.algorithms) r client
  accepted_as_all = record {
    secret = of_password user.password;
    key = long_term_key (strongest_in s.algorithms) user.username s.realm user.password;
    realm = ap is_some reads.realm_is;
    nonce = reads.nonce_is;
    algorithm = agreed_here;
    named = named;
    present = known.registered;
    supported = supported_is s.algorithms;
    key_is = refl;
    digest = ap is_some (reads.digest_verifies (record {
      algorithm = strongest_in s.algorithms;
      key = long_term_key (strongest_in s.algorithms) user.username s.realm user.password;
    }) refl);
  }

  accepted : IsAcceptedOffering (users_with s users) s.feature nonce s.algorithms r client
  accepted = record { offered = offered_here; accepted = accepted_as_all }

  -- under the nonce of the epoch
  under : (e : ℕ)
      → IsAcceptedOffering (users_with s users) s.feature (nonce_in s s.secret from e) s.algorithms
      r client
      → IsAcceptedUnder s (realm_with s users) s.secret from e r client
  under zero one = one
  under (suc e) one = inl one

  undropped : drop_reason s.requires_fingerprint page.bytes ≡ None
  undropped =
      ap (λ o. cond (is_some o) (Some (no_message page.bytes))
      (fault_of s.requires_fingerprint (fingerprint_in page.bytes)))
      (refusal-none page.bytes has_added.is_message)
      ∙ ap (λ (members : List Member). fault_of s.requires_fingerprint (fingerprint_if page.bytes
      (first_of FINGERPRINT members)))
      (has_added.visible_is
      ∙ ap (λ (shown : List Member). shown ++ added_members plain_binding_request (additions_of a))
      request_shows)
      ∙ ap (λ (m : Option Member). fault_of s.requires_fingerprint (fingerprint_if page.bytes m))
      (no_fingerprint s.algorithms nonce s.realm user plain_binding_request)
      ∙ ap (λ required. fault_of required Absent) plain

  kept : is_undropped_request s.requires_fingerprint page.bytes ≡ true
  kept =
      undropped_is (drop_reason s.requires_fingerprint page.bytes) (class_in page.bytes) undropped
      (sym (class_read page.bytes) ∙ reads.class_is ∙ request_class)

pub signed_are_accepted : SigningLaws → SignedRequestsAreAccepted
signed_are_accepted laws s users user from now known plain = (
  page laws s users user from now known plain,
  (signed laws s users user from now known plain).1,
  (
    kept laws s users user from now known plain,
    inl (under laws s users user from now known plain (epoch_of s now)
        (accepted laws s users user from now known plain)),
  ),
)

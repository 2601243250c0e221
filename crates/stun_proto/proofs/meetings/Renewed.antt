-- After one error of code 438 a request is accepted under the new nonce.
use Rattle.std.proofs.Common.{◌≡◌, ℕ, List, Option, Some, None, Bool, true}
use Rattle.std.proofs.Common.{false, refl, sym, ◌∙◌, ap, subst, Ok, Err}
use Rattle.std.specs.Prelude.{cond, not, ◌&&◌, IsUtf8}
use Rattle.std.specs.Option.{is_none}
use Rattle.std.specs.Str.{bytes_eq}
use Rattle.std.specs.declared.result.Result.{Result}
use Rattle.std.proofs.lemmas.Bool.{le-leb}
use Rattle.std.proofs.lemmas.Slice.Eq.{bytes_eq-Decides}
use Rattle.stun_base.specs.Credentials.{NameAndPassword}
use Rattle.stun_base.specs.Keys.{long_term_key}
use Rattle.stun_base.specs.declared.keys.algorithm.IntegrityAlgorithm.{IntegrityAlgorithm}
use Rattle.stun_judging.specs.declared.algorithm_set.AlgorithmSet.{AlgorithmSet}
use Rattle.stun_auth.specs.declared.client.answer.LongTermClientValidation.TheVariants as Read
use Rattle.stun_judging.specs.declared.feature.Feature.{Feature}
use Rattle.stun_auth.specs.declared.server.reason.LongTermServerAuthErrorReason.TheVariants.{
  StaleNonce,
}
use Rattle.stun_auth.specs.declared.server.reason.LongTermServerValidation.TheVariants.{Validated}
use Rattle.stun_judging.specs.Additions.{Page}
use Rattle.stun_judging.specs.Algorithms.{contains}
use Rattle.stun_auth.specs.Client.{Challenge, ClientSettings, authenticated}
use Rattle.stun_auth.specs.ClientStep.{ClientStep, after_challenge}
use Rattle.stun_judging.specs.Reading.{STALE_NONCE, UNAUTHORIZED, is_code, Reading, reading_of}
use Rattle.stun_judging.specs.Reading.{verified_under}
use Rattle.stun_auth.specs.ClientStep.{after_digest, after_stale, client_step, taken_up}
use Rattle.stun_judging.specs.Nonces.{nonce_of, security_bits}
use Rattle.stun_base.specs.MessageType.{is_success}
use Rattle.stun_auth.specs.Reasons.{ServerRefusal}
use Rattle.stun_auth.specs.code.Reasons.{stale_nonce, unauthorized}
use Rattle.stun_judging.specs.Registered.{Registered}
use Rattle.stun_judging.specs.Verdict.{ClientSeen, bits_differ, named_by, nonce_refusal, verdict}
use Rattle.stun_auth.specs.Seen.{PlaceSeen}
use Rattle.stun_auth.specs.Server.{Sight, current_place}
use Rattle.stun_auth.specs.ServerSigning.{after_signing}
use Rattle.stun_judging.specs.Signed.{hashed_name, plain_name}
use Rattle.stun_auth.specs.Validation.{ServerSeen, answer, answer_to}
use Rattle.stun_auth.specs.Validation.{place_after, sight, with_accepted}
use Rattle.stun_proto.specs.Matching.{AreJoined, AreTexts, Matches}
use Rattle.stun_proto.specs.Renewal as renewal
use Rattle.stun_proto.specs.Renewal.{HasRunOut, IsAcceptedAnew, IsAsked, IsRenewed}
use Rattle.stun_proto.specs.Renewal.{IsTold, Renewal, after_request, answer_at}
use Rattle.stun_proto.specs.Renewal.{at_error, at_first, at_second, current_nonce}
use Rattle.stun_proto.specs.Renewal.{client_after_error}
use Rattle.stun_proto.proofs.meetings.Answered.{protected}
use Rattle.stun_proto.proofs.meetings.Keeping.{IsKept, Keeps, calls_keep, standing_kept}
use Rattle.stun_proto.proofs.meetings.Matched.{complete, matched_verdict, other_verdict}
use Rattle.stun_proto.proofs.server_runs.Sights.{sight-after_validation}
use Rattle.stun_proto.proofs.meetings.Standing.{Stands, calls_leave, place_of}
use Rattle.stun_proto.proofs.meetings.Standing.{signing_leaves, standing_in_time}
use Rattle.stun_proto.proofs.meetings.Signed.{IsFailure, IsRequest, NoncesAsk, SignedIsRead}

-- nonces of one server's settings do not differ in their bits
no_difference : (bits : Option (List ℕ)) → bits_differ bits bits ≡ false
no_difference None = refl
no_difference (Some bits) = ap not ((bytes_eq-Decides bits bits).1 refl)

stale_of_settings : NoncesAsk
    → (set : AlgorithmSet) (feature : Feature) (words theirs others : List ℕ)
    → theirs ≡ nonce_of set feature others
    → nonce_refusal (nonce_of set feature words) theirs ≡ stale_nonce
stale_of_settings say set feature words theirs others made =
    let alike : security_bits (nonce_of set feature words) ≡ security_bits theirs =
    say.alike set feature words others ∙ sym (ap security_bits made) in
    ap (λ b. cond (bits_differ b (security_bits theirs)) unauthorized stale_nonce) alike
    ∙ ap (λ b. cond b unauthorized stale_nonce) (no_difference (security_bits theirs))

-- an authenticated client takes up the nonce of an error of code 438
stale_step : (s : ClientSettings) (c : Challenge) (realm nonce : List ℕ) (r : Reading)
    → IsFailure STALE_NONCE realm nonce r
    → client_step s (authenticated c) r
    ≡ record {
      answer = Ok (Read.ResendRequest (verified_under r c.key));
      state = authenticated (record c { realm = realm; nonce = nonce });
    }
stale_step s c realm nonce r reads =
    let digest = verified_under r c.key in
    ap (λ e.
    cond (is_code UNAUTHORIZED e && false)
    (after_challenge (authenticated c) digest
    (taken_up s (authenticated c) s.credentials r.realm r.nonce r.algorithms))
    (cond (is_code STALE_NONCE e) (after_stale (authenticated c) digest r.realm r.nonce)
    (after_digest (authenticated c) (is_success r.class) digest))) reads.error
    ∙ ap (λ o. after_stale (authenticated c) digest o r.nonce) reads.realm
    ∙ ap (λ o. after_stale (authenticated c) digest (Some realm) o) reads.nonce

module _ (say : NoncesAsk) (found : SignedIsRead) (m : Renewal) (who : NameAndPassword)
    (server : ServerSeen) (p : PlaceSeen) (c : Challenge)
    (texts : AreTexts server.registered.realm who.username) (old : HasRunOut m who server p c) where
  abbrev users : Registered
  users = server.registered

  abbrev fresh : List ℕ
  fresh = current_nonce m server

  abbrev end : ℕ
  end = renewal.end m server

  -- the place with the new nonce, whoever is known there, and what the address then can tell
  abbrev anew : Option ClientSeen → PlaceSeen
  anew known = place_of users server.feature server.expiry m.from fresh end m.may_be_removed known

  abbrev seen : Option PlaceSeen → Sight
  seen place =
      record { registered = users; feature = server.feature; expiry = server.expiry; place = place }

  -- the new nonce stands at the address
  abbrev StandsAnew : ServerSeen → Type 0
  StandsAnew s = Stands users server.feature server.expiry m.from fresh end m.may_be_removed s

  abbrev matches : Matches users server.feature p c who
  matches = old.joined.matches

  abbrev client : ClientSeen
  client = record { name = who.username; algorithm = c.algorithm }

  -- ---- the request under the old nonce
  first_keeps : Keeps users server.feature server.expiry p.expires m.may_be_removed m.from
      (at_first m server)
  first_keeps =
      calls_keep users server.feature server.expiry p.expires m.may_be_removed m.from m.before_first
      server old.calls_before_first (
        p,
        ap (λ o. seen o) old.joined.place,
        record {
          words = matches.made.0;
          nonce = matches.made.1;
          offered = matches.offered;
          lasts = λ now below last. below;
          has_client = λ never. ap is_none old.joined.client;
        },
      )

  -- the place just before it, and at it
  abbrev old_place : PlaceSeen
  old_place = first_keeps.0

  abbrev first_place : PlaceSeen
  first_place = current_place (seen (Some old_place)) m.first.now m.first.words

  abbrev known_first : Option ClientSeen
  known_first = first_place.client

  abbrev first_sight : Sight
  first_sight = sight (at_first m server) m.from

  first_sees : first_sight ≡ seen (Some old_place)
  first_sees = first_keeps.1

  first_kept : IsKept users server.feature p.expires m.may_be_removed first_place
  first_kept =
      standing_kept users server.feature server.expiry p.expires m.may_be_removed old_place
      first_keeps.2 m.first.now m.first.words

  fresh_is : fresh ≡ first_place.nonce
  fresh_is = ap (λ (v : Sight). (current_place v m.first.now m.first.words).nonce) first_sees

  end_is : end ≡ first_place.expires
  end_is = ap (λ (v : Sight). (current_place v m.first.now m.first.words).expires) first_sees

  fresh_made : fresh ≡ nonce_of users.algorithms server.feature first_kept.words
  fresh_made = fresh_is ∙ first_kept.nonce

  fresh_text : IsUtf8 fresh
  fresh_text =
      subst IsUtf8 (sym fresh_made) (say.text users.algorithms server.feature first_kept.words)

  first_at : current_place (seen (Some old_place)) m.first.now m.first.words ≡ anew known_first
  first_at =
      ap (λ n. record first_place { nonce = n }) (sym fresh_is)
      ∙ ap (λ e. record first_place { nonce = fresh; expires = e }) (sym end_is)
      ∙ ap (λ o. record first_place { nonce = fresh; expires = end; offered = o })
      first_kept.offered

  -- what a challenge with the new nonce matches
  matches_anew : (d : Challenge) (known : Option ClientSeen) → d.realm ≡ users.realm
      → d.nonce ≡ fresh → d.naming ≡ c.naming → d.algorithms ≡ c.algorithms
      → d.algorithm ≡ c.algorithm → d.key ≡ c.key
      → Matches users server.feature (anew known) d who
  matches_anew d known realm nonce naming algorithms algorithm key = record {
    realm = realm;
    nonce = nonce;
    made = (first_kept.words, fresh_made);
    offered = refl;
    algorithms = algorithms ∙ matches.algorithms;
    algorithm =
        subst (λ (a : IntegrityAlgorithm). contains a users.algorithms ≡ true) (sym algorithm)
        matches.algorithm;
    naming = (matches.naming.0, naming ∙ matches.naming.1);
    named = subst
        (λ n. named_by (hashed_name n) (plain_name n) users server.feature
        ≡ Some (record { username = who.username; secret = matches.known.secret })) (sym naming)
        matches.named;
    key = key ∙ matches.key
        ∙ ap (λ a. long_term_key a who.username users.realm who.password) (sym algorithm);
    known = matches.known;
  }

  -- what is read of the first request
  first_reads : (asking : Page) → IsAsked (authenticated c) asking
      → IsRequest c (reading_of asking.bytes)
  first_reads asking asked =
      found.any_request (authenticated c) c users.algorithms matches.naming.0 who.username
      users.realm asking refl matches.algorithms matches.naming.1
      (subst IsUtf8 (sym matches.realm) texts.realm)
      (subst IsUtf8 (sym (matches.nonce ∙ matches.made.1))
      (say.text users.algorithms server.feature matches.made.0))
      texts.username asked

  module _ (asking : Page) (asked : IsAsked (authenticated c) asking) where
    abbrev first_read : Reading
    first_read = reading_of asking.bytes

    reads : IsRequest c first_read
    reads = first_reads asking asked

    first_served : (o : Result ClientSeen ServerRefusal)
        → verdict users server.feature fresh (Some users.algorithms) first_read ≡ o
        → (answer first_sight m.first.now m.first.words first_read ≡ answer_to o)
        × (place_after first_sight m.first.now m.first.words first_read
        ≡ Some (with_accepted (anew known_first) o))
    first_served o judged =
        let served =
        protected (seen (Some old_place)) m.first.now m.first.words first_read (anew known_first)
        first_at reads.response o reads.protected
        (complete say users server.feature p c who matches first_read reads) judged in (
          ap (λ v. answer v m.first.now m.first.words first_read) first_sees ∙ served.0,
          ap (λ v. place_after v m.first.now m.first.words first_read) first_sees ∙ served.1,
        )

    judged_same : bytes_eq p.nonce fresh ≡ true
        → verdict users server.feature fresh (Some users.algorithms) first_read ≡ Ok client
    judged_same same =
        matched_verdict say users server.feature (anew known_first) c who
        (matches_anew c known_first matches.realm
        (matches.nonce ∙ (bytes_eq-Decides p.nonce fresh).0 same) refl refl refl refl)
        first_read reads

    judged_other : bytes_eq p.nonce fresh ≡ false
        → verdict users server.feature fresh (Some users.algorithms) first_read ≡ Err stale_nonce
    judged_other differs =
        ap (λ o. verdict users server.feature fresh o first_read) (sym matches.offered)
        ∙ other_verdict say users server.feature p c who matches first_read reads fresh differs
        ∙ ap Err (ap (λ n. nonce_refusal n p.nonce) fresh_made
        ∙ stale_of_settings say users.algorithms server.feature first_kept.words p.nonce
        matches.made.0 matches.made.1)

    answered_first : (b : Bool) → bytes_eq p.nonce fresh ≡ b
        → answer_at m m.first (at_first m server) asking
        ≡ cond b (Ok (Validated c.algorithm)) (Err StaleNonce)
    answered_first true same = (first_served (Ok client) (judged_same same)).0
    answered_first false differs = (first_served (Err stale_nonce) (judged_other differs)).0

    -- the new nonce stands then, and up to the second request
    module _ (differs : bytes_eq p.nonce fresh ≡ false) where
      first_stands : StandsAnew (after_request m m.first (at_first m server) asking)
      first_stands = (
        known_first,
        sight-after_validation (at_first m server) m.from m.first.now m.first.words first_read
            ∙ ap (λ (v : Sight). record v
            { place = place_after first_sight m.first.now m.first.words first_read }) first_sees
            ∙ ap seen (first_served (Err stale_nonce) (judged_other differs)).1,
        first_kept.has_client,
      )

      error_stands : StandsAnew (at_error m server asking)
      error_stands =
          calls_leave users server.feature server.expiry m.from fresh end m.may_be_removed
          m.before_error (after_request m m.first (at_first m server) asking) old.calls_before_error
          first_stands

      second_stands : StandsAnew (at_second m server asking)
      second_stands =
          calls_leave users server.feature server.expiry m.from fresh end m.may_be_removed
          m.before_second (after_signing (at_error m server asking) m.from true)
          old.calls_before_second
          (signing_leaves users server.feature server.expiry m.from fresh end m.may_be_removed
          (at_error m server asking) error_stands)

      -- users and settings are the same after the second request
      pub users_stay : (next : Page)
          → (after_request m m.second (at_second m server asking) next).registered ≡ users
      users_stay next =
          ap (λ (v : Sight). v.registered)
          (sight-after_validation (at_second m server asking) m.from m.second.now m.second.words
          (reading_of next.bytes))
          ∙ ap (λ (v : Sight). v.registered) second_stands.1

      -- ---- the client's new challenge
      abbrev again : Challenge
      again = record c { realm = users.realm; nonce = fresh }

      told_so : (telling : Page) → IsTold (sight (at_error m server asking) m.from) telling
          → client_after_error m (authenticated c) telling ≡ authenticated again
      told_so telling is =
          let reads =
          found.stale (seen (Some (anew error_stands.0))) (anew error_stands.0) telling refl
          texts.realm fresh_text
          (subst (λ v. IsTold v telling) error_stands.1 is) in
          ap (λ (x : ClientStep). x.state)
          (stale_step m.settings c users.realm fresh (reading_of telling.bytes) reads)

      -- ---- the request again
      joined_anew : AreJoined (seen (Some (anew (Some client)))) (anew (Some client)) again who
      joined_anew =
          record {
            place = refl;
            client = refl;
            matches = matches_anew again (Some client) refl refl refl refl refl refl;
          }

      accepted_second : (telling next : Page)
          → IsTold (sight (at_error m server asking) m.from) telling
          → IsAsked (client_after_error m (authenticated c) telling) next
          → IsAcceptedAnew m who c (at_second m server asking) telling next
      accepted_second telling next is asked_again =
          let r = reading_of next.bytes in
          let known = second_stands.0 in
          let at = at_second m server asking in
          let matches_again = matches_anew again known refl refl refl refl refl refl in
          let reads_again =
          found.any_request (authenticated again) again users.algorithms matches.naming.0
          who.username users.realm next refl matches.algorithms matches.naming.1
          texts.realm fresh_text texts.username
          (subst (λ state. IsAsked state next) (told_so telling is) asked_again) in
          let served =
          protected (seen (Some (anew known))) m.second.now m.second.words r (anew known)
          (standing_in_time users server.feature server.expiry m.from fresh end m.may_be_removed
          known m.second.now m.second.words (le-leb m.second.now end old.in_time))
          reads_again.response (Ok client) reads_again.protected
          (complete say users server.feature (anew known) again who matches_again r reads_again)
          (matched_verdict say users server.feature (anew known) again who matches_again r
          reads_again) in
          let left = sight-after_validation at m.from m.second.now m.second.words r
          ∙ ap (λ (v : Sight). record v { place = place_after v m.second.now m.second.words r })
          second_stands.1
          ∙ ap seen served.1 in
          record {
            accepted = ap (λ v. answer v m.second.now m.second.words r) second_stands.1 ∙ served.0;
            joined = (
              again,
              anew (Some client),
              told_so telling is,
              subst (λ (v : Sight). AreJoined v (anew (Some client)) again who) (sym left)
                  joined_anew,
            );
          }

  pub is_renewed : IsRenewed m who server p c
  is_renewed = record {
    first = λ asking asked. answered_first asking asked (bytes_eq p.nonce fresh) refl;
    second =
        λ asking telling next stale. accepted_second asking stale.asked stale.other_nonce telling
        next stale.error stale.asked_again;
  }

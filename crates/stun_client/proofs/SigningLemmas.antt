-- What is read of a message that is signed for a challenge: what was added to it.
use Rattle.std.proofs.Common.{◌≡◌, ℕ, ◌<◌, ◌≤◌, ◌^◌, true, false, List, [], ◌∷◌, length}
use Rattle.std.proofs.Common.{refl, sym, ◌∙◌, ap, arith, Ok, Err, Option, Some, None}
use Rattle.std.specs.Prelude.{IfOk, IsUtf8, ◌||◌, if◌then◌else◌, map, nat_lt}
use Rattle.std.specs.List.{AllByRecursion}
use Rattle.std.specs.Option.{IfSome, is_some, option_and_then, option_map, option_or}
use Rattle.std.specs.declared.result.Result.{Result}
use Rattle.stun_base.specs.Attributes.{ERROR_CODE, NONCE, PASSWORD_ALGORITHM}
use Rattle.stun_base.specs.Attributes.{PASSWORD_ALGORITHMS, REALM, USERHASH, USERNAME}
use Rattle.stun_base.specs.MessageType.{class_in, class_of, is_error}
use Rattle.stun_base.specs.declared.keys.algorithm.IntegrityAlgorithm.{IntegrityAlgorithm}
use Rattle.stun_base.specs.declared.keys.algorithm.IntegrityAlgorithm.TheVariants.{Sha1, Sha256}
use Rattle.stun_base.specs.declared.wire.error.StunWriteError.{StunWriteError}
use Rattle.stun_types.specs.Attribute.{TypedValue}
use Rattle.stun_types.specs.ErrorCode.{CodeAndReason, error_of}
use Rattle.stun_types.specs.Integrity.{verified_algorithm}
use Rattle.stun_types.specs.PasswordAlgorithms.{integrity_of, password_algorithm_in}
use Rattle.stun_types.specs.PasswordAlgorithms.{password_algorithms_in}
use Rattle.stun_types.specs.Text.{text_of, text_of-written}
use Rattle.stun_types.specs.Userhash.{hash_of, hash_of-written}
use Rattle.stun_types.specs.Visible.{visible}
use Rattle.stun_judging.specs.AddedAttribute.{nonce, password_algorithm, realm, userhash, username}
use Rattle.stun_judging.specs.Additions.{Page, UnlessMemory, added_all, page_in, written_page}
use Rattle.stun_judging.specs.Algorithms.{is_sha256}
use Rattle.stun_judging.specs.Naming.{Naming, hashed, plain}
use Rattle.stun_judging.specs.Joined.{IsTyped, added_last, last_value, protection_in}
use Rattle.stun_judging.specs.Reading.{error_code, has_visible_integrity, last, last_of, reading_of}
use Rattle.stun_judging.specs.Signed.{IsText, IsUnsigned, ReadsAs, hashed_name, only_if, plain_name}
use Rattle.stun_judging.proofs.JoinedLemmas.{WritingLaws, all_short, has_added, not_above, or_none}
use Rattle.stun_judging.proofs.JoinedReading.{read_back}
use Rattle.stun_judging.proofs.ReadingLemmas.{is_some-cond}
use Rattle.stun_judging.proofs.SignedReading.{algorithm_again, by_value, none_before, read_added}
use Rattle.stun_client.specs.Challenge.{Challenge, added_under, challenge_additions, is_listed}
use Rattle.stun_client.specs.Challenge.{list_read, repeated_list}

-- ---- what is added, by type

-- the list that is repeated, and the algorithm that is named
abbrev repeated : List ℕ → Option TypedValue
repeated offered = if is_listed offered then Some (repeated_list offered) else None

abbrev named : List ℕ → IntegrityAlgorithm → Option IntegrityAlgorithm
named offered a = only_if (is_sha256 a || is_listed offered) a

-- the last of each type among the additions, and the digest
record Lasts (c : Challenge) : Type 0 where
  nonce_is : added_last NONCE (challenge_additions true c) ≡ Some (nonce c.nonce)
  realm_is : added_last REALM (challenge_additions true c) ≡ Some (realm c.realm)
  username_is : added_last USERNAME (challenge_additions true c)
      ≡ option_map username (plain_name c.naming)
  userhash_is : added_last USERHASH (challenge_additions true c)
      ≡ option_map userhash (hashed_name c.naming)
  algorithms_are : added_last PASSWORD_ALGORITHMS (challenge_additions true c)
      ≡ repeated c.offered
  algorithm_is : added_last PASSWORD_ALGORITHM (challenge_additions true c)
      ≡ option_map password_algorithm (named c.offered c.algorithm)
  error_is : added_last ERROR_CODE (challenge_additions true c) ≡ None
  protected : protection_in (challenge_additions true c)
      ≡ Some (record { algorithm = c.algorithm; key = c.key })
  typed : AllByRecursion IsTyped (challenge_additions true c)

abbrev challenge : Naming → List ℕ → List ℕ → List ℕ → IntegrityAlgorithm → List ℕ → Challenge
challenge naming realm nonce offered algorithm key = record {
  naming = naming;
  realm = realm;
  nonce = nonce;
  offered = offered;
  algorithm = algorithm;
  key = key;
}

small : (kind : ℕ) → nat_lt kind 65536 ≡ true → kind < 2 ^ 16
small kind is = grind (arith, is)

lasts : (naming : Naming) (realm nonce offered : List ℕ) (algorithm : IntegrityAlgorithm)
    (key : List ℕ) → Lasts (challenge naming realm nonce offered algorithm key)
lasts (plain name) realm nonce [] Sha1 key = record {
  nonce_is = refl;
  realm_is = refl;
  username_is = refl;
  userhash_is = refl;
  algorithms_are = refl;
  algorithm_is = refl;
  error_is = refl;
  protected = refl;
  typed = (small NONCE refl, (small REALM refl, (small USERNAME refl, (tt, tt))));
}
lasts (plain name) realm nonce [] Sha256 key = record {
  nonce_is = refl;
  realm_is = refl;
  username_is = refl;
  userhash_is = refl;
  algorithms_are = refl;
  algorithm_is = refl;
  error_is = refl;
  protected = refl;
  typed = (small NONCE refl, (small REALM refl, (small USERNAME refl, (small PASSWORD_ALGORITHM refl, (tt, tt)))));
}
lasts (plain name) realm nonce (byte ∷ list) Sha1 key = record {
  nonce_is = refl;
  realm_is = refl;
  username_is = refl;
  userhash_is = refl;
  algorithms_are = refl;
  algorithm_is = refl;
  error_is = refl;
  protected = refl;
  typed = (small NONCE refl, (small REALM refl, (small USERNAME refl, (small PASSWORD_ALGORITHMS refl, (small PASSWORD_ALGORITHM refl, (tt, tt))))));
}
lasts (plain name) realm nonce (byte ∷ list) Sha256 key = record {
  nonce_is = refl;
  realm_is = refl;
  username_is = refl;
  userhash_is = refl;
  algorithms_are = refl;
  algorithm_is = refl;
  error_is = refl;
  protected = refl;
  typed = (small NONCE refl, (small REALM refl, (small USERNAME refl, (small PASSWORD_ALGORITHMS refl, (small PASSWORD_ALGORITHM refl, (tt, tt))))));
}
lasts (hashed hash) realm nonce [] Sha1 key = record {
  nonce_is = refl;
  realm_is = refl;
  username_is = refl;
  userhash_is = refl;
  algorithms_are = refl;
  algorithm_is = refl;
  error_is = refl;
  protected = refl;
  typed = (small NONCE refl, (small REALM refl, (small USERHASH refl, (tt, tt))));
}
lasts (hashed hash) realm nonce [] Sha256 key = record {
  nonce_is = refl;
  realm_is = refl;
  username_is = refl;
  userhash_is = refl;
  algorithms_are = refl;
  algorithm_is = refl;
  error_is = refl;
  protected = refl;
  typed = (small NONCE refl, (small REALM refl, (small USERHASH refl, (small PASSWORD_ALGORITHM refl, (tt, tt)))));
}
lasts (hashed hash) realm nonce (byte ∷ list) Sha1 key = record {
  nonce_is = refl;
  realm_is = refl;
  username_is = refl;
  userhash_is = refl;
  algorithms_are = refl;
  algorithm_is = refl;
  error_is = refl;
  protected = refl;
  typed = (small NONCE refl, (small REALM refl, (small USERHASH refl, (small PASSWORD_ALGORITHMS refl, (small PASSWORD_ALGORITHM refl, (tt, tt))))));
}
lasts (hashed hash) realm nonce (byte ∷ list) Sha256 key = record {
  nonce_is = refl;
  realm_is = refl;
  username_is = refl;
  userhash_is = refl;
  algorithms_are = refl;
  algorithm_is = refl;
  error_is = refl;
  protected = refl;
  typed = (small NONCE refl, (small REALM refl, (small USERHASH refl, (small PASSWORD_ALGORITHMS refl, (small PASSWORD_ALGORITHM refl, (tt, tt))))));
}

lasts_of : (c : Challenge) → Lasts c
lasts_of c = lasts c.naming c.realm c.nonce c.offered c.algorithm c.key

-- ---- what an attribute of a type reads as

-- what is written is read again
name_again : (naming : Naming) → IfSome (plain_name naming) IsUtf8
    → IfSome (plain_name naming) (λ name. length name ≤ 513)
    → option_and_then (text_of USERNAME 513) (option_map username (plain_name naming))
    ≡ plain_name naming
name_again (plain name) text short = text_of-written USERNAME 513 name (text, short)
name_again (hashed hash) text short = refl

hash_again : (naming : Naming) → IfSome (hashed_name naming) (λ hash. length hash ≡ 32)
    → option_and_then hash_of (option_map userhash (hashed_name naming)) ≡ hashed_name naming
hash_again (plain name) long = refl
hash_again (hashed hash) long = hash_of-written hash long

list_again : (offered : List ℕ)
    → option_map (map integrity_of) (option_and_then password_algorithms_in (repeated offered))
    ≡ (if is_listed offered then list_read offered else None)
list_again [] = refl
list_again (byte ∷ list) = refl

-- a name that was written is short
name_short : (naming : Naming) (page done : Page) (realm nonce offered key : List ℕ)
    (algorithm : IntegrityAlgorithm)
    → added_all (challenge_additions true (challenge naming realm nonce offered algorithm key)) page
    ≡ Ok done
    → IfSome (plain_name naming) (λ name. length name ≤ 513)
name_short (hashed hash) page done realm nonce offered key algorithm is = tt
name_short (plain name) page done realm nonce offered key algorithm is =
    let short = all_short (challenge_additions true
    (challenge (plain name) realm nonce offered algorithm key)) page done is in
    not_above 513 (length name) (or_none (nat_lt 513 (length name)) false short.1.1.0).0

-- ---- the whole reading
pub reads_as : WritingLaws → (c : Challenge) (message : List ℕ) (room : ℕ) (page : Page)
    → IsUnsigned message → IsText (added_under true c)
    → added_all (challenge_additions true c) (record { bytes = message; room = room }) ≡ Ok page
    → ReadsAs (class_in message) (error_code message) (added_under true c) (reading_of page.bytes)
unfolding reading_of
reads_as laws c message room page unsigned texts done =
    let bytes = page.bytes in
    let list = challenge_additions true c in
    let is_open = unsigned.is_open in
    let lasts = lasts_of c in
    let added = has_added laws list message room page is_open lasts.typed done in
    let back = read_back message list bytes added in
    let none = unsigned.none in
    let short = all_short list (record { bytes = message; room = room }) page done in
    let same_class : class_in bytes ≡ class_in message = ap class_of added.type_is in
    let same_error : last error_of ERROR_CODE bytes ≡ last error_of ERROR_CODE message =
    by_value error_of (last_of ERROR_CODE (visible bytes))
    ∙ (ap (option_and_then error_of)
    (back ERROR_CODE refl
    ∙ ap (λ found. option_or found (last_value ERROR_CODE message)) lasts.error_is)
    ∙ sym (by_value error_of (last_of ERROR_CODE (visible message)))) in
    record {
      class_is = same_class;
      error_is = λ i. if is_error (same_class i)
          then option_map (λ (e : CodeAndReason). e.code) (same_error i) else None;
      realm_is =
          read_added (text_of REALM 763) REALM message list bytes (Some (realm c.realm)) back refl
          (none_before laws REALM message is_open none.1.0) lasts.realm_is
          ∙ text_of-written REALM 763 c.realm
          (texts.realm, not_above 763 (length c.realm) short.1.0);
      nonce_is =
          read_added (text_of NONCE 763) NONCE message list bytes (Some (nonce c.nonce)) back refl
          (none_before laws NONCE message is_open none.0) lasts.nonce_is
          ∙ text_of-written NONCE 763 c.nonce
          (texts.nonce, not_above 763 (length c.nonce) short.0);
      username_is =
          read_added (text_of USERNAME 513) USERNAME message list bytes
          (option_map username (plain_name c.naming)) back refl
          (none_before laws USERNAME message is_open none.1.1.0) lasts.username_is
          ∙ name_again c.naming texts.username
          (name_short c.naming (record { bytes = message; room = room }) page c.realm c.nonce
          c.offered c.key c.algorithm done);
      userhash_is =
          read_added hash_of USERHASH message list bytes (option_map userhash (hashed_name c.naming))
          back refl
          (none_before laws USERHASH message is_open none.1.1.1.0) lasts.userhash_is
          ∙ hash_again c.naming texts.userhash;
      algorithms_are =
          ap (option_map (map integrity_of))
          (read_added password_algorithms_in PASSWORD_ALGORITHMS message list bytes
          (repeated c.offered) back refl
          (none_before laws PASSWORD_ALGORITHMS message is_open none.1.1.1.1.0)
          lasts.algorithms_are)
          ∙ list_again c.offered;
      algorithm_is =
          ap (option_map integrity_of)
          (read_added password_algorithm_in PASSWORD_ALGORITHM message list bytes
          (option_map password_algorithm (named c.offered c.algorithm)) back refl
          (none_before laws PASSWORD_ALGORITHM message is_open none.1.1.1.1.1.0)
          lasts.algorithm_is)
          ∙ algorithm_again (named c.offered c.algorithm);
      integrity_is = is_some-cond (has_visible_integrity bytes) (verified_algorithm bytes)
          ∙ (added.integrity_is ∙ ap is_some lasts.protected);
      digest_verifies = λ p is.
          let has : has_visible_integrity bytes ≡ true = added.integrity_is
          ∙ ap is_some lasts.protected in
          ap (λ holds.
          option_and_then (λ (verify : List ℕ → Option IntegrityAlgorithm). verify p.key)
          (if holds then Some (verified_algorithm bytes) else None)) has
          ∙ added.digest_verifies p (lasts.protected ∙ is);
    }

-- a call that signs a message, if it succeeds
pub reads_signed : WritingLaws → {W : Type 0} (bytes : W → List ℕ) (room : W → ℕ)
    (c : Challenge) (writer : W) (result : Result W StunWriteError) (wants : Type 0)
    → IsText (added_under true c)
    → UnlessMemory result
    (written_page bytes room result ≡ added_all (challenge_additions true c) (page_in bytes room writer))
    wants
    → IfOk result (λ signed. IsUnsigned (bytes writer)
    → ReadsAs (class_in (bytes writer)) (error_code (bytes writer)) (added_under true c)
    (reading_of (bytes signed)))
reads_signed laws bytes room c writer (Ok signed) wants texts is = λ unsigned.
    reads_as laws c (bytes writer) (room writer) (page_in bytes room signed) unsigned texts (sym is)
reads_signed laws bytes room c writer (Err reason) wants texts is = tt

-- what holds of what is read of a signed message
pub then_read : {W : Type 0} (result : Result W StunWriteError) (U : Type 0) (P Q : W → Type 0)
    → ((signed : W) → P signed → Q signed) → IfOk result (λ signed. U → P signed)
    → IfOk result (λ signed. U → Q signed)
then_read (Ok signed) U P Q step read = λ unsigned. step signed (read unsigned)
then_read (Err reason) U P Q step read = tt

-- A user who was found judges as a table of this one user does.
use Rattle.std.proofs.Common.{◌≡◌, ℕ, List, Bool, true, false, Option, Some, None, refl, ap, ◌∙◌}
use Rattle.std.proofs.Common.{Ok, Err}
use Rattle.std.specs.Prelude.{cond, Result}
use Rattle.stun_judging.specs.Registered.{RegisteredUser, user_by_password}
use Rattle.stun_judging.specs.declared.stored_keys.StoredKeys.{StoredKeys}
use Rattle.stun_endpoint.specs.Realm.{table_of}
use Rattle.stun_endpoint.specs.Settings.{Settings}
use Rattle.stun_handles.specs.Answers.{text_refusal, texts_refusal}
use Rattle.stun_handles.specs.Keys.{key_given, keys_given}
use Rattle.stun_numbers.specs.Refusals.{refusal_or}
use Rattle.stun_numbers.specs.declared.refusal.Refusal.{Refusal}
use Rattle.stun_c_endpoint.specs.Found.{judge_by_found, with_left}
use Rattle.stun_c_endpoint.specs.Kept.{Judge}
use Rattle.stun_c_endpoint.specs.Users.{added, keys_added, name_refusal, no_key_refusal}
use Rattle.stun_c_endpoint.specs.Users.{password_refusal}
use Rattle.stun_c_endpoint.specs.code.Found.{found_judge, found_user, key_user, named_user}
use Rattle.stun_c_endpoint.specs.code.Found.{password_user}
use Rattle.stun_c_endpoint.specs.declared.handle.endpoint.Kept.{Kept}
use Rattle.stun_c_endpoint.specs.declared.handle.endpoint.Kept.TheVariants.{Server, Users}

module _ (s : Settings) where
  -- the judge of a user, or why there is none
  abbrev pub judge_or : Result RegisteredUser Refusal → Result Judge Refusal
  judge_or (Ok user) = Ok (found_judge s user)
  judge_or (Err refusal) = Err refusal

  past : (o : Option Refusal) (left : Result Kept Refusal) (user : Result RegisteredUser Refusal)
      → with_left s left ≡ judge_or user
      → with_left s (refusal_or o left) ≡ judge_or (refusal_or o user)
  past None left user h = h
  past (Some refusal) left user h = refl

  by_keys : (name : List ℕ) (keys : Result StoredKeys Refusal)
      → with_left s (keys_added (table_of s) name keys) ≡ judge_or (named_user name keys)
  by_keys name (Ok keys) = refl
  by_keys name (Err refusal) = refl

  pub judged_by_found : (name password : List ℕ) (has_password : Bool) (sha1 sha256 : List ℕ)
      → judge_by_found name password has_password sha1 sha256 (Server s)
      ≡ judge_or (found_user name password has_password sha1 sha256)
  judged_by_found name password true sha1 sha256 =
      let user : Result RegisteredUser Refusal =
      Ok (user_by_password (record { username = name; password = password })) in
      let left : Result Kept Refusal = Ok (Users (added (table_of s) name password)) in
      past (texts_refusal name password) _ _
      (past (name_refusal name) _ _ (past (password_refusal password) left user refl))
  judged_by_found name password false sha1 sha256 =
      let keys = keys_given (key_given 16 sha1) (key_given 32 sha256) in
      past (text_refusal name) _ _
      (past (name_refusal name) _ _
      (past (no_key_refusal sha1 sha256) (keys_added (table_of s) name keys) (named_user name keys)
      (by_keys name keys)))

  pub judged_by_user : (name password : List ℕ) (has_password : Bool) (sha1 sha256 : List ℕ)
      (user : RegisteredUser) → found_user name password has_password sha1 sha256 ≡ Ok user
      → judge_by_found name password has_password sha1 sha256 (Server s) ≡ Ok (found_judge s user)
  judged_by_user name password has_password sha1 sha256 user h =
      judged_by_found name password has_password sha1 sha256 ∙ ap judge_or h

  pub judged_by_none : (name password : List ℕ) (has_password : Bool) (sha1 sha256 : List ℕ)
      (refusal : Refusal) → found_user name password has_password sha1 sha256 ≡ Err refusal
      → judge_by_found name password has_password sha1 sha256 (Server s) ≡ Err refusal
  judged_by_none name password has_password sha1 sha256 refusal h =
      judged_by_found name password has_password sha1 sha256 ∙ ap judge_or h

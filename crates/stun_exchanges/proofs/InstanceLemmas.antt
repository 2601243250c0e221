-- A server with one user, who is found by the hash.
use Rattle.std.proofs.Common.{◌≡◌, List, Some, None, ℕ, map, refl, ◌∙◌, ap, arith}
use Rattle.std.specs.Prelude.{cond, codes}
use Rattle.std.specs.List.{find}
use Rattle.std.specs.FinMap as fin
use Rattle.std.specs.Cmp.Lexicographic.{nat_list_cmp_total}
use Rattle.std.proofs.lemmas.Slice.Eq.{bytes_eq-Decides}
use Rattle.std.proofs.lemmas.Str.{IsUtf8-from_ascii}
use Rattle.stun_base.specs.Keys.{userhash_of}
use Rattle.stun_judging.specs.Registered.{UserSecret, name_cmp, name_with_hash}
use Rattle.stun_judging.specs.Registered.{of_password}
use Rattle.stun_judging.proofs.MeantUser.{has_hash, one}
use Rattle.stun_exchanges.proofs.Ascii.{from_small}
use Rattle.stun_judging.proofs.UserKeys.{same_name}
use Rattle.stun_exchanges.specs.Instance.{SidesCanMeet, example_user}
use Rattle.stun_exchanges.specs.Instance.{example_users}

one_user : fin.get example_users.secrets example_user.username
    ≡ Some (of_password example_user.password)
one_user =
    fin.get-insert nat_list_cmp_total fin.empty example_user.username
    (of_password example_user.password) example_user.username
    ∙ ap (λ b. cond b (Some (of_password example_user.password))
    (fin.get (fin.empty {R = name_cmp}) example_user.username))
    (same_name example_user.username)

abbrev hash : List ℕ
hash = userhash_of example_user.username example_users.realm

one_hash : name_with_hash example_users hash ≡ Some example_user.username
one_hash =
    ap (λ (es : List (List ℕ × UserSecret)). find (has_hash example_users hash) (map (λ e. e.0) es))
    (one example_user.username (of_password example_user.password))
    ∙ ap (λ b. cond b (Some example_user.username) None) ((bytes_eq-Decides hash hash).1 refl)

pub sides_can_meet : SidesCanMeet
sides_can_meet secret = (
  record {
    realm_fits = omega arith;
    realm_text = IsUtf8-from_ascii (codes "example.org") (from_small (codes "example.org") refl);
    software_fits = omega arith;
  },
  record { realm = refl; registered = one_user; hashed = one_hash },
  record { first = refl; hashes = λ must. refl },
)

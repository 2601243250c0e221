-- What a look-up and a change of the tree map are to the keys of users.
use Rattle.std.proofs.Common.{◌≡◌, ℕ, List, [], ◌∷◌, map, Option, Some, None}
use Rattle.std.proofs.Common.{refl, sym, ◌∙◌, ap, String}
use Rattle.std.specs.Prelude.{cond}
use Rattle.std.specs.String.{string_bytes, string_cmp}
use Rattle.std.specs.Ordering.{nat_cmp, eq_by_cmp}
use Rattle.std.specs.Cmp.{eq_by_cmp_equiv}
use Rattle.std.specs.Cmp.Lexicographic.{slice_cmp, nat_list_cmp_total}
use Rattle.std.specs.FinMap.{find, get, get-from_entries, get-insert, get-remove}
use Rattle.std.specs.FinMap.{insert, remove, same_map}
use Rattle.std.specs.BTreeMap.{BTreeMap, UpdatesBy, get_by_text}
use Rattle.std.specs.Map.{lookup}
use Rattle.std.proofs.lemmas.Map.Lookups.{exact_bytes}
use Rattle.std.proofs.lemmas.Map.Text.{btree_map_updates_text, is_eq-slice_cmp}
use Rattle.stun_judging.specs.Registered.{name_cmp}
use Rattle.stun_endpoint.specs.code.Keys.{keys_seen}

module _ {A : Type 0} where
  abbrev at : List (String A × List ℕ) → List ℕ → Option (List ℕ)
  at entries name = lookup (λ k. eq_by_cmp name_cmp name (string_bytes k)) entries

  found : (entries : List (String A × List ℕ)) (name : List ℕ)
      → find name_cmp name (map (λ e. (string_bytes e.0, e.1)) entries) ≡ at entries name
  found [] name = refl
  found (e ∷ es) name =
      ap (cond (eq_by_cmp name_cmp name (string_bytes e.0)) (Some e.1)) (found es name)

  get-entries : (entries : List (String A × List ℕ)) (name : List ℕ)
      → get (keys_seen entries) name ≡ at entries name
  get-entries entries name =
      get-from_entries nat_list_cmp_total (map (λ e. (string_bytes e.0, e.1)) entries) name
      ∙ found entries name

  -- what is found by name
  pub key_found : (m : BTreeMap (String A) (List ℕ)) (name : List ℕ)
      → get (keys_seen m.entries) name ≡ get_by_text m name
  key_found m name = get-entries m.entries name

  -- the change, by the order's test
  changed : (m n : BTreeMap (String A) (List ℕ)) (name : List ℕ) (w : Option (List ℕ))
      → UpdatesBy string_cmp (λ k. slice_cmp nat_cmp name (string_bytes k)) m n w → (q : List ℕ)
      → at n.entries q ≡ cond (eq_by_cmp name_cmp name q) w (at m.entries q)
  changed m n name w updates q =
      btree_map_updates_text name m n w updates q
      ∙ ap (λ b. cond b w (get_by_text m q)) (sym (is_eq-slice_cmp name q))

  pub keys_inserted : (m n : BTreeMap (String A) (List ℕ)) (name key : List ℕ)
      → UpdatesBy string_cmp (λ k. slice_cmp nat_cmp name (string_bytes k)) m n (Some key)
      → keys_seen n.entries ≡ insert (keys_seen m.entries) name key
  keys_inserted m n name key updates =
      same_map nat_list_cmp_total exact_bytes (keys_seen n.entries)
      (insert (keys_seen m.entries) name key) (λ q.
      get-entries n.entries q ∙ changed m n name (Some key) updates q
      ∙ ap (cond (eq_by_cmp name_cmp name q) (Some key)) (sym (get-entries m.entries q))
      ∙ ap (λ b. cond b (Some key) (get (keys_seen m.entries) q))
      ((eq_by_cmp_equiv nat_list_cmp_total).symm name q)
      ∙ sym (get-insert nat_list_cmp_total (keys_seen m.entries) name key q))

  pub keys_removed : (m n : BTreeMap (String A) (List ℕ)) (name : List ℕ)
      → UpdatesBy string_cmp (λ k. slice_cmp nat_cmp name (string_bytes k)) m n None
      → keys_seen n.entries ≡ remove (keys_seen m.entries) name
  keys_removed m n name updates =
      same_map nat_list_cmp_total exact_bytes (keys_seen n.entries)
      (remove (keys_seen m.entries) name) (λ q.
      get-entries n.entries q ∙ changed m n name None updates q
      ∙ ap (cond (eq_by_cmp name_cmp name q) None) (sym (get-entries m.entries q))
      ∙ ap (λ b. cond b None (get (keys_seen m.entries) q))
      ((eq_by_cmp_equiv nat_list_cmp_total).symm name q)
      ∙ sym (get-remove nat_list_cmp_total (keys_seen m.entries) name q))

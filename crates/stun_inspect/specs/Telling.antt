-- The attributes of a message one by one: offset, type, value, and the attribute that hides it.
use Rattle.std.specs.Prelude.{ℕ, List, map, filter, is_none}
use Rattle.stun_types.specs.Walk.{Member, walk}
use Rattle.stun_types.specs.Visible.{hider, visibility_at}
use Rattle.stun_inspect.specs.declared.telling.Told.{Told}

-- an attribute of a message as it is listed
abbrev pub told_at : List Member → Member → Told
told_at members m = record {
  place = m.0;
  attribute = m.1;
  hidden_by = hider (visibility_at m.0 members) m.1.kind;
}

-- the attributes of a message as they are listed: each once, in order
abbrev pub told_attributes : List ℕ → List Told
told_attributes bytes = map (told_at (walk bytes)) (walk bytes)

-- the attributes that nothing hides
abbrev pub unhidden_members : List Told → List Member
unhidden_members told = map (λ t. (t.place, t.attribute)) (filter (λ t. is_none t.hidden_by) told)

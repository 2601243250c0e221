-- How a body is read from its bytes, attribute by attribute.
use Rattle.std.proofs.Common.{◌≡◌, ◌≢◌, ◌⊎◌, ℕ, List, [], drop, length, true, false, Result, Ok, Err}
use Rattle.std.proofs.Common.{Bool, ◌==◌, ◌∙◌, ◌∷◌, inl, inr, subst, sym}
use Rattle.std.proofs.lemmas.Bool.{eqb-true}
use Rattle.std.proofs.lemmas.List.{nil_from_length}
use Rattle.stun_types.specs.Attribute.{TypedValue, attribute_length, first_attribute, has_attribute}
use Rattle.stun_client_endpoint.specs.Bodies.{Body}
use Rattle.stun_numbers.specs.declared.refusal.Refusal.{Refusal}
use Rattle.stun_numbers.specs.declared.refusal.Refusal.TheVariants.{BadArgument, OutOfMemory}
use Rattle.stun_c_endpoint.specs.Attributes.{Reads, breaks_off, ends, goes_on, stops, with_attribute}

-- what the rest comes to after the attributes of a body, all of the bytes come to
abbrev pub From : Body → List ℕ → List ℕ → Type 0
From body rest all = (result : Result Body Refusal) → Reads body rest result → Reads [] all result

pub some_left : (l : List ℕ) (is_empty : Bool) → is_empty ≡ false → is_empty ≡ (length l == 0)
    → l ≢ []
some_left [] is_empty full is none = cc
some_left (x ∷ l) is_empty full is none = cc

pub none_left : (l : List ℕ) (is_empty : Bool) → is_empty ≡ true → is_empty ≡ (length l == 0)
    → l ≡ []
none_left l is_empty empty is =
    nil_from_length l (eqb-true (length l) 0 (sym is ∙ empty))

pub from_all : (all : List ℕ) → From [] all all
from_all all result reads = reads

pub ending : (body : Body) (rest all : List ℕ) → From body rest all → rest ≡ []
    → Reads [] all (Ok body)
ending body rest all from is = from (Ok body) (subst (λ l. Reads body l (Ok body)) (sym is) (ends body))

pub breaking : (body : Body) (rest all : List ℕ) → From body rest all → rest ≢ []
    → has_attribute rest ≡ false → Reads [] all (Err BadArgument)
breaking body rest all from left broken =
    from (Err BadArgument) (breaks_off body rest left broken)

pub stopping : (body : Body) (rest all : List ℕ) (a : TypedValue) (refusal : Refusal)
    → From body rest all → has_attribute rest ≡ true → a ≡ first_attribute rest
    → (refusal ≡ OutOfMemory) ⊎ (with_attribute body a ≡ Err refusal)
    → (refusal ≡ OutOfMemory) ⊎ Reads [] all (Err refusal)
stopping body rest all a refusal from whole is (inl memory) = inl memory
stopping body rest all a refusal from whole is (inr why) =
    inr (from (Err refusal) (stops body rest refusal whole
    (subst (λ x. with_attribute body x ≡ Err refusal) is why)))

pub going : (body next : Body) (rest after all : List ℕ) (a : TypedValue) → From body rest all
    → has_attribute rest ≡ true → a ≡ first_attribute rest → with_attribute body a ≡ Ok next
    → after ≡ drop (attribute_length (length a.value)) rest → From next after all
going body next rest after all a from whole is ok behind result reads =
    from result (goes_on body next rest result whole
    (subst (λ x. with_attribute body x ≡ Ok next) is ok)
    (subst (λ x. Reads next (drop (attribute_length (length x.value)) rest) result) is
    (subst (λ l. Reads next l result) behind reads)))

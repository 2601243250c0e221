-- How the attributes of a body are added to a check, one by one.
use Rattle.std.proofs.Common.{◌≡◌, ◌≢◌, ◌⊎◌, ℕ, ◌-◌, List, [], drop, length, Bool, true, false}
use Rattle.std.proofs.Common.{Result, Ok, Err, if◌then◌else◌, ap, inl, inr, refl, subst, sym}
use Rattle.std.proofs.Common.{◌∙◌}
use Rattle.std.specs.declared.net.socket_addr.SocketAddr.{SocketAddr}
use Rattle.stun_types.specs.Attribute.{TypedValue, attribute_length, first_attribute, has_attribute}
use Rattle.stun_types.specs.Limits.{LENGTH_LIMIT}
use Rattle.stun_types.specs.Writing.{attribute_refusal, with_attribute}
use Rattle.stun_ice.specs.Agent.{Agent, Peer, SentCheck, check_bytes, sent_check}
use Rattle.stun_numbers.specs.Refusals.{refusal_or}
use Rattle.stun_numbers.specs.declared.refusal.Refusal.{Refusal}
use Rattle.stun_numbers.specs.declared.refusal.Refusal.TheVariants.{BadArgument, NotAllowed, OutOfMemory}
use Rattle.stun_c_endpoint.specs.Extended.{AddsFurther, has_all, has_one_more, is_broken, is_refused}
use Rattle.stun_c_endpoint.specs.Extended.{EndsAs, ExtendsTo, is_kept_from_checks, refusal_of_page}
use Rattle.stun_c_endpoint.specs.Extended.{with_further}

-- what the rest comes to after a check, all of the bytes come to after the one with which they begin
abbrev pub After : List ℕ → List ℕ → List ℕ → List ℕ → Type 0
After page rest first all =
    (result : Result (List ℕ) Refusal) → AddsFurther page rest result → AddsFurther first all result

pub after_all : (first all : List ℕ) → After first all first all
after_all first all result adds = adds

pub ending : (page rest first all : List ℕ) → After page rest first all → rest ≡ []
    → AddsFurther first all (Ok page)
ending page rest first all after is =
    after (Ok page) (subst (λ l. AddsFurther page l (Ok page)) (sym is) (has_all page))

pub breaking : (page rest first all : List ℕ) → After page rest first all → rest ≢ []
    → has_attribute rest ≡ false → AddsFurther first all (Err BadArgument)
breaking page rest first all after left broken =
    after (Err BadArgument) (is_broken page rest left broken)

pub stopping : (page rest first all : List ℕ) (a : TypedValue) (refusal : Refusal)
    → After page rest first all → has_attribute rest ≡ true → a ≡ first_attribute rest
    → (refusal ≡ OutOfMemory) ⊎ (with_further page a ≡ Err refusal)
    → (refusal ≡ OutOfMemory) ⊎ AddsFurther first all (Err refusal)
stopping page rest first all a refusal after whole is (inl memory) = inl memory
stopping page rest first all a refusal after whole is (inr why) =
    inr (after (Err refusal) (is_refused page rest refusal whole
    (subst (λ x. with_further page x ≡ Err refusal) is why)))

pub going : (page next rest behind first all : List ℕ) (a : TypedValue)
    → After page rest first all → has_attribute rest ≡ true → a ≡ first_attribute rest
    → with_further page a ≡ Ok next
    → behind ≡ drop (attribute_length (length a.value)) rest → After next behind first all
going page next rest behind first all a after whole is ok cut result adds =
    after result (has_one_more page next rest result whole
    (subst (λ x. with_further page x ≡ Ok next) is ok)
    (subst (λ x. AddsFurther next (drop (attribute_length (length x.value)) rest) result) is
    (subst (λ l. AddsFurther next l result) cut adds)))

-- ---- laws

nothing_added : (page bytes : List ℕ) (result : Result (List ℕ) Refusal) → AddsFurther page bytes result
    → bytes ≡ [] → result ≡ Ok page
nothing_added page bytes result (has_all _) none = refl
nothing_added page bytes result (is_broken _ _ some broken) none = absurd (some none)
nothing_added page bytes result (is_refused _ _ refusal whole why) none =
    let e : false ≡ true = subst (λ l. has_attribute l ≡ true) none whole in cc
nothing_added page bytes result (has_one_more _ next _ _ whole ok rest) none =
    let e : false ≡ true = subst (λ l. has_attribute l ≡ true) none whole in cc

pub nothing_more : (a : Agent) (peer : Peer) (id : ℕ) (to : SocketAddr) (priority : ℕ)
    (nominate : Bool) (check : SentCheck) → ExtendsTo a peer id to priority nominate [] (Ok check)
    → check ≡ sent_check a peer id to priority nominate
unfolding check_bytes
nothing_more a peer id to priority nominate check (added, adds, ends) =
    subst (λ r. EndsAs a peer id to nominate r (Ok check)) (nothing_added _ _ _ adds refl) ends

own_stops : (page : List ℕ) (a : TypedValue) → is_kept_from_checks a.kind ≡ true
    → with_further page a ≡ Err NotAllowed
own_stops page a own =
    ap (λ is. if is then Err NotAllowed else refusal_or
    (refusal_of_page (attribute_refusal page (LENGTH_LIMIT - length page) a.kind (length a.value)))
    (Ok (with_attribute page a))) own

pub own_refused : (page bytes : List ℕ) (result : Result (List ℕ) Refusal)
    → has_attribute bytes ≡ true → is_kept_from_checks (first_attribute bytes).kind ≡ true
    → AddsFurther page bytes result → result ≡ Err NotAllowed
own_refused page bytes result whole own (has_all _) = let e : false ≡ true = whole in cc
own_refused page bytes result whole own (is_broken _ _ some broken) = cc
own_refused page bytes result whole own (is_refused _ _ refusal again why) =
    sym why ∙ own_stops page (first_attribute bytes) own
own_refused page bytes result whole own (has_one_more _ next _ _ again ok rest) =
    let e : Ok next ≡ Err NotAllowed = sym ok ∙ own_stops page (first_attribute bytes) own in cc

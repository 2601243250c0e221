-- What holds of the empty page of a request, and stays when an attribute is added to a page, holds
-- of the bytes of the request.
use Rattle.std.proofs.Common.{◌≡◌, ◌-◌, ◌∷◌, [], ℕ, Bool, true, false, List, Option, Some, None}
use Rattle.std.proofs.Common.{Result, Ok, Err, cond, length, refl, subst}
use Rattle.std.specs.Prelude.{nat_lt}
use Rattle.stun_base.specs.declared.wire.error.StunWriteError.{StunWriteError}
use Rattle.stun_base.specs.declared.wire.error.StunWriteError.TheVariants.{TooLarge}
use Rattle.stun_base.specs.declared.wire.message_type.MessageClass.TheVariants.{Request}
use Rattle.stun_types.specs.Attribute.{TypedValue}
use Rattle.stun_types.specs.Limits.{TEXT_LIMIT}
use Rattle.stun_types.specs.Writing.{empty_message, integrity_attribute, with_attribute}
use Rattle.stun_judging.specs.Additions.{Addition, Page, added_all, added_one, addition_refusal}
use Rattle.stun_judging.specs.Additions.{after, attribute, growth_of, integrity, page_of}
use Rattle.stun_judging.specs.Additions.{page_unless_refused, with_addition}
use Rattle.stun_extra.specs.AttributeTypes.{SOFTWARE}
use Rattle.stun_extra.specs.Fingerprint.{fingerprint_attribute, with_fingerprint}
use Rattle.stun_client.specs.Challenges.{Answered}
use Rattle.stun_client.specs.Judging.{Identity}
use Rattle.stun_client.specs.Signing.{additions_of}
use Rattle.stun_client_endpoint.specs.Bodies.{Body, attribute_for}
use Rattle.stun_client_endpoint.specs.Written.{Form, Page?, and_then, closed_request, completed_request}
use Rattle.stun_client_endpoint.specs.Written.{is_text_too_long, page_bytes, request_bytes, unless}
use Rattle.stun_client_endpoint.specs.Written.{whole_request, with_another, with_body}
use Rattle.stun_client_endpoint.specs.Written.{with_credentials, with_one, with_own_end}
use Rattle.stun_client_endpoint.specs.Written.{with_own_software}

then_is : (r : Page?) (next : List ℕ → Page?) (bytes : List ℕ) → and_then r next ≡ Ok bytes
    → (page : List ℕ) × (r ≡ Ok page) × (next page ≡ Ok bytes)
then_is (Err why) next bytes is = cc
then_is (Ok page) next bytes is = (page, refl, is)

unless_is : (o : Option StunWriteError) (page bytes : List ℕ) → unless o page ≡ Ok bytes
    → page ≡ bytes
unless_is None page bytes is = cc
unless_is (Some why) page bytes is = cc

module _ (P : List ℕ → Type 0)
    (added : (page : List ℕ) (a : TypedValue) → P page → P (with_attribute page a)) where
  same_has : (page bytes : List ℕ) → P page → ◌≡◌ {A = Page?} (Ok page) (Ok bytes) → P bytes
  same_has page bytes has is = let same : page ≡ bytes = cc in subst P same has

  another_has : (a : TypedValue) (page bytes : List ℕ) → P page → with_another a page ≡ Ok bytes
      → P bytes
  another_has a page bytes has is =
      subst P (unless_is _ (with_attribute page a) bytes is) (added page a has)

  one_has : (a : TypedValue) (page bytes : List ℕ) → P page → with_one a page ≡ Ok bytes → P bytes
  one_has a page bytes has is =
      subst P (unless_is _ (with_attribute page a) bytes is) (added page a has)

  body_has : (id : ℕ) (body : Body) (page bytes : List ℕ) → P page
      → with_body id body page ≡ Ok bytes → P bytes
  body_has id [] page bytes has is = same_has page bytes has is
  body_has id (piece ∷ others) page bytes has is =
      let first = then_is (with_another (attribute_for id piece) page) (with_body id others) bytes is in
      body_has id others first.0 bytes
      (another_has (attribute_for id piece) page first.0 has first.1) first.2

  software_has : (software : Option (List ℕ)) (page bytes : List ℕ) → P page
      → with_own_software software page ≡ Ok bytes → P bytes
  software_has None page bytes has is = same_has page bytes has is
  software_has (Some text) page bytes has is = by (nat_lt TEXT_LIMIT (length text)) is
    where
      by : (b : Bool)
          → cond b (Err TooLarge) (with_one (record { kind = SOFTWARE; value = text }) page)
          ≡ Ok bytes
          → P bytes
      by true is = cc
      by false is = one_has (record { kind = SOFTWARE; value = text }) page bytes has is

  addition_has : (x : Addition) (page : List ℕ) → P page → P (with_addition x page)
  addition_has (attribute a) page has = added page a has
  addition_has (integrity algorithm key) page has =
      added page (integrity_attribute page algorithm key) has

  added_has : (x : Addition) (p q : Page) → P p.bytes → added_one x p ≡ Ok q → P q.bytes
  unfolding added_one
  added_has x p q has is = by (addition_refusal x p) is
    where
      by : (o : Option StunWriteError)
          → page_unless_refused o
          (record { bytes = with_addition x p.bytes; room = p.room - growth_of x }) ≡ Ok q
          → P q.bytes
      by None is =
          subst (λ (r : Result Page StunWriteError). P (bytes_of r)) is
          (addition_has x p.bytes has)
        where
          bytes_of : Result Page StunWriteError → List ℕ
          bytes_of (Err why) = []
          bytes_of (Ok page) = page.bytes
      by (Some why) is = cc

  all_has : (list : List Addition) (p q : Page) → P p.bytes → added_all list p ≡ Ok q → P q.bytes
  all_has [] p q has is = let same : p ≡ q = cc in subst (λ (r : Page). P r.bytes) same has
  all_has (x ∷ others) p q has is = by (added_one x p) refl is (λ m more. all_has others m q more)
    where
      by : (r : Result Page StunWriteError) → added_one x p ≡ r → after r (added_all others) ≡ Ok q
          → ((m : Page) → P m.bytes → added_all others m ≡ Ok q → P q.bytes)
          → P q.bytes
      by (Err why) first is rest = cc
      by (Ok m) first is rest = rest m (added_has x p m has first) is

  credentials_has : (identity : Identity) (challenge : Option Answered) (page bytes : List ℕ)
      → P page → with_credentials identity challenge page ≡ Ok bytes → P bytes
  credentials_has identity challenge page bytes has is =
      by (added_all (additions_of identity challenge) (page_of page)) refl is
    where
      by : (r : Result Page StunWriteError)
          → added_all (additions_of identity challenge) (page_of page) ≡ r → page_bytes r ≡ Ok bytes
          → P bytes
      by (Err why) all is = cc
      by (Ok q) all is =
          same_has q.bytes bytes
          (all_has (additions_of identity challenge) (page_of page) q has all) is

  end_has : (has_fingerprint : Bool) (page bytes : List ℕ) → P page
      → with_own_end has_fingerprint page ≡ Ok bytes → P bytes
  end_has true page bytes has is =
      subst P (unless_is _ (with_fingerprint page) bytes is)
      (added page (fingerprint_attribute page) has)
  end_has false page bytes has is = same_has page bytes has is

  whole_has : (form : Form) (identity : Identity) (challenge : Option Answered) (method id : ℕ)
      (body : Body) (bytes : List ℕ) → P (empty_message Request method id)
      → whole_request form identity challenge method id body ≡ Ok bytes → P bytes
  whole_has form identity challenge method id body bytes begun is =
      let empty = empty_message Request method id in
      let first =
      then_is (with_body id body empty) (completed_request form identity challenge) bytes is in
      let filled = body_has id body empty first.0 begun first.1 in
      let second =
      then_is (with_own_software form.software first.0) (closed_request form identity challenge) bytes
      first.2 in
      let named = software_has form.software first.0 second.0 filled second.1 in
      let third =
      then_is (with_credentials identity challenge second.0) (with_own_end form.has_fingerprint) bytes
      second.2 in
      let signed = credentials_has identity challenge second.0 third.0 named third.1 in
      end_has form.has_fingerprint third.0 bytes signed third.2

  pub request_has : (form : Form) (identity : Identity) (challenge : Option Answered)
      (method id : ℕ) (body : Body) (bytes : List ℕ) → P (empty_message Request method id)
      → request_bytes form identity challenge method id body ≡ Ok bytes → P bytes
  unfolding request_bytes
  request_has form identity challenge method id body bytes begun is =
      by (is_text_too_long form.software) is
    where
      by : (b : Bool)
          → cond b (Err TooLarge) (whole_request form identity challenge method id body) ≡ Ok bytes
          → P bytes
      by true is = cc
      by false is = whole_has form identity challenge method id body bytes begun is

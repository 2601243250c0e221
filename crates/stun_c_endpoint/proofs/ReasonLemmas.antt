-- The numbers for the reasons to drop a datagram tell these apart.
use Rattle.std.proofs.Common.{◌≡◌, ◌∙◌, ◌==◌, if◌then◌else◌, ℕ, Option, Some, None, refl, sym, ap}
use Rattle.stun_endpoint.specs.declared.received.DropReason.{DropReason}
use Rattle.stun_endpoint.specs.declared.received.DropReason.TheVariants as reason
use Rattle.stun_endpoint.specs.declared.received.Refusal.TheVariants as refused
use Rattle.stun_c_endpoint.specs.Told.{drop_code, drop_number}

abbrev reason_numbered : ℕ → ℕ → Option DropReason
reason_numbered n code =
    if n == 1 then Some reason.NotStun
    else if n == 2 then Some reason.Malformed
    else if n == 3 then Some reason.WrongFingerprint
    else if n == 4 then Some reason.UnknownAttribute
    else if n == 13 then Some reason.MissingFingerprint
    else if n == 16 then Some reason.OtherRealm
    else if code == 400 then Some (reason.NotSigned refused.BadRequest)
    else if code == 401 then Some (reason.NotSigned refused.Unauthenticated)
    else if code == 420 then Some (reason.NotSigned refused.UnknownAttribute)
    else Some (reason.NotSigned refused.StaleNonce)

reason_again : (why : DropReason) → reason_numbered (drop_number why) (drop_code why) ≡ Some why
reason_again reason.NotStun = refl
reason_again reason.Malformed = refl
reason_again reason.WrongFingerprint = refl
reason_again reason.MissingFingerprint = refl
reason_again reason.UnknownAttribute = refl
reason_again reason.OtherRealm = refl
reason_again (reason.NotSigned refused.BadRequest) = refl
reason_again (reason.NotSigned refused.Unauthenticated) = refl
reason_again (reason.NotSigned refused.UnknownAttribute) = refl
reason_again (reason.NotSigned refused.StaleNonce) = refl

same_reason : (one other : DropReason) → Some one ≡ Some other → one ≡ other
same_reason one other is = cc

pub reasons_apart : (one other : DropReason) → drop_number one ≡ drop_number other
    → drop_code one ≡ drop_code other → one ≡ other
reasons_apart one other why code =
    same_reason one other
    (sym (reason_again one) ∙ ap (λ n. reason_numbered n (drop_code one)) why
    ∙ ap (reason_numbered (drop_number other)) code ∙ reason_again other)

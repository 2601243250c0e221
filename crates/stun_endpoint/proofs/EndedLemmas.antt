-- A response that is ended was refused nothing.
use Rattle.std.proofs.Common.{◌≡◌, ℕ, List, Bool, true, refl, Option, Some, None, ◌∙◌, ap, sym}
use Rattle.std.proofs.Common.{Ok, Err}
use Rattle.std.specs.Option.{option_or}
use Rattle.std.specs.Prelude.{IsOkUnless, MatchOption}
use Rattle.stun_base.specs.declared.wire.error.StunWriteError.{StunWriteError}
use Rattle.stun_base.specs.declared.wire.error.StunWriteError.TheVariants.{OutOfMemory}
use Rattle.stun_extra.specs.Fingerprint.{fingerprint_refusal}
use Rattle.stun_endpoint.specs.Answers.{Signature, with_signature, with_software}
use Rattle.stun_endpoint.specs.Ended.{finish_refusal, refused_signature, refused_software}
use Rattle.stun_endpoint.specs.Ended.{room_after}

none-of : {T : Type 0} (o : Option StunWriteError) (x : T)
    → MatchOption o (IsOkUnless (Ok x) OutOfMemory) (λ why. Ok x ≡ Err why) → o ≡ None
none-of None x h = refl
none-of (Some why) x h = cc

-- what was added has no reason to be refused
pub refused_nothing : {T U V : Type 0} (software : Option (List ℕ)) (signature : Option Signature)
    (has : Bool) (page one two : List ℕ) (x : T) (y : U) (z : V) → has ≡ true
    → one ≡ with_software software page
    → MatchOption (refused_software software page) (IsOkUnless (Ok x) OutOfMemory)
    (λ why. Ok x ≡ Err why)
    → two ≡ with_signature signature one
    → MatchOption (refused_signature signature one) (IsOkUnless (Ok y) OutOfMemory)
    (λ why. Ok y ≡ Err why)
    → MatchOption (fingerprint_refusal two (room_after two)) (IsOkUnless (Ok z) OutOfMemory)
    (λ why. Ok z ≡ Err why)
    → finish_refusal (record {
      software = software;
      signature = signature;
      has_fingerprint = has;
    }) page ≡ None
refused_nothing software signature has page one two x y z is described first signed second third =
    let none_first : refused_software software page ≡ None =
    none-of (refused_software software page) x first in
    let none_second : refused_signature signature one ≡ None =
    none-of (refused_signature signature one) y second in
    let none_third : fingerprint_refusal two (room_after two) ≡ None =
    none-of (fingerprint_refusal two (room_after two)) z third in
    cc

-- The errors of a verdict, and the English texts for the numbers of errors.
use Rattle.std.specs.Prelude.{ℕ, ℤ, pos, int_lt, unsigned_abs, List, [], ◌∷◌, ◌++◌, codes, ◌==◌}
use Rattle.std.specs.Prelude.{if◌then◌else◌}
use Rattle.stun_base.specs.declared.wire.error.StunParseError.{StunParseError}
use Rattle.stun_base.specs.declared.wire.error.StunParseError.TheVariants as Parse
use Rattle.stun_base.specs.declared.wire.error.ValidateError.{ValidateError}
use Rattle.stun_base.specs.declared.wire.error.ValidateError.TheVariants as Validate
use Rattle.stun_numbers.specs.declared.refusal.Refusal.{Refusal}
use Rattle.stun_numbers.specs.declared.refusal.Refusal.TheVariants.{Truncated, NotStun, TooLarge}
use Rattle.stun_numbers.specs.declared.refusal.Refusal.TheVariants.{NoIntegrity, MalformedIntegrity}
use Rattle.stun_numbers.specs.declared.refusal.Refusal.TheVariants.{IntegrityFailed}

-- the error for a failed verdict: what is missing or malformed there is the integrity attribute
abbrev pub refusal_of_integrity : StunParseError → Refusal
refusal_of_integrity Parse.Truncated = Truncated
refusal_of_integrity Parse.NotStun = NotStun
refusal_of_integrity Parse.TooLarge = TooLarge
refusal_of_integrity (Parse.MissingAttribute _) = NoIntegrity
refusal_of_integrity Parse.InvalidAttributeData = MalformedIntegrity

abbrev pub refusal_of_verdict : ValidateError → Refusal
refusal_of_verdict (Validate.Parse error) = refusal_of_integrity error
refusal_of_verdict Validate.IntegrityFailed = IntegrityFailed

-- a text with the zero byte that ends it in C
abbrev pub ended_text : List ℕ → List ℕ
ended_text text = text ++ 0 ∷ []

-- the text for the error of a number, without its sign
unfoldable pub refusal_text : ℕ → List ℕ
refusal_text number =
    if number == 1 then ended_text (codes "bytes are missing at the end")
    else if number == 2 then ended_text (codes "the bytes are not a STUN message")
    else if number == 3 then ended_text (codes "bytes come after the message")
    else if number == 4 then ended_text (codes "the message has no integrity attribute")
    else if number == 5 then ended_text (codes "the integrity attribute is malformed")
    else if number == 6 then ended_text (codes "the digest is not that of the message")
    else if number == 7 then ended_text (codes "an argument is out of range")
    else if number == 8 then ended_text (codes "a text is not UTF-8")
    else if number == 9 then ended_text (codes "a text is too long for its attribute")
    else if number == 10 then ended_text (codes "the buffer is too small")
    else if number == 11 then ended_text (codes "the attribute is not written by this call")
    else if number == 12
    then ended_text (codes "the message is closed by an integrity attribute or FINGERPRINT")
    else if number == 13 then ended_text (codes "the message has an attribute of this type")
    else if number == 14 then ended_text (codes "the message would be too long")
    else if number == 15 then ended_text (codes "the attribute is missing")
    else if number == 16 then ended_text (codes "the attribute is malformed")
    else if number == 17 then ended_text (codes "an allocation failed")
    else if number == 18 then ended_text (codes "the handle is empty")
    else if number == 19 then ended_text (codes "the handle is full already")
    else if number == 20 then ended_text (codes "a request of this id is outstanding")
    else if number == 21
    then ended_text (codes "this call does not take the message or its address")
    else if number == 22 then ended_text (codes "the message is not sufficiently authenticated")
    else if number == 23 then ended_text (codes "the request is not well-formed")
    else if number == 24 then ended_text (codes "the nonce is not the current one")
    else if number == 25 then ended_text (codes "a required feature is not supported")
    else if number == 26 then ended_text (codes "a request would be sent again without a wait")
    else if number == 27 then ended_text (codes "as many addresses are kept as may be")
    else if number == 28 then ended_text (codes "there is no key to sign with")
    else if number == 29 then ended_text (codes "the handle has a value of another kind, realm or algorithm")
    else ended_text (codes "unknown refusal")

-- the text for a result
abbrev pub error_text : ℤ → List ℕ
error_text answer =
    if int_lt answer (pos 0) then refusal_text (unsigned_abs answer)
    else ended_text (codes "no error")

-- What each command prints when it has a result, for a reader and a writer whose bytes contracts
-- can refer to. Contracts cannot refer to the bytes of the real standard input and output.
use Rattle.std.specs.Prelude.{◌≡◌, ◌≢◌, ℕ, List, [], ◌∷◌, ◌++◌, codes, true}
use Rattle.std.specs.Prelude.{Option, Some, None, Result, IfSome, IfOk}
use Rattle.std.specs.Io.KnownBytes.{Appends}
use Rattle.hex.specs.Hex.{encode_lower}
use Rattle.stun_base.specs.Keys.{short_term_key, long_term_key, userhash_of}
use Rattle.stun_base.specs.Keys.OfCredentials.{keys_of}
use Rattle.stun_base.specs.declared.keys.algorithm.IntegrityAlgorithm.{IntegrityAlgorithm}
use Rattle.stun_inspect.specs.declared.command.Command.{Command}
use Rattle.stun_inspect.specs.declared.command.Command.TheVariants.{Help, Version, Decode}
use Rattle.stun_inspect.specs.declared.command.Command.TheVariants.{List as Listing}
use Rattle.stun_inspect.specs.declared.command.Command.TheVariants.{Verify, Key, Userhash, Nonce}
use Rattle.stun_inspect.specs.declared.command.User.{User}
use Rattle.stun_inspect.specs.declared.teller.Teller.{Teller}
use Rattle.stun_inspect.specs.declared.teller.Teller.TheVariants.{Decode as Decoding}
use Rattle.stun_inspect.specs.declared.teller.Teller.TheVariants.{List as ListingEach}
use Rattle.stun_inspect.specs.declared.teller.Teller.TheVariants.{Verify as Verifying}
use Rattle.stun_inspect.specs.declared.failure.Failure.{Failure}
use Rattle.stun_cli.specs.declared.status.Status.{Status}
use Rattle.stun_cli.specs.declared.status.Status.TheVariants.{Good}
use Rattle.stun_inspect.specs.Decode.{PrintsDecoded}
use Rattle.stun_inspect.specs.Input.{is_raw}
use Rattle.stun_inspect.specs.Listed.{PrintsListed}
use Rattle.stun_cli.specs.Line.{IsLine}
use Rattle.stun_cli.specs.Verdict.{verdict_of}
use Rattle.stun_inspect.specs.Verify.{PrintsVerdictAndNotes}

-- the key for each algorithm: of a user at a realm, or of a password alone (RFC 8489, sections
-- 9.1.1 and 9.2.2)
abbrev pub keys_for : Option User → List ℕ → IntegrityAlgorithm → List ℕ
keys_for None password = short_term_key password
keys_for (Some user) password =
    λ algorithm. long_term_key algorithm user.name.now user.realm.now password

-- what a command prints for a message, and the status for this message
abbrev pub PrintsResult : {B : Type 0} → Teller B → List ℕ → Status → Option (List ℕ)
    → Option (List ℕ) → Type 0
PrintsResult Decoding message status before after = PrintsDecoded message status before after
PrintsResult ListingEach message status before after = PrintsListed message status before after
PrintsResult (Verifying user credentials) message status before after =
    PrintsVerdictAndNotes (verdict_of message (keys_of credentials.now)) status before after

-- a text is printed, and the status is good
abbrev pub PrintsText : List ℕ → Status → Option (List ℕ) → Option (List ℕ) → Type 0
PrintsText text status before after = (status ≡ Good) × Appends before after text

-- one line is printed
abbrev pub PrintsLine : Status → Option (List ℕ) → Option (List ℕ) → Type 0
PrintsLine status before after = (line : List ℕ) × IsLine line × PrintsText line status before after

-- bytes are printed as a line of hexadecimal digits
abbrev pub PrintsDigits : List ℕ → Status → Option (List ℕ) → Option (List ℕ) → Type 0
PrintsDigits bytes status before after =
    PrintsText (encode_lower bytes ++ 10 ∷ []) status before after

-- what a command returns and prints. For a message this is said if the input is raw and the
-- password is among the arguments
abbrev pub Answers : Command → Option (List ℕ) → Result Status Failure → Option (List ℕ)
    → Option (List ℕ) → Type 0
Answers Help given result before after = IfOk result (λ status. status ≡ Good)
Answers Version given result before after =
    IfOk result (λ status. PrintsText (codes "stun_inspect 0.3.0" ++ 10 ∷ []) status before after)
Answers Decode given result before after =
    IfSome given
    (λ input. IfOk result (λ status. is_raw input ≡ true → PrintsDecoded input status before after))
Answers Listing given result before after =
    IfSome given
    (λ input. IfOk result (λ status. is_raw input ≡ true → PrintsListed input status before after))
Answers (Verify who) given result before after =
    who.password.now ≢ codes "-" → IfSome given (λ input. IfOk result (λ status. is_raw input ≡ true
    → PrintsVerdictAndNotes (verdict_of input (keys_for who.user who.password.now)) status before
    after))
Answers (Key algorithm user password) given result before after =
    password.now ≢ codes "-" → IfOk result (λ status.
    PrintsDigits (long_term_key algorithm user.name.now user.realm.now password.now) status before
    after)
Answers (Userhash user) given result before after =
    IfOk result (λ status. PrintsDigits
    (userhash_of user.name.now user.realm.now) status before after)
Answers (Nonce nonce) given result before after =
    IfOk result (λ status. PrintsLine status before after)

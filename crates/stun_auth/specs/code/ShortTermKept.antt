-- What a short-term authenticator stores.
use Rattle.std.specs.Prelude.{◌≡◌, Option}
use Rattle.std.specs.Option.{ForSome, option_map}
use Rattle.stun_auth.specs.ShortTerm.{Secret}
use Rattle.stun_auth.specs.declared.short_term.KeptPassword.{KeptPassword}

-- the password and the algorithm
abbrev pub short_term_secret : {A : Type 0} → Option (KeptPassword A) → Option Secret
short_term_secret kept =
    option_map (λ k. record { password = k.credentials; algorithm = k.algorithm }) kept

-- the key is the password's bytes
abbrev pub KeyIsPassword : {A : Type 0} → Option (KeptPassword A) → Type 0
KeyIsPassword kept = ForSome kept (λ k. k.key ≡ k.credentials)

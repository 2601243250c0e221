-- How the key of credentials stores its bytes.
use Rattle.std.specs.Prelude.{ℕ, List}
use Rattle.stun_base.specs.declared.keys.credentials.CredentialsKeyBytes.{CredentialsKeyBytes}
use Rattle.stun_base.specs.declared.keys.credentials.CredentialsKeyBytes.TheVariants.{Password}
use Rattle.stun_base.specs.declared.keys.credentials.CredentialsKeyBytes.TheVariants.{Made}

-- the bytes, wherever they are
abbrev pub credentials_key_bytes : {A : Type 0} → CredentialsKeyBytes A → List ℕ
credentials_key_bytes (Password bytes) = bytes.now
credentials_key_bytes (Made key) = key

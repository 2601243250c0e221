-- The secret of a user, as it is stored.
use Rattle.std.specs.String.{string_bytes}
use Rattle.stun_judging.specs.declared.user_secret.UserSecret.{UserSecret as KeptSecret}
use Rattle.stun_judging.specs.declared.user_secret.UserSecret.TheVariants.{Password, Keys}
use Rattle.stun_judging.specs.Registered.{UserSecret, of_keys, of_password}

abbrev pub secret_seen : {A : Type 0} → KeptSecret A → UserSecret
secret_seen (Password password) = of_password (string_bytes password)
secret_seen (Keys keys) = of_keys keys

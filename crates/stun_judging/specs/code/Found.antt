-- The secret of a user who was found, as it is passed.
use Rattle.stun_judging.specs.declared.found.FoundSecret.{FoundSecret}
use Rattle.stun_judging.specs.declared.found.FoundSecret.TheVariants.{Password, Keys}
use Rattle.stun_judging.specs.Registered.{UserSecret, of_keys, of_password}

abbrev pub found_secret : FoundSecret → UserSecret
found_secret (Password password) = of_password password.now
found_secret (Keys keys) = of_keys keys

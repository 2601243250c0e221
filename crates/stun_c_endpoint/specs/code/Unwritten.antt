-- The error for a check that is not written.
use Rattle.stun_ice.specs.declared.checker.CheckError.{CheckError}
use Rattle.stun_ice.specs.declared.checker.CheckError.TheVariants.{NoRemote}
use Rattle.stun_ice.specs.declared.checker.CheckError.TheVariants.{OutOfMemory as NoMemory}
use Rattle.stun_numbers.specs.declared.refusal.Refusal.{Refusal}
use Rattle.stun_numbers.specs.declared.refusal.Refusal.TheVariants.{CannotSign, OutOfMemory}

abbrev pub refusal_of_check : CheckError → Refusal
refusal_of_check NoRemote = CannotSign
refusal_of_check NoMemory = OutOfMemory

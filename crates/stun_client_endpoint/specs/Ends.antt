-- How requests end, and what is dropped for them (RFC 8489, sections 6.3.3, 6.3.4 and 9.2.5).
use Rattle.std.specs.Prelude.{ℕ, ◌+◌, Option, Some, None, min}
use Rattle.stun_client.specs.declared.judged.Distrust.{Distrust}
use Rattle.stun_client.specs.declared.judged.Distrust.TheVariants as Distrusts
use Rattle.stun_client_endpoint.specs.declared.ended.DropReason.{DropReason}
use Rattle.stun_client_endpoint.specs.declared.ended.DropReason.TheVariants.{WrongFingerprint}
use Rattle.stun_client_endpoint.specs.declared.ended.DropReason.TheVariants.{MissingFingerprint}
use Rattle.stun_client_endpoint.specs.declared.ended.DropReason.TheVariants.{NotVerified}
use Rattle.stun_client_endpoint.specs.declared.ended.DropReason.TheVariants.{UnanswerableChallenge}
use Rattle.stun_client_endpoint.specs.declared.ended.DropReason.TheVariants.{WeakerChallenge}
use Rattle.stun_client_endpoint.specs.declared.ended.Drops.{Drops}

-- why a response is dropped, given why it is not believed
abbrev pub reason_of : Distrust → DropReason
reason_of Distrusts.WrongFingerprint = WrongFingerprint
reason_of Distrusts.MissingFingerprint = MissingFingerprint
reason_of Distrusts.NotVerified = NotVerified
reason_of Distrusts.UnanswerableChallenge = UnanswerableChallenge
reason_of Distrusts.WeakerChallenge = WeakerChallenge

abbrev pub no_drops : Drops
no_drops = record { count = 0; last = None; code = None }

-- the drops of a request after one more response was dropped. The count stops at its greatest
-- number
abbrev pub after_drop : DropReason → Option ℕ → Drops → Drops
after_drop why code drops =
    record { count = min (drops.count + 1) 4294967295; last = Some why; code = code }

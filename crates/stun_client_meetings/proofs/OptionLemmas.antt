-- A request that is signed, and answered by the server, is as one without options.
use Rattle.std.proofs.Common.{◌≡◌, Bool, true, false, Option, Some, None, ap, cond, refl}
use Rattle.std.specs.declared.net.socket_addr.SocketAddr.{SocketAddr}
use Rattle.stun_extra.specs.CanonicalAddress.{is_same_address}
use Rattle.stun_client.specs.Challenges.{Answered}
use Rattle.stun_client.specs.Judging.{Identity, unsigned}
use Rattle.stun_client_calls.specs.Options.{Options, address_by, challenge_by, identity_by}
use Rattle.stun_client_meetings.specs.Meeting.{ClientSide, IsMeetable}

-- who the client is for it
pub signs_by : (side : ClientSide) (options : Option Options) (identity : Identity)
    → IsMeetable side options → identity_by options identity ≡ identity
signs_by side None identity meetable = refl
signs_by side (Some o) identity meetable = ap (λ b. cond b identity unsigned) meetable.signed

-- where its responses come from
pub hears_by : (side : ClientSide) (options : Option Options) (server : SocketAddr)
    → IsMeetable side options → is_same_address side.server server ≡ true
    → is_same_address side.server (address_by options server) ≡ true
hears_by side None server meetable hears = hears
hears_by side (Some o) server meetable hears = meetable.from_server

-- without a challenge it is not signed yet
pub none_by : (options : Option Options) → challenge_by options None ≡ None
none_by None = refl
none_by (Some o) = by o.is_signed
  where
    by : (b : Bool) → ◌≡◌ {A = Option Answered} (cond b None None) None
    by true = refl
    by false = refl

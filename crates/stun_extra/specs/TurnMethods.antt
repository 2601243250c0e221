-- The methods of TURN (RFC 8656, section 17).
use Rattle.std.specs.Prelude.{ℕ, Option, Some, None, ◌==◌, if◌then◌else◌}
use Rattle.stun_extra.specs.declared.turn.TurnMethod.{TurnMethod}
use Rattle.stun_extra.specs.declared.turn.TurnMethod.TheVariants.{Allocate, Refresh, Send, Data}
use Rattle.stun_extra.specs.declared.turn.TurnMethod.TheVariants.{CreatePermission, ChannelBind}

-- the number of a method
abbrev pub method_number : TurnMethod → ℕ
method_number Allocate = 0x003
method_number Refresh = 0x004
method_number Send = 0x006
method_number Data = 0x007
method_number CreatePermission = 0x008
method_number ChannelBind = 0x009

-- the method of a number, if it is one of TURN
abbrev pub turn_method_of : ℕ → Option TurnMethod
turn_method_of number =
    if number == 0x003 then Some Allocate
    else (if number == 0x004 then Some Refresh
    else (if number == 0x006 then Some Send
    else (if number == 0x007 then Some Data
    else (if number == 0x008 then Some CreatePermission
    else (if number == 0x009 then Some ChannelBind else None)))))

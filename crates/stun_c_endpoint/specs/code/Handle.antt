-- The value that a handle has, and how the logic stores that there is one.
use Rattle.std.specs.Prelude.{Option}
use denote.RattleType.{RattleType}
use Rattle.std.specs.Coded.{Coded, coded_option}
use Rattle.stun_c_endpoint.specs.contracts.handle.endpoint.Kept as kept

-- a server, a table of users, an ICE agent or a client
abbrev pub kept_row : RattleType
kept_row = kept.the_row

abbrev pub kept_coded : Coded (Option kept_row.Denot)
kept_coded = coded_option kept_row.coded

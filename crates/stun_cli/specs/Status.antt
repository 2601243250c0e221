-- The exit statuses of the programs.
use Rattle.std.specs.Prelude.{ℕ}
use Rattle.stun_cli.specs.declared.status.Status.{Status}
use Rattle.stun_cli.specs.declared.status.Status.TheVariants.{Good, Bad, Failed, NotJudged}

-- 0 for a good result, 1 for a refusal or a failure, 2 if nothing was judged
abbrev pub exit_code : Status → ℕ
exit_code Good = 0
exit_code Bad = 1
exit_code Failed = 1
exit_code NotJudged = 2

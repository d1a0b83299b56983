use Rattle.std.proofs.Common.{◌≡◌, drop}
use Rattle.command_line.specs.CommandLine.{Given, first_idle, settings}
use Rattle.command_line.specs.Matches.{IsGiven}
use Rattle.command_line.proofs.options.idle_given.Given as goal

abbrev pub invariant-loop-setting : goal.invariant-loop-setting
invariant-loop-setting l = (given : Given) → IsGiven given l.matches → first_idle l.mode given (drop l.setting-index settings) ≡ first_idle l.mode given settings

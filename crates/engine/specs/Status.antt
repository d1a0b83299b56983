-- The exit status of the program.
use Rattle.std.specs.Prelude.{◌≡◌, ◌⊎◌, ℕ, List, Result, Ok, Err}
use Rattle.meaning.specs.declared.ending.Ending.{Ending}
use Rattle.meaning.specs.declared.ending.Ending.TheVariants as endings
use Rattle.meaning.specs.declared.refusal.Broken.{Broken}
use Rattle.meaning.specs.Names.{fault_name, rule_name}
use Rattle.meaning.specs.Trees.{Nested}
use Rattle.command_line.specs.declared.asked.OptionsFault.{OptionsFault}
use Rattle.command_line.specs.declared.asked.OptionsFault.TheVariants as faults
use Rattle.rule_help.specs.Named.{IsNoFault, IsNoRule, Spells}
use Rattle.engine.specs.declared.running.NoRun.{NoRun}
use Rattle.engine.specs.declared.running.NoRun.TheVariants as no_runs

-- of a source that was run
abbrev pub status_of : Ending → ℕ
status_of endings.Ended = 0
status_of (endings.Stopped message) = 0
status_of (endings.Fault fault) = 1
status_of (endings.Refused rule line) = 2
status_of endings.Memory = 4
status_of endings.WriteRefused = 5

-- how the check of a source ends, by the program unit that it spells or its refusal
abbrev pub ending_of_check : Result Nested Broken → Ending
ending_of_check (Ok unit) = endings.Ended
ending_of_check (Err b) = endings.Refused b.rule b.line

abbrev pub IsCheck : Result Nested Broken → Ending → Type 0
IsCheck spelled ending = (ending ≡ endings.Memory) ⊎ (ending ≡ ending_of_check spelled)

-- of none; a text that is asked for is written, or the write is refused
abbrev pub IsStatusOf : NoRun → ℕ → Type 0
IsStatusOf no_runs.Help status = (status ≡ 0) ⊎ (status ≡ 5)
IsStatusOf no_runs.Version status = (status ≡ 0) ⊎ (status ≡ 5)
IsStatusOf no_runs.Names status = (status ≡ 0) ⊎ (status ≡ 5)
IsStatusOf (no_runs.Rule row) status = (status ≡ 0) ⊎ (status ≡ 5)
IsStatusOf (no_runs.Fault row) status = (status ≡ 0) ⊎ (status ≡ 5)
IsStatusOf (no_runs.NoSuchRule name) status = status ≡ 3
IsStatusOf (no_runs.Faulty fault) status = status ≡ 3
IsStatusOf no_runs.Memory status = status ≡ 4
IsStatusOf no_runs.FileRefused status = status ≡ 5

-- the rule or the fault that has a name
abbrev pub IsNamedBy : List ℕ → NoRun → Type 0
IsNamedBy name (no_runs.Rule row) = Spells name (rule_name row.rule)
IsNamedBy name (no_runs.Fault row) = Spells name (fault_name row.kind)
IsNamedBy name (no_runs.NoSuchRule told) = (told.now ≡ name) × IsNoRule name × IsNoFault name
IsNamedBy name no_runs.Help = ⊥
IsNamedBy name no_runs.Version = ⊥
IsNamedBy name no_runs.Names = ⊥
IsNamedBy name (no_runs.Faulty fault) = ⊥
IsNamedBy name no_runs.Memory = ⊥
IsNamedBy name no_runs.FileRefused = ⊥

-- why no source is run, by what the command line asks for instead
abbrev pub no_run_for : OptionsFault → NoRun
no_run_for faults.Help = no_runs.Help
no_run_for faults.Version = no_runs.Version
no_run_for faults.RuleNames = no_runs.Names
no_run_for faults.Memory = no_runs.Memory
no_run_for fault = no_runs.Faulty fault

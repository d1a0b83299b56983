-- The lines on standard error.
use Rattle.std.specs.Prelude.{ℕ, Bool, true, false, List, [], ◌∷◌, ◌++◌, Option, None, Some, codes}
use Rattle.std.specs.Prelude.{decimal, map, ◌==◌, if◌then◌else◌}
use Rattle.meaning.specs.declared.ending.Ending.{Ending}
use Rattle.meaning.specs.declared.ending.Ending.TheVariants as endings
use Rattle.meaning.specs.declared.ending.Report.{Report}
use Rattle.meaning.specs.Names.{fault_name, rule_name}
use Rattle.messages.specs.Shown.{shown}
use Rattle.engine.specs.declared.running.NoRun.{NoRun}
use Rattle.engine.specs.declared.running.NoRun.TheVariants as no_runs

-- what stands behind STOP: nothing, or a blank and what is told
abbrev pub behind_stop : List ℕ → List ℕ
behind_stop [] = []
behind_stop (c ∷ cs) = 32 ∷ c ∷ cs

-- a word, a name, and the number of a line
abbrev pub line_at : List ℕ → List ℕ → ℕ → List ℕ
line_at word name line = word ++ name ++ codes " LINE " ++ decimal line ++ codes "\n"

-- of an ending
abbrev pub line_of : Ending → List ℕ
line_of endings.Ended = []
line_of (endings.Stopped text) = codes "STOP" ++ behind_stop text ++ codes "\n"
line_of (endings.Fault fault) = line_at (codes "FAULT ") (fault_name fault.kind) fault.line
line_of (endings.Refused rule line) = line_at (codes "REFUSED ") (rule_name rule) line
line_of endings.Memory = codes "NO MEMORY\n"
line_of endings.WriteRefused = codes "WRITE REFUSED\n"

-- of the turns that a run used, where they are asked for and there are any
abbrev pub turns_line : Bool → Option ℕ → List ℕ
turns_line false turns = []
turns_line true None = []
turns_line true (Some turns) = codes "TURNS " ++ decimal turns ++ codes "\n"

-- of a run
abbrev pub lines_of : Bool → Report → List ℕ
lines_of count report = line_of report.ending ++ turns_line count report.turns

-- of a text that was asked for, by its status
abbrev pub line_of_text : ℕ → List ℕ
line_of_text status = if status == 0 then [] else line_of endings.WriteRefused

-- of a name that no rule and no fault has
abbrev pub no_rule_line : List ℕ → List ℕ
no_rule_line name = codes "f77run: there is no rule or fault '" ++ map shown name ++ codes "'; f77run --rule lists them\n"

-- of a command line without a run, by its status; what is wrong with a faulty one isn't said here
abbrev pub line_of_none : NoRun → ℕ → Option (List ℕ)
line_of_none no_runs.Help status = Some (line_of_text status)
line_of_none no_runs.Version status = Some (line_of_text status)
line_of_none no_runs.Names status = Some (line_of_text status)
line_of_none (no_runs.Rule row) status = Some (line_of_text status)
line_of_none (no_runs.Fault row) status = Some (line_of_text status)
line_of_none (no_runs.NoSuchRule name) status = Some (no_rule_line name.now)
line_of_none (no_runs.Faulty fault) status = None
line_of_none no_runs.Memory status = Some (line_of endings.Memory)
line_of_none no_runs.FileRefused status = Some (codes "FILE REFUSED\n")

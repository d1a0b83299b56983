-- What is told to write in place of what is refused or at fault.
use Rattle.std.specs.Prelude.{◌≡◌, ◌⊎◌, ℕ, List, [], Option, Some, None, codes}
use Rattle.meaning.specs.declared.ending.Ending.{Ending}
use Rattle.meaning.specs.declared.ending.Ending.TheVariants as endings
use Rattle.messages.specs.Shown.{hint_line, told_line}
use Rattle.hints.specs.declared.hint.Hint.{Hint}
use Rattle.hints.specs.Faults.{fault_hint}
use Rattle.hints.specs.Forms.{first_hint, forms_of}
use Rattle.hints.specs.Views.{statement_view, view}
use Rattle.messages.specs.declared.hinting.Cause.{Cause}
use Rattle.messages.specs.declared.hinting.Cause.TheVariants as causes

abbrev pub cause_of : Ending → Option Cause
cause_of (endings.Refused rule line) = Some (causes.Rule rule line)
cause_of (endings.Fault fault) = Some (causes.Fault fault.kind fault.line)
cause_of ending = None

-- the hint that there is for it, if there is one
abbrev pub hint_in : List ℕ → Cause → Option Hint
hint_in source (causes.Rule rule line) = first_hint (forms_of rule) (view rule line source)
hint_in source (causes.Fault kind line) = fault_hint kind (statement_view line source)

-- a line exactly where there is a hint
abbrev pub IsHintLine : Option Hint → List ℕ → Type 0
IsHintLine None lines = lines ≡ []
IsHintLine (Some hint) lines = (text : List ℕ) × (lines ≡ hint_line text)

-- where a growth was refused for it, so
abbrev pub IsHinted : List ℕ → Option Cause → List ℕ → Type 0
IsHinted source None lines = lines ≡ []
IsHinted source (Some cause) lines =
    (lines ≡ told_line (codes "NOT TOLD")) ⊎ IsHintLine (hint_in source cause) lines

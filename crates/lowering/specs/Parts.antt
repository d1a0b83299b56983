-- What parts of statements need is what they say.
use Rattle.std.specs.Prelude.{◌≡◌, Bool, true, false}
use Rattle.meaning.specs.declared.syntax.Tree.{Tree}
use Rattle.meaning.specs.Syntax.{ExprTree, ListItemsTree, ShapeTree, arithmetic_if, computed_going}
use Rattle.meaning.specs.Syntax.{going, logical_if}
use Rattle.program.specs.declared.action.Action.{Action}
use Rattle.program.specs.declared.action.Action.TheVariants.{Assign, Output, Test, While}
use Rattle.program.specs.declared.action.Target.{Target}
use Rattle.program.specs.Acts.{is_idle}
use Rattle.program.specs.Codes.{IsCode}
use Rattle.program.specs.Items.{AreItems}

-- an assignment to this place
abbrev pub AssignsTo : Tree → Target → ExprTree → Action → Type 0
AssignsTo t target e (Assign place c) = (place ≡ target) × IsCode t e c
AssignsTo t target e a = ⊥

-- the test of this condition
abbrev pub TestsBy : Tree → ExprTree → Action → Type 0
TestsBy t e (Test c) = IsCode t e c
TestsBy t e a = ⊥

-- the test of a DO WHILE statement with this condition
abbrev pub WhilesBy : Tree → ExprTree → Action → Type 0
WhilesBy t e (While c) = IsCode t e c
WhilesBy t e a = ⊥

-- a WRITE or PRINT statement with the codes of this list
abbrev pub WritesList : Tree → ListItemsTree → Action → Type 0
WritesList t list (Output codes) = AreItems t list codes
WritesList t list a = ⊥

-- ---- kinds of statements

-- no logical IF
abbrev pub is_single : ShapeTree → Bool
is_single (logical_if e s) = false
is_single s = true

-- it goes to a label, or is passed over
abbrev pub goes_or_passes : ShapeTree → Bool
goes_or_passes (going label) = true
goes_or_passes (computed_going labels comma e) = true
goes_or_passes (arithmetic_if e negative zero positive) = true
goes_or_passes s = is_idle s

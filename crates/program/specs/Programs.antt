-- Programs with what their statements need.
use Rattle.std.specs.Prelude.{◌≡◌, ℕ, slice_get, Option, Some, None}
use Rattle.std.specs.Borrow.{Bor}
use Rattle.meaning.specs.declared.syntax.Tree.{Tree}
use Rattle.meaning.specs.Syntax.{ItemTree, ShapeTree}
use Rattle.storage.specs.Checked.{items_in}
use Rattle.program.specs.declared.action.Action.{Action}
use Rattle.program.specs.declared.program.Parts.{Parts}
use Rattle.program.specs.Acts.{Acts}
use Rattle.program.specs.Kept.{AreKept, AreFunctions, HasNoOther}
use Rattle.program.specs.Listed.{HasOrders}
use Rattle.label_targets.specs.Lists.{IsListIn}
use Rattle.meaning.specs.Trees.{Members}

-- a statement of the program
pub record IsStatement (t : Tree) (x : ItemTree) : Type 0 where
  pub at : ℕ
  pub is : slice_get (items_in t) at ≡ Some x

pub record IsCoded (p : Parts) : Type 0 where
  pub kept : AreKept p.unit p.actions (items_in p.unit)
  pub others : HasNoOther p.actions (items_in p.unit)
  pub functions : AreFunctions p.unit p.functions.items
  pub lists : (ms : Members) → IsListIn p.unit ms → HasOrders p.unit p.lists ms

-- what is kept of a statement is what it needs
abbrev pub ActsAt : Tree → ShapeTree → Option (Bor Action) → Type 0
ActsAt t s (Some a) = Acts t a.now s
ActsAt t s None = ⊥

-- so it is with each statement that has this initial line
abbrev pub IsActionAt : Tree → ℕ → Option (Bor Action) → Type 0
IsActionAt t line a =
    (x : ItemTree) → IsStatement t x → x.line ≡ line → ActsAt t x.shape a

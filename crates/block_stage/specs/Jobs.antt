-- A stage's job: the next trips of a DO statement, in blocks, over the values of a whole store
-- (own; after Rauchwerger and Padua).
use Rattle.std.specs.Prelude.{◌≡◌, ◌≢◌, ℕ, ◌*◌, ◌-◌, ◌<◌, min, ℤ, pos, ◌+ℤ◌, ◌*ℤ◌, FitsSigned}
use Rattle.std.specs.Prelude.{IsTrue, List, [], length, None}
use Rattle.std.specs.Int.{w32}
use Rattle.meaning.specs.declared.syntax.Loop.{Loop, out-Loop}
use Rattle.meaning.specs.declared.syntax.Tree.{Tree}
use Rattle.meaning.specs.LoopLaws.{NeverSets}
use Rattle.meaning.specs.Maps.{CellNumbers}
use Rattle.meaning.specs.Syntax.{ItemTree, ShapeTree, shape_tree}
use Rattle.meaning.specs.Trees.{Members, none, flat, item_tree, members_tree}
use Rattle.label_targets.specs.Kept.{IsKept}
use Rattle.label_targets.specs.Quiet.{WritesNothing}
use Rattle.storage.specs.Checked.{count_in, items_in, numbers_in}
use Rattle.program.specs.Asked.{is_doing}
use Rattle.program.specs.Programs.{IsStatement}
use Rattle.evaluator.specs.Known.{AreStatements}
use Rattle.evaluator.specs.Quiet.{variable_of}

-- the parts of a job
pub record JobParts : Type 0 where
  pub program : Tree
  pub repeated : Loop
  pub base : List ℤ
  pub first : ℤ
  pub step : ℤ
  pub trips : ℕ
  pub block_size : ℕ
  pub blocks : ℕ
  pub turns_left : ℕ

-- what they mean: the statements and the cells of their names, the line, the variable and the range
-- of the DO statement, the values that its blocks stand on, its trips in blocks, and the turns that
-- are left
pub record JobData : Type 0 where
  pub items : List ItemTree
  pub numbers : CellNumbers
  pub line : ℕ
  pub variable : List ℕ
  pub range : Members
  pub base : List ℤ
  pub first : ℤ
  pub step : ℤ
  pub trips : ℕ
  pub block_size : ℕ
  pub blocks : ℕ
  pub turns_left : ℕ

abbrev pub shape_in : Loop → ShapeTree
shape_in l = shape_tree (out-Loop l).head.form.shape.value

abbrev pub variable_in : Loop → List ℕ
variable_in l = variable_of (shape_in l)

abbrev pub range_in : Loop → Members
range_in l = members_tree (out-Loop l).range.items

abbrev pub data_of : JobParts → JobData
data_of j = record {
  items = items_in j.program;
  numbers = numbers_in j.program;
  line = (out-Loop j.repeated).head.line;
  variable = variable_in j.repeated;
  range = range_in j.repeated;
  base = j.base;
  first = j.first;
  step = j.step;
  trips = j.trips;
  block_size = j.block_size;
  blocks = j.blocks;
  turns_left = j.turns_left;
}

abbrev pub no_job : JobData
no_job = record {
  items = [];
  numbers = λ n ss. None;
  line = 0;
  variable = [];
  range = none;
  base = [];
  first = pos 0;
  step = pos 0;
  trips = 0;
  block_size = 0;
  blocks = 0;
  turns_left = 0;
}

-- the value of the DO variable in the first trip of a block, and how many trips the block has: the
-- last one may have fewer
abbrev pub start_of : JobData → ℕ → ℤ
start_of d i = d.first +ℤ pos (i * d.block_size) *ℤ d.step

abbrev pub count_of : JobData → ℕ → ℕ
count_of d i = min d.block_size (d.trips - i * d.block_size)

-- what a job is made of: a DO statement of the program whose range writes nothing and never sets
-- its variable, the values of all cells, and trips in blocks, each of which begins before the last
-- trip
pub record IsJob (j : JobParts) : Type 0 where
  pub doing : IsTrue (is_doing (shape_in j.repeated))
  pub head : IsStatement j.program (item_tree (out-Loop j.repeated).head)
  pub named : AreStatements j.program (flat (range_in j.repeated))
  pub kept : IsKept j.program (range_in j.repeated)
  pub quiet : WritesNothing (range_in j.repeated)
  pub unset : NeverSets (variable_in j.repeated) (range_in j.repeated)
  pub sized : length j.base ≡ count_in j.program
  pub moves : j.step ≢ pos 0
  pub long : 0 < j.block_size
  pub some : 0 < j.blocks
  pub last : (j.blocks - 1) * j.block_size < j.trips
  pub fits : (k : ℕ) → k < j.trips → FitsSigned w32 (j.first +ℤ pos k *ℤ j.step)

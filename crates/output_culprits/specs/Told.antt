-- What is told of a unit or a format that breaks the rule on them.
use Rattle.std.specs.Prelude.{ℕ, List, Option, option_map}
use Rattle.meaning.specs.Syntax.{ExprTree, expr_tree}
use Rattle.output_culprits.specs.declared.culprit.OutputCulprit.{OutputCulprit}
use Rattle.output_culprits.specs.declared.culprit.OutputCulprit.TheVariants as culprits

-- a unit; the label of a format; a FORMAT statement without a label; what stands between two commas
-- of its text; the text of a character constant
pub data Told : Type 0 where
  bad_unit : ExprTree → Told
  missing : List ℕ → Told
  unlabelled : Told
  piece : List ℕ → Told
  no_format : List ℕ → Told

-- what a value of the Rust type stands for
abbrev pub told_at : OutputCulprit → Told
told_at (culprits.Unit number) = bad_unit (expr_tree number.now)
told_at (culprits.Missing label) = missing label.now
told_at culprits.Unlabelled = unlabelled
told_at (culprits.Piece text) = piece text.now
told_at (culprits.Constant text) = no_format text.now

-- what is told, if anything is
abbrev pub tell : Option OutputCulprit → Option Told
tell c = option_map told_at c

-- Statements as a source spells them (ANSI X3.9-1978, 3.3, 11.5 and 15.4).
use Rattle.std.specs.Prelude.{◌≡◌, ◌≤◌, length, List, [], ◌∷◌}
use Rattle.std.specs.List.{AllByRecursion}
use Rattle.meaning.specs.LabelRules.{transfers_of}
use Rattle.meaning.specs.Scopes.{definitions_of}
use Rattle.meaning.specs.Spelling.{IsWell, IsWellExpr, spell, spell_expr}
use Rattle.meaning.specs.Syntax.{ExprTree, ShapeTree, assignment, element, exprs, logical_if}
use Rattle.meaning.specs.Trees.{Members, none, plain, loop, block, flat, Nested, flatten}
use Rattle.meaning.specs.Values.{Arrays}

-- well formed, and spelled by no more characters than 20 lines have
pub record IsRead (s : ShapeTree) : Type 0 where
  pub well : IsWell s
  pub short : length (spell s) ≤ 1320

-- each statement of a program unit
abbrev pub AreRead : Nested → Type 0
AreRead t = AllByRecursion (λ x. IsRead x.shape) (flatten t)

-- so is an expression in it
pub record IsShort (e : ExprTree) : Type 0 where
  pub well : IsWellExpr e
  pub short : length (spell_expr e) ≤ 1320

abbrev pub AreShort : List ExprTree → Type 0
AreShort es = AllByRecursion IsShort es

-- the labels that a statement transfers to have five digits at most
abbrev pub TransfersSmall : ShapeTree → Type 0
TransfersSmall s = AllByRecursion (λ label. label ≤ 99999) (transfers_of s)

-- the element that an assignment sets
abbrev pub elements_set : ShapeTree → List ExprTree
elements_set (assignment n (exprs d ds) e) = element n (exprs d ds) ∷ []
elements_set (logical_if e s) = elements_set s
elements_set s = []

-- DO statements and block IFs of a list define no statement function, nor does what stands behind
-- them
abbrev pub HeadsExecute : Arrays → Members → Type 0
HeadsExecute arrays none = Unit {0}
HeadsExecute arrays (plain x ms) = HeadsExecute arrays ms
HeadsExecute arrays (loop x range ms) =
    (definitions_of arrays (flat (loop x range ms)) ≡ []) × HeadsExecute arrays ms
HeadsExecute arrays (block arms x ms) =
    (definitions_of arrays (flat (block arms x ms)) ≡ []) × HeadsExecute arrays ms

-- the expressions of statement functions are short
abbrev pub BodiesShort : Arrays → Nested → Type 0
BodiesShort arrays t = AllByRecursion (λ d. IsShort d.body) (definitions_of arrays (flatten t))

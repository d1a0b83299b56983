use Rattle.meaning.specs.Syntax.{expr_tree}
use Rattle.program.specs.Items.{IsWholeArray}
use Rattle.expressions.specs.Listed.{Partly}
use Rattle.values.proofs.listed.add_array.Given as goal

abbrev pub invariant-loop-at : goal.invariant-loop-at
invariant-loop-at g l = record {
  array : IsWholeArray l.program (expr_tree l.item) l.array;
  so_far : Partly (g.S.Store.world l.initial.store) (g.S.Store.world l.store) array.cells l.initial.found.items l.found.items l.at;
}

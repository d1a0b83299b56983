use Rattle.std.proofs.Common.{◌+◌, ◌*◌}
use Rattle.meaning.specs.Syntax.{expr_tree, exprs_tree}
use Rattle.expressions.specs.Glossaries.{room, weight, weights}
use Rattle.storage.specs.Checked.{names_in}
use Rattle.fault_details.proofs.evaluation.+evaluation.Given as goal

abbrev pub decreases-value_in : goal.decreases-value_in
decreases-value_in l = 4 * weight (expr_tree l.expression.now) + 4 * room (names_in l.scene.now.program.now).definitions l.scene.now.callable

abbrev pub decreases-element_in : goal.decreases-element_in
decreases-element_in l = 4 * weights (exprs_tree l.list.now) + 1 + 4 * room (names_in l.scene.now.program.now).definitions l.scene.now.callable

abbrev pub decreases-cell_in : goal.decreases-cell_in
decreases-cell_in l = 4 * weights (exprs_tree l.list.now) + 4 * room (names_in l.scene.now.program.now).definitions l.scene.now.callable

abbrev pub decreases-reference_in : goal.decreases-reference_in
decreases-reference_in l = 4 * weights (exprs_tree l.list.now) + 1 + 4 * room (names_in l.scene.now.program.now).definitions l.scene.now.callable

abbrev pub decreases-arguments_in : goal.decreases-arguments_in
decreases-arguments_in l = 4 * weights (exprs_tree l.list.now) + 4 * room (names_in l.scene.now.program.now).definitions l.scene.now.callable

abbrev pub decreases-intrinsic_in : goal.decreases-intrinsic_in
decreases-intrinsic_in l = 4 * weights (exprs_tree l.list.now) + 4 * room (names_in l.scene.now.program.now).definitions l.scene.now.callable

abbrev pub decreases-call_in : goal.decreases-call_in
decreases-call_in l = 4 * room (names_in l.scene.now.program.now).definitions l.scene.now.callable

use Rattle.std.proofs.Common.{sym, subst}
use Rattle.meaning.specs.declared.ending.FaultKind.TheVariants.{F4}
use Rattle.meaning.specs.declared.ending.Outcome.TheVariants as outcomes
use Rattle.meaning.specs.Syntax.{expr_tree, format_tree, list_items_tree, logical_if}
use Rattle.meaning.specs.Execution.{step}
use Rattle.storage.specs.Checked.{items_in}
use Rattle.storage.specs.Starts.{map_of}
use Rattle.evaluator.specs.Statements.{Moves}
use Rattle.evaluator.proofs.Executed.{fault_at, if_unexecuted, if_fails, if_false}
use Rattle.program_runs.specs.Walk.{Steps, output_as}
use Rattle.program_runs.proofs.Composed.{steps_behind, steps_quietly}
use Rattle.program_runs.proofs.Written.{if_writes}
use Rattle.program_runs.proofs.statement.execute_if.Goals as goal

pub returns-then-not-take_turn-clause-steps : goal.returns-then-not-take_turn-clause-steps
returns-then-not-take_turn-clause-steps g c =
    let p = c.args.program.now in
    let m = map_of p c.args.cells.now in
    let u = c.take_turn.new.turns in
    λ s is. steps_quietly _ c.args.turns.now m u (fault_at F4 c.args.line) (g.S.Sink.told c.args.sink.now) (if_unexecuted (items_in p) (expr_tree c.args.condition.now) s c.args.line m c.args.turns.now u c.if-not-take_turn.ensures.0 c.if-not-take_turn.ensures.1)

pub returns-then-as_logical-clause-steps : goal.returns-then-as_logical-clause-steps
returns-then-as_logical-clause-steps g c =
    let p = c.args.program.now in
    let told = g.S.Sink.told in
    let all = items_in p in
    let e = expr_tree c.args.condition.now in
    let source = format_tree c.args.source.now in
    let list = list_items_tree c.args.list.now in
    let line = c.args.line in
    let m = map_of p c.args.cells.now in
    let t = c.args.turns.now in
    let u = c.take_turn.new.turns in
    let y = c.execute_output in
    let n = map_of p y.new.cells in
    let steps = subst (λ z. Steps (λ go. output_as all source list line z u go) u n y.new.turns y.result (told c.args.sink.now) (told y.new.sink)) c.in-Ok.ensures.kept y.ensures.steps in
    λ s is. steps_behind (λ go. step all (logical_if e s) line m t go) (λ go. output_as all source list line m u go) t u n y.new.turns y.result (told c.args.sink.now) (told y.new.sink) (if_writes all e s source list is line m t u c.if-not-take_turn.ensures c.in-Ok.x c.in-Ok.ensures.is c.if-as_logical.ensures) steps

pub returns-else-as_logical-clause-steps : goal.returns-else-as_logical-clause-steps
returns-else-as_logical-clause-steps g c =
    let p = c.args.program.now in
    let all = items_in p in
    let e = expr_tree c.args.condition.now in
    let line = c.args.line in
    let m = map_of p c.args.cells.now in
    let t = c.args.turns.now in
    let u = c.take_turn.new.turns in
    λ s is. steps_quietly _ t (map_of p c.condition_value.new.cells) u outcomes.Normal (g.S.Sink.told c.args.sink.now) (subst (λ z. Moves (λ go. step all (logical_if e s) line m t go) t z u outcomes.Normal) (sym c.in-Ok.ensures.kept) (if_false all e s line m t u c.if-not-take_turn.ensures c.in-Ok.x c.in-Ok.ensures.is c.if-as_logical.ensures))

pub returns-in-Err-clause-steps : goal.returns-in-Err-clause-steps
returns-in-Err-clause-steps g c =
    let p = c.args.program.now in
    let all = items_in p in
    let e = expr_tree c.args.condition.now in
    let line = c.args.line in
    let m = map_of p c.args.cells.now in
    let t = c.args.turns.now in
    let u = c.take_turn.new.turns in
    λ s is. steps_quietly _ t (map_of p c.condition_value.new.cells) u (fault_at c.in-Err.kind line) (g.S.Sink.told c.args.sink.now) (subst (λ z. Moves (λ go. step all (logical_if e s) line m t go) t z u (fault_at c.in-Err.kind line)) (sym c.in-Err.ensures.kept) (if_fails all e s line m t u c.if-not-take_turn.ensures c.in-Err.kind c.in-Err.ensures.is))

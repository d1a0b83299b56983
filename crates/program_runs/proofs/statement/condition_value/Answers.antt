use Rattle.std.proofs.Common.{◌≡◌}
use Rattle.meaning.specs.Syntax.{expr_tree}
use Rattle.meaning.specs.Values.{value}
use Rattle.values.specs.Programs.{map_at, scope_in}
use Rattle.whole_runs.proofs.Wholes.{reads_whole, kept_whole}
use Rattle.program_runs.proofs.statement.condition_value.Goals as goal

pub returns-clause-is : goal.returns-clause-is
returns-clause-is c =
    let p = c.args.program.now in
    let e = expr_tree c.args.condition.now in
    reads_whole c.args.cells.now c.value.new.store (λ m. value (scope_in p) e (map_at p m) ≡ c.value.result) (c.value.ensures.reads e c.requires.code)

pub returns-clause-kept : goal.returns-clause-kept
returns-clause-kept c =
    let p = c.args.program.now in
    let e = expr_tree c.args.condition.now in
    kept_whole c.args.cells.now c.value.new.store p (λ m. value (scope_in p) e (map_at p m) ≡ c.value.result) (c.value.ensures.reads e c.requires.code)

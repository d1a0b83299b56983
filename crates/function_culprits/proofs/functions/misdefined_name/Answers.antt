use Rattle.std.proofs.Common.{◌≡◌, subst}
use Rattle.std.specs.Result.{IfOk}
use Rattle.meaning.specs.Scopes.{defined_by}
use Rattle.meaning.specs.Syntax.{shape_tree}
use Rattle.meaning.specs.Uses.{is_before_executables}
use Rattle.symbols.specs.Listed.{trees_at}
use Rattle.symbols.specs.SymbolsAt.{symbols_at}
use Rattle.function_culprits.specs.Functions.{misdefined_in, names_before}
use Rattle.function_culprits.specs.Told.{tell}
use Rattle.function_culprits.proofs.functions.misdefined_name.Goals as goal

pub returns : goal.returns
returns c =
    let r = symbols_at c.args.symbols.now in
    let before = trees_at c.args.before.now in
    subst (λ s. IfOk c.misdefined_shape.result (λ k. tell k ≡ misdefined_in r (is_before_executables r before) (names_before r before) (shape_tree s) (defined_by r.names.arrays (shape_tree s)))) c.deref.ensures c.misdefined_shape.ensures

use Rattle.std.proofs.Common.{sym, subst}
use Rattle.std.specs.Result.{IfOk}
use Rattle.meaning.specs.NameRules.{given_by}
use Rattle.meaning.specs.Syntax.{shape_tree}
use Rattle.symbols.specs.SymbolsAt.{symbols_at}
use Rattle.name_uses.specs.Held.{AreNames}
use Rattle.name_culprits.specs.Names.{names_by}
use Rattle.name_culprits.proofs.given.names_given.Goals as goal

pub returns-in-Bounds : goal.returns-in-Bounds
returns-in-Bounds c =
    let r = symbols_at c.args.symbols.now in
    subst (λ k. IfOk c.arrays_in.result (AreNames (names_by k (given_by r c.args.defines (shape_tree c.args.shape.now))))) (sym c.in-Bounds.is) (c.arrays_in.ensures r c.args.defines)

use Rattle.meaning.specs.NameRules.{is_real, is_real_use, names_defined, names_used}
use Rattle.meaning.specs.Syntax.{shape_tree}
use Rattle.symbols.specs.SymbolsAt.{symbols_at}
use Rattle.name_uses.specs.UsesAt.{uses_at}
use Rattle.culprits.proofs.Naming.{found_before, found_behind}
use Rattle.culprits.proofs.names.first_real.Goals as goal

pub returns-in-Some : goal.returns-in-Some
returns-in-Some c =
    let r = symbols_at c.args.symbols.now in
    found_before (is_real r) (names_defined r c.args.defines (shape_tree c.args.shape.now)) (names_used (is_real_use r) (uses_at c.args.uses.now)) c.in-Some.name.now c.in-Some.ensures

pub returns-in-None : goal.returns-in-None
returns-in-None c =
    let r = symbols_at c.args.symbols.now in
    found_behind (is_real r) (names_defined r c.args.defines (shape_tree c.args.shape.now)) (names_used (is_real_use r) (uses_at c.args.uses.now)) _ c.in-None.ensures c.first_used.ensures

use Rattle.meaning.specs.Syntax.{shape_tree}
use Rattle.meaning.specs.Scopes.{is_specification}
use Rattle.std.proofs.Common.{◌||◌, sym, ap, ◌∙◌}
use Rattle.meaning.specs.Trees.{item_tree}
use Rattle.meaning.specs.Uses.{is_defining}
use Rattle.symbols.specs.SymbolsAt.{symbols_at}
use Rattle.statement_rules.proofs.transfers.is_closed.Goals as goal

pub returns-else-is_specification : goal.returns-else-is_specification
returns-else-is_specification c = λ before known.
    c.is_defining.ensures before known
    ∙ ap (λ b. b || is_defining (symbols_at c.args.symbols.now) before (item_tree c.args.item.now)) (sym c.if-is_specification.false ∙ c.is_specification.ensures)
    ∙ ap (λ s. is_specification (shape_tree s) || is_defining (symbols_at c.args.symbols.now) before (item_tree c.args.item.now)) c.deref.ensures

use Rattle.std.proofs.Common.{ap, ◌∙◌}
use Rattle.meaning.specs.Syntax.{shape_tree}
use Rattle.meaning.specs.Trees.{item_tree}
use Rattle.symbols.specs.SymbolsAt.{symbols_at}
use Rattle.statement_rules.specs.Counters.{counters}
use Rattle.statement_rules.specs.Implied.{misuses_by}
use Rattle.statement_rules.proofs.Controlling.{misuses_around}
use Rattle.statement_rules.proofs.control.ControlledWithin.is_broken.Goals as goal

pub returns : goal.returns
returns c = λ a known.
    let symbols = symbols_at c.args.self.now.symbols.now in
    c.misuses_variable.ensures ∙ ap (λ vs. misuses_by symbols (counters vs) (shape_tree c.deref-2.result.now)) c.deref.ensures.value
    ∙ ap (λ s. misuses_by symbols (counters c.args.self.now.variables.items) (shape_tree s)) c.deref-2.ensures
    ∙ misuses_around symbols (counters c.args.self.now.variables.items) a (item_tree c.args.item.now) known

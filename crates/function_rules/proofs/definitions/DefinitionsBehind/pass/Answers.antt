use Rattle.std.proofs.Common.{[], ◌∷◌, ◌++◌, option_map}
use Rattle.meaning.specs.Trees.{item_tree}
use Rattle.symbols.specs.Functions.{definition_at}
use Rattle.symbols.specs.SymbolsAt.{symbols_at}
use Rattle.symbols.specs.Stages.{IsBehind}
use Rattle.function_rules.specs.Measured.{level_at, nodes_at}
use Rattle.function_rules.proofs.Describing.{described}
use Rattle.function_rules.proofs.definitions.DefinitionsBehind.pass.Goals as goal

pub returns-clause-knows : goal.returns-clause-knows
returns-clause-knows c = λ before known.
    let s = c.args.self.now in
    let x = item_tree c.args.item.now in
    let new = c.keep_function.new.kept in
    described (symbols_at s.symbols.now) (IsBehind s.symbols.now c.pass.new.self (before ++ x ∷ [])) before x (option_map definition_at c.function_here-function.result) (level_at s.kept) (level_at new) (nodes_at s.kept) (nodes_at new) (c.pass.ensures before known.stage) (c.function_here-function.ensures before known.stage) known.levels known.nodes c.in_ok-keep_function.ensures.levels c.in_ok-keep_function.ensures.nodes

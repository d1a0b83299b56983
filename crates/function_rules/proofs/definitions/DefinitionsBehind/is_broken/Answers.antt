use Rattle.std.proofs.Common.{◌≡◌, Bool, List, option_map, sym, ap, ◌∙◌}
use Rattle.meaning.specs.NameRules.{breaks_function_rules}
use Rattle.meaning.specs.Scopes.{arrays_of, defined_by}
use Rattle.meaning.specs.Syntax.{ItemTree, shape_tree}
use Rattle.meaning.specs.Trees.{item_tree}
use Rattle.symbols.specs.Functions.{definition_at}
use Rattle.symbols.specs.Listed.{trees_at}
use Rattle.symbols.specs.SymbolsAt.{symbols_at}
use Rattle.symbols.specs.Stages.{IsBehind}
use Rattle.function_rules.specs.Earlier.{Describes, is_bad_by}
use Rattle.function_rules.specs.Measured.{is_kept, level_at, nodes_at}
use Rattle.rule_passes.proofs.Answering.{ok_then}
use Rattle.function_rules.proofs.Describing.{bad_here, kept_named}
use Rattle.function_rules.proofs.definitions.DefinitionsBehind.is_broken.Goals as goal

pub returns-then-self : goal.returns-then-self
returns-then-self c =
    let s = c.args.self.now in
    let symbols = symbols_at s.symbols.now in
    let x = item_tree c.args.item.now in
    let d = definition_at c.in-Some.function in
    ok_then
    (λ (b : Bool). b ≡ is_bad_by symbols (is_kept s.kept) (level_at s.kept) (nodes_at s.kept) d)
    (λ (b : Bool). (before : List ItemTree) → Describes (IsBehind s.symbols.now s.stage before) symbols before (level_at s.kept) (nodes_at s.kept) → b ≡ breaks_function_rules symbols before x)
    c.is_bad.result c.is_bad.ensures
    (λ b told before known. bad_here symbols before x d (is_kept s.kept) (level_at s.kept) (nodes_at s.kept) b (ap (option_map definition_at) (sym c.in-Some.is) ∙ c.defined_by.ensures ∙ ap (λ s. defined_by (arrays_of (trees_at c.args.self.now.symbols.now.ranks.items.now)) (shape_tree s)) c.deref-shape.ensures ∙ ap (λ ms. defined_by (arrays_of (trees_at ms)) x.shape) s.symbols.now.ranked) (sym known.stage ∙ c.if-self.true) (kept_named s.kept) known.levels known.nodes told)

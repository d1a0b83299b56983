use Rattle.std.proofs.Common.{◌≡◌, Bool, List, [], ap, ◌∙◌}
use Rattle.meaning.specs.NameRules.{is_function_use, is_variable_use, names_used}
use Rattle.meaning.specs.Syntax.{ItemTree, shape_tree}
use Rattle.meaning.specs.Trees.{item_tree}
use Rattle.meaning.specs.Uses.{parts_at, parts_from}
use Rattle.symbols.specs.SymbolsAt.{symbols_at}
use Rattle.name_uses.specs.Held.{names_at}
use Rattle.name_uses.specs.UsesIn.{reads_in, uses_in}
use Rattle.rule_passes.proofs.Answering.{ok_then}
use Rattle.name_rules.specs.Disputed.{is_used_twofold}
use Rattle.name_rules.specs.HeldNames.{IsTwofold, KnowsUsed}
use Rattle.name_rules.proofs.Parting.{both_is}
use Rattle.name_rules.proofs.twofold.TwofoldBehind.is_broken.Goals as goal

pub returns : goal.returns
returns c = ok_then
    (IsTwofold c.args.self.now c.deref.result.now c.deref-2.result.now)
    (λ (b : Bool). (before : List ItemTree) → KnowsUsed c.args.self.now before → b ≡ is_used_twofold (symbols_at c.args.self.now.symbols.now) before (item_tree c.args.item.now))
    c.is_both.result c.is_both.ensures
    (λ b both before known.
    let s = c.args.self.now in
    let symbols = symbols_at s.symbols.now in
    let x = item_tree c.args.item.now in
    let defines = c.is_defining-defines.ensures before known.stage in
    let variables = c.in_ok-variables.ensures ∙ ap (λ s. names_used (is_variable_use symbols) (uses_in symbols c.is_defining-defines.result (shape_tree s))) c.deref-shape.ensures ∙ ap (λ b. names_used (is_variable_use symbols) (uses_in symbols b x.shape)) defines in
    let functions = c.in_ok-functions.ensures ∙ ap (λ s. names_used (is_function_use symbols) (reads_in symbols c.is_defining-defines.result (shape_tree s))) c.deref-shape.ensures ∙ ap (λ b. names_used (is_function_use symbols) (reads_in symbols b x.shape)) defines in
    both ∙ both_is symbols (parts_from symbols [] before) (parts_at symbols before x) s.variables.keys s.functions.keys (names_at c.deref.result.now) (names_at c.deref-2.result.now) known.variables_held known.functions_held (ap names_at c.deref.ensures.value ∙ variables) (ap names_at c.deref-2.ensures.value ∙ functions))

use Rattle.std.proofs.Common.{[], ◌∷◌, ◌++◌, refl, ap, ◌∙◌}
use Rattle.meaning.specs.NameRules.{is_function_use, is_variable_use, names_used}
use Rattle.meaning.specs.Syntax.{shape_tree}
use Rattle.meaning.specs.Trees.{item_tree}
use Rattle.name_maps.specs.NameSets.{texts, with_names}
use Rattle.symbols.specs.SymbolsAt.{symbols_at}
use Rattle.symbols.specs.Stages.{IsBehind}
use Rattle.name_uses.specs.UsesIn.{reads_in, uses_in}
use Rattle.name_rules.proofs.Parting.{used_more}
use Rattle.name_rules.proofs.twofold.TwofoldBehind.pass.Goals as goal

pub returns-clause-knows : goal.returns-clause-knows
returns-clause-knows c = λ before known.
    let s = c.args.self.now in
    let symbols = symbols_at s.symbols.now in
    let x = item_tree c.args.item.now in
    let defines = c.is_defining-defines.ensures before known.stage in
    let variables = c.in_ok-add_variables.ensures ∙ ap (λ s. with_names (texts c.args.self.now.variables.keys) (names_used (is_variable_use symbols) (uses_in symbols c.is_defining-defines.result (shape_tree s)))) c.deref-shape.ensures ∙ ap (λ b. with_names (texts s.variables.keys) (names_used (is_variable_use symbols) (uses_in symbols b x.shape))) defines in
    let functions = c.in_ok-add_functions.ensures ∙ ap (λ s. with_names (texts c.args.self.now.functions.keys) (names_used (is_function_use symbols) (reads_in symbols c.is_defining-defines.result (shape_tree s)))) c.deref-shape.ensures ∙ ap (λ b. with_names (texts s.functions.keys) (names_used (is_function_use symbols) (reads_in symbols b x.shape))) defines in
    used_more (IsBehind s.symbols.now s.stage before) (IsBehind s.symbols.now c.pass.new.self (before ++ x ∷ [])) symbols before x s.variables.keys s.functions.keys c.add_variables.new.seen.keys c.add_functions.new.seen.keys _ _ known (c.pass.ensures before known.stage) refl refl variables functions

use Rattle.meaning.specs.Syntax.{shape_tree}
use Rattle.std.proofs.Common.{[], ◌∷◌, ◌++◌, ap, ◌∙◌}
use Rattle.meaning.specs.NameRules.{given_by}
use Rattle.meaning.specs.Trees.{item_tree}
use Rattle.symbols.specs.SymbolsAt.{symbols_at}
use Rattle.symbols.specs.Stages.{IsBehind}
use Rattle.name_rules.specs.GivenAt.{given_at}
use Rattle.name_rules.proofs.GivenMore.{gives_more}
use Rattle.name_rules.proofs.givings.GivingsBehind.pass.Goals as goal

pub returns-clause-knows : goal.returns-clause-knows
returns-clause-knows c = λ before known.
    let s = c.args.self.now in
    let symbols = symbols_at s.symbols.now in
    let x = item_tree c.args.item.now in
    let old = s.names in
    let new = c.add_given.new.names in
    let added = c.in_ok-add_given.ensures in
    gives_more (IsBehind s.symbols.now s.stage before) (IsBehind s.symbols.now c.pass.new.self (before ++ x ∷ [])) symbols before x (given_at c.in_ok-given.given) old.typed.keys old.bounded.keys old.valued.keys old.defined.keys new.typed.keys new.bounded.keys new.valued.keys new.defined.keys known (c.pass.ensures before known.stage) (c.in_ok-given.ensures ∙ ap (λ s. given_by symbols c.is_defining-defines.result (shape_tree s)) c.deref.ensures ∙ ap (λ b. given_by symbols b x.shape) (c.is_defining-defines.ensures before known.stage)) added.typed added.bounded added.valued added.defined

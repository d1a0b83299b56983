use Rattle.meaning.specs.Syntax.{shape_tree}
use Rattle.std.proofs.Common.{[], ◌||◌, ap, ◌∙◌}
use Rattle.meaning.specs.NameRules.{given_by, given_from, given_twice, has_two_roles}
use Rattle.meaning.specs.Trees.{item_tree}
use Rattle.symbols.specs.SymbolsAt.{symbols_at}
use Rattle.name_rules.specs.GivenAt.{given_at}
use Rattle.name_rules.proofs.GivenMore.{too_much}
use Rattle.name_rules.proofs.givings.GivingsBehind.is_broken.Goals as goal

pub returns : goal.returns
returns c = λ before known.
    let s = c.args.self.now in
    let symbols = symbols_at s.symbols.now in
    let x = item_tree c.args.item.now in
    let n = s.names in
    let gs = given_from symbols [] before in
    let g = given_at c.in_ok-given.given in
    c.in_ok-much.ensures ∙ too_much n.typed.keys n.bounded.keys n.valued.keys n.defined.keys gs g known.typed_held known.bounded_held known.valued_held known.defined_held
    ∙ ap (λ h. given_twice gs h || has_two_roles gs h) (c.in_ok-given.ensures ∙ ap (λ s. given_by symbols c.is_defining-defines.result (shape_tree s)) c.deref.ensures ∙ ap (λ b. given_by symbols b x.shape) (c.is_defining-defines.ensures before known.stage))

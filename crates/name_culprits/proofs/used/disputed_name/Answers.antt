use Rattle.std.proofs.Common.{◌≡◌, Bool, Option, subst}
use Rattle.std.specs.Option.{option_or}
use Rattle.std.specs.Result.{IfOk}
use Rattle.meaning.specs.NameRules.{given_by}
use Rattle.meaning.specs.Syntax.{ShapeTree, shape_tree}
use Rattle.meaning.specs.Trees.{item_tree}
use Rattle.meaning.specs.Uses.{is_defining}
use Rattle.symbols.specs.Listed.{trees_at}
use Rattle.symbols.specs.SymbolsAt.{symbols_at}
use Rattle.name_uses.specs.UsesIn.{uses_in}
use Rattle.name_culprits.specs.Names.{given_in, rival_in, used_in}
use Rattle.name_culprits.specs.Told.{Told, tell}
use Rattle.name_culprits.proofs.used.disputed_name.Goals as goal

pub returns : goal.returns
returns c =
    let r = symbols_at c.args.symbols.now in
    let before = trees_at c.args.before.now in
    let x = item_tree c.args.item.now in
    let told : Bool → ShapeTree → Option Told = λ d s. option_or (given_in r before x.line (given_by r d s)) (option_or (used_in r (uses_in r d s) s) (rival_in before s)) in
    subst (λ s. IfOk c.disputed.result (λ k. tell k ≡ told (is_defining r before x) (shape_tree s))) c.deref.ensures (subst (λ d. IfOk c.disputed.result (λ k. tell k ≡ told d (shape_tree c.deref.result.now))) c.is_defining.ensures c.disputed.ensures)

use Rattle.name_uses.specs.NamesIn.{logical as logical_in}
use Rattle.std.proofs.Common.{◌≡◌, Bool, List, [], ap, ◌∙◌}
use Rattle.meaning.specs.NameRules.{is_intrinsic_use, names_used}
use Rattle.meaning.specs.Syntax.{ItemTree, shape_tree}
use Rattle.meaning.specs.Trees.{item_tree}
use Rattle.meaning.specs.Uses.{parts_at, parts_from}
use Rattle.symbols.specs.SymbolsAt.{symbols_at}
use Rattle.name_uses.specs.Held.{names_at}
use Rattle.name_uses.specs.UsesIn.{reads_in}
use Rattle.rule_passes.proofs.Answering.{ok_then}
use Rattle.name_rules.specs.Disputed.{is_logical_intrinsic}
use Rattle.name_rules.specs.HeldNames.{IsLogical, KnowsLogical}
use Rattle.name_rules.proofs.Parting.{logical_is}
use Rattle.name_rules.proofs.logicals.LogicalsBehind.is_broken.Goals as goal

pub returns : goal.returns
returns c = ok_then
    (IsLogical c.args.self.now c.deref.result.now c.deref-2.result.now)
    (λ (b : Bool). (before : List ItemTree) → KnowsLogical c.args.self.now before → b ≡ is_logical_intrinsic (symbols_at c.args.self.now.symbols.now) before (item_tree c.args.item.now))
    c.is_logical.result c.is_logical.ensures
    (λ b both before known.
    let s = c.args.self.now in
    let symbols = symbols_at s.symbols.now in
    let x = item_tree c.args.item.now in
    let defines = c.is_defining-defines.ensures before known.stage in
    let functions = c.in_ok-functions.ensures ∙ ap (λ s. names_used (is_intrinsic_use symbols) (reads_in symbols c.is_defining-defines.result (shape_tree s))) c.deref-shape.ensures ∙ ap (λ b. names_used (is_intrinsic_use symbols) (reads_in symbols b x.shape)) defines in
    both ∙ logical_is symbols before x (parts_from symbols [] before).reads (parts_at symbols before x).reads s.intrinsics.keys s.logicals.keys (names_at c.deref.result.now) (names_at c.deref-2.result.now) known.intrinsics_held known.logicals_held (ap names_at c.deref.ensures.value ∙ c.in_ok-names.ensures ∙ ap (λ s. logical_in (shape_tree s)) c.deref-shape.ensures) (ap names_at c.deref-2.ensures.value ∙ functions))

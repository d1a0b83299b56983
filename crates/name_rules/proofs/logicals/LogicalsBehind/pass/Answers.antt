use Rattle.name_uses.specs.NamesIn.{logical as logical_in}
use Rattle.std.proofs.Common.{[], ◌∷◌, ◌++◌, refl, ap, ◌∙◌}
use Rattle.meaning.specs.NameRules.{is_intrinsic_use, names_used}
use Rattle.meaning.specs.Syntax.{shape_tree}
use Rattle.meaning.specs.Trees.{item_tree}
use Rattle.name_maps.specs.NameSets.{texts, with_names}
use Rattle.symbols.specs.SymbolsAt.{symbols_at}
use Rattle.symbols.specs.Stages.{IsBehind}
use Rattle.name_uses.specs.UsesIn.{reads_in}
use Rattle.name_rules.proofs.Parting.{logical_more}
use Rattle.name_rules.proofs.logicals.LogicalsBehind.pass.Goals as goal

pub returns-clause-knows : goal.returns-clause-knows
returns-clause-knows c = λ before known.
    let s = c.args.self.now in
    let symbols = symbols_at s.symbols.now in
    let x = item_tree c.args.item.now in
    let defines = c.is_defining-defines.ensures before known.stage in
    let functions = c.in_ok-add_intrinsics.ensures ∙ ap (λ s. with_names (texts c.args.self.now.intrinsics.keys) (names_used (is_intrinsic_use symbols) (reads_in symbols c.is_defining-defines.result (shape_tree s)))) c.deref-shape.ensures ∙ ap (λ b. with_names (texts s.intrinsics.keys) (names_used (is_intrinsic_use symbols) (reads_in symbols b x.shape))) defines in
    logical_more (IsBehind s.symbols.now s.stage before) (IsBehind s.symbols.now c.pass.new.self (before ++ x ∷ [])) symbols before x s.intrinsics.keys s.logicals.keys c.add_intrinsics.new.seen.keys c.add_logical.new.seen.keys _ _ known (c.pass.ensures before known.stage) refl refl (c.in_ok-add_logical.ensures ∙ ap (λ s. with_names (texts c.args.self.now.logicals.keys) (logical_in (shape_tree s))) c.deref-shape.ensures) functions

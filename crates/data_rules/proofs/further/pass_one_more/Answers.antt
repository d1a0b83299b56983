use Rattle.std.proofs.Common.{map, option_map, sym, ap, ◌∙◌}
use Rattle.meaning.specs.Initial.{sets_by, sets_of}
use Rattle.meaning.specs.Syntax.{data_set_tree, shape_tree}
use Rattle.meaning.specs.Trees.{item_tree}
use Rattle.symbols.specs.SymbolsAt.{symbols_at}
use Rattle.declarations.specs.Tables.{known_at}
use Rattle.data_rules.specs.Lacking.{names_kept}
use Rattle.data_rules.specs.DataSets.{stage_by}
use Rattle.data_rules.specs.Slots.{given_in}
use Rattle.data_rules.proofs.DataGoing.{one_given, one_misfit}
use Rattle.data_rules.proofs.DataStarting.{never_misfit}
use Rattle.data_rules.proofs.further.pass_one_more.Goals as goal

pub returns-then-not-branch : goal.returns-then-not-branch
returns-then-not-branch c = λ before behind sizeless filled.
    let t = c.args.table.now in
    let counted = c.counted_sets-sets.ensures ∙ ap (λ s. sets_by (symbols_at t.symbols.now) (known_at t) (names_kept c.args.sizeless.now) (sets_of (shape_tree s))) c.deref.ensures in
    one_misfit t before (item_tree c.args.item.now) (names_kept c.args.sizeless.now) (map data_set_tree c.counted_sets-sets.result.now) c.args.filling behind sizeless counted filled c.in_ok-fits.field-0 c.in_ok-fits.ensures c.if-not-branch.true

pub returns : goal.returns
returns c = λ before behind sizeless filled.
    let t = c.args.table.now in
    let counted = c.counted_sets-sets.ensures ∙ ap (λ s. sets_by (symbols_at t.symbols.now) (known_at t) (names_kept c.args.sizeless.now) (sets_of (shape_tree s))) c.deref.ensures in
    one_given t before (item_tree c.args.item.now) (names_kept c.args.sizeless.now) (map data_set_tree c.counted_sets-sets.result.now) c.args.filling behind sizeless counted filled c.in_ok-fits.field-0 c.in_ok-fits.ensures c.in_ok-more.field-0 c.in_ok-more.ensures c.if-not-branch.false c.in-Some.more c.is_twice-is_bad.result c.in-Some.is c.is_twice-is_bad.ensures

pub unreachable-requires : goal.unreachable-requires
unreachable-requires c =
    let t = c.args.table.now in
    never_misfit (symbols_at t.symbols.now) (known_at t) (map data_set_tree c.counted_sets-sets.result.now) (given_in c.args.filling.given) (sym c.in_ok-fits.ensures ∙ c.if-not-branch.false) (sym (ap (option_map stage_by) c.in-None.is) ∙ c.in_ok-more.ensures)

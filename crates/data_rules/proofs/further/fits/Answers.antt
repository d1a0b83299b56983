use Rattle.std.proofs.Common.{map, option_map, sym, ap, ◌∙◌}
use Rattle.std.specs.Prelude.{is_some}
use Rattle.meaning.specs.Syntax.{data_set_tree}
use Rattle.symbols.specs.SymbolsAt.{symbols_at}
use Rattle.declarations.specs.Tables.{known_at}
use Rattle.data_rules.specs.DataSets.{fill_sets, stage_by}
use Rattle.data_rules.proofs.further.fits.Goals as goal

pub returns-in-Some : goal.returns-in-Some
returns-in-Some c =
    let t = c.args.table.now in
    ap is_some (sym (ap (option_map stage_by) c.in-Some.is) ∙ c.in_ok-filling.ensures
    ∙ ap (fill_sets (symbols_at t.symbols.now) (known_at t) (map data_set_tree c.args.sets.now)) c.new-filling.ensures)

pub returns-in-None : goal.returns-in-None
returns-in-None c =
    let t = c.args.table.now in
    ap is_some (sym (ap (option_map stage_by) c.in-None.is) ∙ c.in_ok-filling.ensures
    ∙ ap (fill_sets (symbols_at t.symbols.now) (known_at t) (map data_set_tree c.args.sets.now)) c.new-filling.ensures)

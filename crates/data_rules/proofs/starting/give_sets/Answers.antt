use Rattle.std.proofs.Common.{option_map, sym, ap, ◌∙◌}
use Rattle.symbols.specs.SymbolsAt.{symbols_at}
use Rattle.data_rules.specs.DataSets.{stage_by}
use Rattle.declarations.specs.Tables.{known_at}
use Rattle.data_rules.proofs.DataSetsMore.{set_misfit, set_more, sets_end}
use Rattle.data_rules.proofs.starting.give_sets.Goals as goal

pub loop-set-preserved : goal.loop-set-preserved
loop-set-preserved c =
    let t = c.args.table.now in
    set_more (symbols_at t.symbols.now) (known_at t) c.args.sets.now c.loop-set.set-index c.set-item.result (stage_by c.loop-set.so_far) _ _ c.loop-set-test.true c.set-item.is (sym (ap (option_map stage_by) c.in-Some.is) ∙ c.in_ok-more.ensures) c.loop-set.invariant

pub returns-in-None : goal.returns-in-None
returns-in-None c =
    let t = c.args.table.now in
    set_misfit (symbols_at t.symbols.now) (known_at t) c.args.sets.now c.loop-set.set-index c.set-item.result (stage_by c.loop-set.so_far) _ c.loop-set-test.true c.set-item.is (sym (ap (option_map stage_by) c.in-None.is) ∙ c.in_ok-more.ensures) c.loop-set.invariant

pub returns : goal.returns
returns c =
    let t = c.args.table.now in
    sets_end (symbols_at t.symbols.now) (known_at t) c.args.sets.now c.loop-set.set-index (stage_by c.loop-set.so_far) _ c.loop-set-test.false c.loop-set.invariant

use Rattle.std.proofs.Common.{Some, None, sym, ap, ◌∙◌}
use Rattle.std.specs.Prelude.{if◌then◌else◌}
use Rattle.symbols.specs.SymbolsAt.{symbols_at}
use Rattle.data_rules.specs.DataSets.{stage_by}
use Rattle.data_rules.proofs.DataSetsMore.{set_given}
use Rattle.data_rules.proofs.starting.give_set.Goals as goal

pub give_list-requires : goal.give_list-requires
give_list-requires c =
    λ n. c.requires n ∙ ap (λ t. (symbols_at t.symbols.now).names.arrays n) (sym c.scope_of.ensures.table)

pub returns-then-given : goal.returns-then-given
returns-then-given c =
    sym (sym (set_given c.args.table.now c.scope_of.result c.values_in.result c.args.filling c.args.set.now c.deref.result.now c.scope_of.ensures.table c.scope_of.ensures.own c.values_in.ensures c.deref.ensures.value)
    ∙ c.in-Ok.ensures ∙ ap (λ b. if b then Some (stage_by c.give_list.new.giving.filling) else None) c.if-given.true)

pub returns-else-given : goal.returns-else-given
returns-else-given c =
    sym (sym (set_given c.args.table.now c.scope_of.result c.values_in.result c.args.filling c.args.set.now c.deref.result.now c.scope_of.ensures.table c.scope_of.ensures.own c.values_in.ensures c.deref.ensures.value)
    ∙ c.in-Ok.ensures ∙ ap (λ b. if b then Some (stage_by c.give_list.new.giving.filling) else None) c.if-given.false)

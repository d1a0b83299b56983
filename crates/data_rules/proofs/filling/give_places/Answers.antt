use Rattle.std.proofs.Common.{true, false, Some, None, refl, sym, ap, ap₂, subst, ◌∙◌}
use Rattle.std.specs.Prelude.{IfOk, if◌then◌else◌, is_some}
use Rattle.std.specs.List.{range_with_len}
use Rattle.std.specs.Str.{bytes_eq}
use Rattle.indexmap.specs.IndexMap.{insert_entry}
use Rattle.symbols.specs.SymbolsAt.{symbols_at}
use Rattle.data_rules.specs.DataRuns.{values_left}
use Rattle.data_rules.specs.DataSlots.{give_slots, slots_at}
use Rattle.data_rules.specs.Filled.{Comes, stage_at}
use Rattle.data_rules.specs.Slots.{slot_at, slot_if}
use Rattle.data_rules.proofs.Slotting.{back, comes_back, ok_comes, slots_new, slots_there, within}
use Rattle.data_rules.proofs.filling.give_places.Goals as goal

pub returns-then-not-branch-clause-given : goal.returns-then-not-branch-clause-given
returns-then-not-branch-clause-given c = λ i stands.
    let types = (symbols_at c.args.symbols.now).names.types in
    let n = c.args.name.now in
    let is = range_with_len i c.args.count in
    let old = stage_at c.args.filling.now c.args.values.now in
    let l = slots_at c.give_each-in-None.new.slots c.give_each-in-None.new.values c.give_each-in-None.new.way in
    let here = ap (λ xs. record { given = slot_at xs; values = values_left c.args.values.now; way = c.args.filling.now.way }) c.new-slots.ensures.items ∙ ap (λ o. record { given = λ k. slot_if o k; values = values_left c.args.values.now; way = c.args.filling.now.way }) c.in-None.ensures.value in
    comes_back types n is old l (back n old l) refl false
    (sym (ap₂ (λ t s. give_slots t is s) c.type_of_name-data_type.ensures here) ∙ c.in_ok-give_each-in-None.ensures.given i stands ∙ ap (λ b. if b then Some l else None) c.if-not-branch.true)

pub returns-in-Some-clause-given : goal.returns-in-Some-clause-given
returns-in-Some-clause-given c = λ i stands.
    let types = (symbols_at c.args.symbols.now).names.types in
    let m = c.args.filling.now.given in
    let n = c.args.name.now in
    let is = range_with_len i c.args.count in
    let old = stage_at c.args.filling.now c.args.values.now in
    let w = c.give_each.new.slots in
    let l = slots_at w c.give_each.new.values c.give_each.new.way in
    let here = ap (λ o. record { given = λ k. slot_if o k; values = values_left c.args.values.now; way = c.args.filling.now.way }) c.in-Some.ensures.value in
    let there = ap is_some (sym c.in-Some.ensures.value) in
    ok_comes types n is old l _ (ap (λ g. record { given = g; values = l.values; way = l.way }) (sym (slots_there m (c.get_mut.follows.lender w) n w there (c.get_mut.follows.holds w).0))) c.give_each.result
    (subst (λ t. IfOk c.give_each.result (λ b. Comes (give_slots t is (within n old)) l b)) c.type_of_name-data_type.ensures (subst (λ s. IfOk c.give_each.result (λ b. Comes (give_slots c.type_of_name-data_type.result is s) l b)) here (c.give_each.ensures.given i stands)))

pub returns-in_ok-insert-in-None-clause-given : goal.returns-in_ok-insert-in-None-clause-given
returns-in_ok-insert-in-None-clause-given c = λ i stands.
    let types = (symbols_at c.args.symbols.now).names.types in
    let m = c.args.filling.now.given in
    let n = c.args.name.now in
    let is = range_with_len i c.args.count in
    let old = stage_at c.args.filling.now c.args.values.now in
    let w = c.give_each-in-None.new.slots in
    let l = slots_at w c.give_each-in-None.new.values c.give_each-in-None.new.way in
    let own = c.in_ok-own-in-None.own in
    let here = ap (λ xs. record { given = slot_at xs; values = values_left c.args.values.now; way = c.args.filling.now.way }) c.new-slots.ensures.items ∙ ap (λ o. record { given = λ k. slot_if o k; values = values_left c.args.values.now; way = c.args.filling.now.way }) c.in-None.ensures.value in
    let added = c.in_ok-insert-in-None.ensures.entries ∙ ap (λ t. insert_entry (λ a b. bytes_eq a.items b.items) t.entries own w) c.get_mut.follows.holds-at-none in
    comes_back types n is old l _ (ap (λ g. record { given = g; values = l.values; way = l.way }) (sym (slots_new m c.insert.new.self n w own c.in_ok-own-in-None.ensures.items added))) true
    (sym (ap₂ (λ t s. give_slots t is s) c.type_of_name-data_type.ensures here) ∙ c.in_ok-give_each-in-None.ensures.given i stands ∙ ap (λ b. if b then Some l else None) c.if-not-branch.false)

use Rattle.std.proofs.Common.{◌≡◌, ℕ, ◌+◌, ℤ, pos, ◌+ℤ◌, ◌*ℤ◌, option_map, Some, None, rules, FitsSigned, to_z, sym, ap, ap₂, subst, ◌∙◌}
use Rattle.std.specs.Int.{w32, w64}
use Rattle.std.proofs.lemmas.Int.{to_z-of_z}
use Rattle.meaning.specs.declared.ending.Value.TheVariants.{Int}
use Rattle.std.specs.Prelude.{if◌then◌else◌}
use Rattle.meaning.specs.Initial.{and_also, is_counter, targets_in, with_value}
use Rattle.meaning.specs.Syntax.{limits_tree, list_item_tree, list_items_tree}
use Rattle.symbols.specs.SymbolsAt.{symbols_at}
use Rattle.data_rules.specs.DataGiving.{known_there, symbols_in, stage_of}
use Rattle.data_rules.specs.DataItems.{item_targets, trips_targets}
use Rattle.data_rules.specs.DataStages.{filled}
use Rattle.data_rules.specs.DataTrips.{trips_by}
use Rattle.declarations.specs.KnownNames.{with_name}
use Rattle.data_rules.specs.SameScope.{IsSameScope}
use Rattle.declarations.specs.Tables.{scope_known}
use Rattle.data_rules.proofs.DataFilling.{same_given}
use Rattle.data_rules.proofs.DataListing.{filled_more, filled_none, left, next_value, no_trips, same_known, trip_more, with_trips}
use Rattle.data_rules.proofs.data_lists.+data_lists.Goals as goal

pub give_item-returns-in-None-clause-filled : goal.give_item-returns-in-None-clause-filled
give_item-returns-in-None-clause-filled t c =
    let g = c.args.giving.now in
    let r = symbols_in g in
    let none = sym c.trips_of.ensures.trips ∙ ap (option_map trips_by) c.in-None.is in
    ap (λ x. filled r.names (item_targets r (list_item_tree x) (known_there g)) (stage_of g)) c.in-Loop.is
    ∙ no_trips r (list_items_tree c.in-Loop.items.value) c.in-Loop.variable.items (limits_tree c.in-Loop.limits) (known_there g) (stage_of g) none

pub give_item-returns-in-Some-clause-filled : goal.give_item-returns-in-Some-clause-filled
give_item-returns-in-Some-clause-filled t c =
    let g = c.args.giving.now in
    let r = symbols_in g in
    let k = known_there g in
    let s = stage_of g in
    let is = trips_by c.in-Some.trips in
    let can = ap (is_counter r) (sym c.deref.ensures.value) ∙ sym c.is_counter.ensures ∙ c.if-not-is_counter.false in
    let some = sym c.trips_of.ensures.trips ∙ ap (option_map trips_by) c.in-Some.is in
    same_given c.give_trips.result _
    (ap (λ x. filled r.names (item_targets r (list_item_tree x) k) s) c.in-Loop.is
    ∙ with_trips r (list_items_tree c.in-Loop.items.value) c.in-Loop.variable.items (limits_tree c.in-Loop.limits) k is s can some
    ∙ ap₂ (λ xs v. filled r.names (trips_targets r (list_items_tree xs) v k is) s) (sym c.deref-in-Some.ensures) (sym c.deref-in-Some-2.ensures.value))
    c.give_trips.ensures.filled

pub give_items-returns-in-Empty-clause-filled : goal.give_items-returns-in-Empty-clause-filled
give_items-returns-in-Empty-clause-filled t c =
    let g = c.args.giving.now in
    let r = symbols_in g in
    ap (λ xs. filled r.names (targets_in r (list_items_tree xs) (known_there g)) (stage_of g)) c.in-Empty.is
    ∙ filled_none r (known_there g) (stage_of g)

pub give_items-returns-then-not-branch-clause-filled : goal.give_items-returns-then-not-branch-clause-filled
give_items-returns-then-not-branch-clause-filled t c =
    let g = c.args.giving.now in
    let r = symbols_in g in
    let k = known_there g in
    let rest = list_items_tree c.in-More.rest.value in
    ap (λ xs. filled r.names (targets_in r (list_items_tree xs) k) (stage_of g)) c.in-More.is
    ∙ filled_more r k (list_item_tree c.in-More.item) rest (stage_of g)
    ∙ ap (λ o. and_also o (filled r.names (targets_in r rest k))) (c.in_ok-give_item-in-More.ensures.filled ∙ ap (λ b. if b then Some (stage_of c.give_item.new.giving) else None) c.if-not-branch.true)

pub give_items-returns-else-not-branch-clause-filled : goal.give_items-returns-else-not-branch-clause-filled
give_items-returns-else-not-branch-clause-filled t c =
    let g = c.args.giving.now in
    let h = c.give_item.new.giving in
    let r = symbols_in g in
    let k = known_there g in
    let same = c.in_ok-give_item-in-More.ensures.same in
    let rest = list_items_tree c.in-More.rest.value in
    same_given c.give_items.result _
    (ap (λ xs. filled r.names (targets_in r (list_items_tree xs) k) (stage_of g)) c.in-More.is
    ∙ filled_more r k (list_item_tree c.in-More.item) rest (stage_of g)
    ∙ ap (λ o. and_also o (filled r.names (targets_in r rest k))) (c.in_ok-give_item-in-More.ensures.filled ∙ ap (λ b. if b then Some (stage_of h) else None) c.if-not-branch.false)
    ∙ ap (λ tb. filled (symbols_at tb.now.symbols.now).names (targets_in (symbols_at tb.now.symbols.now) rest k) (stage_of h)) (sym same.table)
    ∙ ap (λ j. filled (symbols_in h).names (targets_in (symbols_in h) rest j) (stage_of h)) (sym (same_known g.scope h.scope same))
    ∙ ap (λ xs. filled (symbols_in h).names (targets_in (symbols_in h) (list_items_tree xs) (known_there h)) (stage_of h)) (sym c.deref.ensures))
    c.give_items.ensures.filled

pub give_trips-returns-then-not-given-clause-filled : goal.give_trips-returns-then-not-given-clause-filled
give_trips-returns-then-not-given-clause-filled t c =
    let g = c.args.giving.now in
    let before = c.loop.giving in
    let scope = c.enter_name.new.scope in
    let behind = c.give_items.new.giving in
    let r = symbols_in g in
    let k = known_there g in
    let ys = list_items_tree c.args.items.now in
    let v = c.args.variable.now in
    let n = c.args.trips.count in
    let i = c.loop.counter in
    let f : ℕ → ℤ = λ j. c.args.trips.first +ℤ pos j *ℤ c.args.trips.step in
    let kept = c.loop.invariant in
    let table = c.in_ok-enter_name.ensures.table ∙ kept.same.table in
    let fits : FitsSigned w32 c.value_of_trip-here.result = search rules in
    let known : scope_known scope ≡ with_value v (f i) k =
    c.in_ok-enter_name.ensures.known ∙ ap (λ x. with_name v (Some (Int x)) (scope_known before.scope)) (to_z-of_z w32 c.value_of_trip-here.result fits ∙ c.value_of_trip-here.ensures ∙ kept.value)
    ∙ ap (with_value v (f i)) (same_known g.scope before.scope kept.same) in
    let one =
    sym (ap (λ t. filled (symbols_at t.now.symbols.now).names (targets_in (symbols_at t.now.symbols.now) ys (scope_known scope)) (stage_of before)) table
    ∙ ap (λ x. filled r.names (targets_in r ys x) (stage_of before)) known) ∙ c.in_ok-given.ensures.filled in
    let same : IsSameScope g.scope c.leave_name.new.scope = record {
      own = c.leave_name.ensures.own before.scope.own.items _ (c.in_ok-given.ensures.same.own ∙ c.in_ok-enter_name.ensures.own) ∙ kept.same.own;
      table = c.leave_name.ensures.table ∙ c.in_ok-given.ensures.same.table ∙ table;
    } in
    sym kept.left ∙ trip_more r ys v k f i n (stage_of before) c.loop-test.true
    ∙ ap (λ o. and_also o (left r ys v k f (i + 1) n)) (one ∙ ap (λ b. if b then Some (stage_of behind) else None) c.if-not-given.true)

pub give_trips-returns-then-not-given-clause-same : goal.give_trips-returns-then-not-given-clause-same
give_trips-returns-then-not-given-clause-same t c =
    let g = c.args.giving.now in
    let before = c.loop.giving in
    let scope = c.enter_name.new.scope in
    let behind = c.give_items.new.giving in
    let r = symbols_in g in
    let k = known_there g in
    let ys = list_items_tree c.args.items.now in
    let v = c.args.variable.now in
    let n = c.args.trips.count in
    let i = c.loop.counter in
    let f : ℕ → ℤ = λ j. c.args.trips.first +ℤ pos j *ℤ c.args.trips.step in
    let kept = c.loop.invariant in
    let table = c.in_ok-enter_name.ensures.table ∙ kept.same.table in
    let fits : FitsSigned w32 c.value_of_trip-here.result = search rules in
    let known : scope_known scope ≡ with_value v (f i) k =
    c.in_ok-enter_name.ensures.known ∙ ap (λ x. with_name v (Some (Int x)) (scope_known before.scope)) (to_z-of_z w32 c.value_of_trip-here.result fits ∙ c.value_of_trip-here.ensures ∙ kept.value)
    ∙ ap (with_value v (f i)) (same_known g.scope before.scope kept.same) in
    let one =
    sym (ap (λ t. filled (symbols_at t.now.symbols.now).names (targets_in (symbols_at t.now.symbols.now) ys (scope_known scope)) (stage_of before)) table
    ∙ ap (λ x. filled r.names (targets_in r ys x) (stage_of before)) known) ∙ c.in_ok-given.ensures.filled in
    let same : IsSameScope g.scope c.leave_name.new.scope = record {
      own = c.leave_name.ensures.own before.scope.own.items _ (c.in_ok-given.ensures.same.own ∙ c.in_ok-enter_name.ensures.own) ∙ kept.same.own;
      table = c.leave_name.ensures.table ∙ c.in_ok-given.ensures.same.table ∙ table;
    } in
    same

pub give_trips-loop-preserved : goal.give_trips-loop-preserved
give_trips-loop-preserved t c =
    let g = c.args.giving.now in
    let before = c.loop.giving in
    let scope = c.enter_name.new.scope in
    let behind = c.give_items.new.giving in
    let r = symbols_in g in
    let k = known_there g in
    let ys = list_items_tree c.args.items.now in
    let v = c.args.variable.now in
    let n = c.args.trips.count in
    let i = c.loop.counter in
    let f : ℕ → ℤ = λ j. c.args.trips.first +ℤ pos j *ℤ c.args.trips.step in
    let kept = c.loop.invariant in
    let table = c.in_ok-enter_name.ensures.table ∙ kept.same.table in
    let fits : FitsSigned w32 c.value_of_trip-here.result = search rules in
    let known : scope_known scope ≡ with_value v (f i) k =
    c.in_ok-enter_name.ensures.known ∙ ap (λ x. with_name v (Some (Int x)) (scope_known before.scope)) (to_z-of_z w32 c.value_of_trip-here.result fits ∙ c.value_of_trip-here.ensures ∙ kept.value)
    ∙ ap (with_value v (f i)) (same_known g.scope before.scope kept.same) in
    let one =
    sym (ap (λ t. filled (symbols_at t.now.symbols.now).names (targets_in (symbols_at t.now.symbols.now) ys (scope_known scope)) (stage_of before)) table
    ∙ ap (λ x. filled r.names (targets_in r ys x) (stage_of before)) known) ∙ c.in_ok-given.ensures.filled in
    let same : IsSameScope g.scope c.leave_name.new.scope = record {
      own = c.leave_name.ensures.own before.scope.own.items _ (c.in_ok-given.ensures.same.own ∙ c.in_ok-enter_name.ensures.own) ∙ kept.same.own;
      table = c.leave_name.ensures.table ∙ c.in_ok-given.ensures.same.table ∙ table;
    } in
    let by : FitsSigned w32 c.args.trips.step = search rules in
    let far : FitsSigned w64 c.next_trip-value.result = search rules in
    record {
      left =
          sym (trip_more r ys v k f i n (stage_of before) c.loop-test.true
          ∙ ap (λ o. and_also o (left r ys v k f (i + 1) n)) (one ∙ ap (λ b. if b then Some (stage_of behind) else None) c.if-not-given.false)) ∙ kept.left;
      value = to_z-of_z w64 c.next_trip-value.result far ∙ c.next_trip-value.ensures ∙ ap (λ x. to_z w64 c.loop.value-bits +ℤ x) (to_z-of_z w32 c.args.trips.step by) ∙ ap (λ x. x +ℤ c.args.trips.step) kept.value ∙ next_value c.args.trips.first c.args.trips.step i;
      same = same;
    }

pub give_trips-value_of_trip-here-requires : goal.give_trips-value_of_trip-here-requires
give_trips-value_of_trip-here-requires t c =
    subst (λ z. FitsSigned w32 z) (sym c.loop.invariant.value) (c.requires.integers c.loop.counter c.loop-test.true)

pub give_trips-next_trip-value-requires : goal.give_trips-next_trip-value-requires
give_trips-next_trip-value-requires t c =
    subst (λ z. FitsSigned w32 z) (sym c.loop.invariant.value) (c.requires.integers c.loop.counter c.loop-test.true)

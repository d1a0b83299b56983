use Rattle.std.proofs.Common.{◌≡◌, ℕ, ◌+◌, ℤ, pos, ◌+ℤ◌, ◌*ℤ◌, option_map, Some, None, rules, FitsSigned, to_z, sym, ap, ap₂, subst, ◌∙◌}
use Rattle.std.specs.Int.{w32, w64}
use Rattle.std.proofs.lemmas.Int.{to_z-of_z}
use Rattle.meaning.specs.declared.ending.Value.TheVariants.{Int}
use Rattle.meaning.specs.Initial.{is_counter, with_value}
use Rattle.meaning.specs.Syntax.{limits_tree, list_item_tree, list_items_tree}
use Rattle.symbols.specs.SymbolsAt.{symbols_at}
use Rattle.declarations.specs.KnownNames.{with_name}
use Rattle.declarations.specs.Tables.{scope_known}
use Rattle.data_rules.specs.DataGiving.{known_there, stage_of, symbols_in}
use Rattle.data_rules.specs.DataStages.{Stage}
use Rattle.data_rules.specs.DataTrips.{trips_by}
use Rattle.data_rules.specs.SameScope.{IsSameScope}
use Rattle.data_rules.proofs.DataListing.{next_value, same_known}
use Rattle.data_culprits.specs.Faults.{limits_fault}
use Rattle.data_culprits.specs.Lists.{each_trip, to_item, to_items}
use Rattle.data_culprits.specs.Outcomes.{Outcome, stopped, outcome_of, then_go}
use Rattle.data_culprits.specs.Told.{tell}
use Rattle.data_culprits.proofs.Steps.{items_more, items_none, left, same_outcome, to_no_trips, to_trips, trip_more}
use Rattle.data_culprits.proofs.lists.+bad_lists.Goals as goal

pub bad_item-returns-in-Some-clause-told : goal.bad_item-returns-in-Some-clause-told
bad_item-returns-in-Some-clause-told t c =
    let g = c.args.giving.now in
    let r = symbols_in g in
    let k = known_there g in
    let s = stage_of g in
    let l = limits_tree c.in-Loop.limits in
    let f : ℤ → Stage → Outcome = λ i. to_items r (list_items_tree c.in-Loop.items.value) (with_value c.in-Loop.variable.items i k) in
    let can = ap (is_counter r) (sym c.deref.ensures.value) ∙ sym c.is_counter.ensures ∙ c.if-not-is_counter.false in
    let is = trips_by c.in-Some.trips in
    let some = sym c.trips_of.ensures.trips ∙ ap (option_map trips_by) c.in-Some.is in
    same_outcome c.bad_trips.result (λ o. outcome_of (stage_of c.bad_trips.new.giving) (tell o))
    (ap (λ x. to_item r (list_item_tree x) k s) c.in-Loop.is
    ∙ to_trips r k c.in-Loop.variable.items l f s is can some
    ∙ ap₂ (λ xs v. each_trip (λ i. to_items r (list_items_tree xs) (with_value v i k)) is s) (sym c.deref-in-Some.ensures) (sym c.deref-in-Some-2.ensures.value))
    c.bad_trips.ensures.told

pub bad_item-returns-in_ok-culprit-in-None-clause-told : goal.bad_item-returns-in_ok-culprit-in-None-clause-told
bad_item-returns-in_ok-culprit-in-None-clause-told t c =
    let g = c.args.giving.now in
    let r = symbols_in g in
    let k = known_there g in
    let s = stage_of g in
    let l = limits_tree c.in-Loop.limits in
    let f : ℤ → Stage → Outcome = λ i. to_items r (list_items_tree c.in-Loop.items.value) (with_value c.in-Loop.variable.items i k) in
    let can = ap (is_counter r) (sym c.deref.ensures.value) ∙ sym c.is_counter.ensures ∙ c.if-not-is_counter.false in
    let none = sym c.trips_of.ensures.trips ∙ ap (option_map trips_by) c.in-None.is in
    ap (λ x. to_item r (list_item_tree x) k s) c.in-Loop.is
    ∙ to_no_trips r k c.in-Loop.variable.items l f s can none
    ∙ ap stopped (ap (λ v. limits_fault r.names.types k v l) (sym c.deref-in-None.ensures.value) ∙ sym c.in_ok-culprit-in-None.ensures)

pub bad_items-returns-in-Empty-clause-told : goal.bad_items-returns-in-Empty-clause-told
bad_items-returns-in-Empty-clause-told t c =
    let g = c.args.giving.now in
    let r = symbols_in g in
    let k = known_there g in
    let s = stage_of g in
    ap (λ xs. to_items r (list_items_tree xs) k s) c.in-Empty.is ∙ items_none r k s

pub bad_items-returns-in-Some-clause-told : goal.bad_items-returns-in-Some-clause-told
bad_items-returns-in-Some-clause-told t c =
    let g = c.args.giving.now in
    let r = symbols_in g in
    let k = known_there g in
    let s = stage_of g in
    let rest = list_items_tree c.in-More.rest.value in
    ap (λ xs. to_items r (list_items_tree xs) k s) c.in-More.is
    ∙ items_more r k (list_item_tree c.in-More.item) rest s
    ∙ ap (λ o. then_go o (to_items r rest k)) (c.in_ok-culprit-in-More.ensures.told ∙ ap (λ o. outcome_of (stage_of c.bad_item.new.giving) (tell o)) c.in-Some.is)

pub bad_items-returns-in-None-clause-told : goal.bad_items-returns-in-None-clause-told
bad_items-returns-in-None-clause-told t c =
    let g = c.args.giving.now in
    let r = symbols_in g in
    let k = known_there g in
    let s = stage_of g in
    let h = c.bad_item.new.giving in
    let same = c.in_ok-culprit-in-More.ensures.same in
    let rest = list_items_tree c.in-More.rest.value in
    same_outcome c.bad_items.result (λ o. outcome_of (stage_of c.bad_items.new.giving) (tell o))
    (ap (λ xs. to_items r (list_items_tree xs) k s) c.in-More.is
    ∙ items_more r k (list_item_tree c.in-More.item) rest s
    ∙ ap (λ o. then_go o (to_items r rest k)) (c.in_ok-culprit-in-More.ensures.told ∙ ap (λ o. outcome_of (stage_of h) (tell o)) c.in-None.is)
    ∙ ap (λ tb. to_items (symbols_at tb.now.symbols.now) rest k (stage_of h)) (sym same.table)
    ∙ ap (λ j. to_items (symbols_in h) rest j (stage_of h)) (sym (same_known g.scope h.scope same))
    ∙ ap (λ xs. to_items (symbols_in h) (list_items_tree xs) (known_there h) (stage_of h)) (sym c.deref.ensures))
    c.bad_items.ensures.told

pub bad_trips-returns-in-Some-clause-told : goal.bad_trips-returns-in-Some-clause-told
bad_trips-returns-in-Some-clause-told t c =
    let g = c.args.giving.now in
    let before = c.loop.giving in
    let scope = c.enter_name.new.scope in
    let behind = c.bad_items.new.giving in
    let r = symbols_in g in
    let k = known_there g in
    let ys = list_items_tree c.args.items.now in
    let v = c.args.variable.now in
    let n = c.args.trips.count in
    let i = c.loop.counter in
    let f : ℤ → Stage → Outcome = λ j. to_items r ys (with_value v j k) in
    let h : ℕ → ℤ = λ j. c.args.trips.first +ℤ pos j *ℤ c.args.trips.step in
    let kept = c.loop.invariant in
    let table = c.in_ok-enter_name.ensures.table ∙ kept.same.table in
    let fits : FitsSigned w32 c.value_of_trip-here.result = search rules in
    let known : scope_known scope ≡ with_value v (h i) k =
    c.in_ok-enter_name.ensures.known ∙ ap (λ x. with_name v (Some (Int x)) (scope_known before.scope)) (to_z-of_z w32 c.value_of_trip-here.result fits ∙ c.value_of_trip-here.ensures ∙ kept.value)
    ∙ ap (with_value v (h i)) (same_known g.scope before.scope kept.same) in
    let one =
    sym (ap (λ t. to_items (symbols_at t.now.symbols.now) ys (scope_known scope) (stage_of before)) table
    ∙ ap (λ x. to_items r ys x (stage_of before)) known) ∙ c.in_ok-told.ensures.told in
    sym kept.left ∙ trip_more f h i n (stage_of before) c.loop-test.true
    ∙ ap (λ o. then_go o (left f h (i + 1) n)) (one ∙ ap (λ o. outcome_of (stage_of behind) (tell o)) c.in-Some.is)

pub bad_trips-loop-preserved : goal.bad_trips-loop-preserved
bad_trips-loop-preserved t c =
    let g = c.args.giving.now in
    let before = c.loop.giving in
    let scope = c.enter_name.new.scope in
    let behind = c.bad_items.new.giving in
    let r = symbols_in g in
    let k = known_there g in
    let ys = list_items_tree c.args.items.now in
    let v = c.args.variable.now in
    let n = c.args.trips.count in
    let i = c.loop.counter in
    let f : ℤ → Stage → Outcome = λ j. to_items r ys (with_value v j k) in
    let h : ℕ → ℤ = λ j. c.args.trips.first +ℤ pos j *ℤ c.args.trips.step in
    let kept = c.loop.invariant in
    let table = c.in_ok-enter_name.ensures.table ∙ kept.same.table in
    let fits : FitsSigned w32 c.value_of_trip-here.result = search rules in
    let known : scope_known scope ≡ with_value v (h i) k =
    c.in_ok-enter_name.ensures.known ∙ ap (λ x. with_name v (Some (Int x)) (scope_known before.scope)) (to_z-of_z w32 c.value_of_trip-here.result fits ∙ c.value_of_trip-here.ensures ∙ kept.value)
    ∙ ap (with_value v (h i)) (same_known g.scope before.scope kept.same) in
    let one =
    sym (ap (λ t. to_items (symbols_at t.now.symbols.now) ys (scope_known scope) (stage_of before)) table
    ∙ ap (λ x. to_items r ys x (stage_of before)) known) ∙ c.in_ok-told.ensures.told in
    let by : FitsSigned w32 c.args.trips.step = search rules in
    let far : FitsSigned w64 c.next_trip-value.result = search rules in
    record {
      left =
          sym (trip_more f h i n (stage_of before) c.loop-test.true
          ∙ ap (λ o. then_go o (left f h (i + 1) n)) (one ∙ ap (λ o. outcome_of (stage_of behind) (tell o)) c.in-None.is)) ∙ kept.left;
      value = to_z-of_z w64 c.next_trip-value.result far ∙ c.next_trip-value.ensures ∙ ap (λ x. to_z w64 c.loop.value-bits +ℤ x) (to_z-of_z w32 c.args.trips.step by) ∙ ap (λ x. x +ℤ c.args.trips.step) kept.value ∙ next_value c.args.trips.first c.args.trips.step i;
      same = record {
        own = c.leave_name.ensures.own before.scope.own.items _ (c.in_ok-told.ensures.same.own ∙ c.in_ok-enter_name.ensures.own) ∙ kept.same.own;
        table = c.leave_name.ensures.table ∙ c.in_ok-told.ensures.same.table ∙ table;
      };
    }

pub bad_trips-value_of_trip-here-requires : goal.bad_trips-value_of_trip-here-requires
bad_trips-value_of_trip-here-requires t c =
    subst (λ z. FitsSigned w32 z) (sym c.loop.invariant.value) (c.requires.integers c.loop.counter c.loop-test.true)

pub bad_trips-next_trip-value-requires : goal.bad_trips-next_trip-value-requires
bad_trips-next_trip-value-requires t c =
    subst (λ z. FitsSigned w32 z) (sym c.loop.invariant.value) (c.requires.integers c.loop.counter c.loop-test.true)

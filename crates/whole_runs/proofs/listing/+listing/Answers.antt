use Rattle.std.proofs.Common.{◌≡◌, ◌-◌, ◌<◌, suc, to_z, of_z, Ok, Err, refl, sym, ap, ◌∙◌, subst, rules, arith}
use Rattle.std.specs.Prelude.{FitsSigned}
use Rattle.std.specs.Int.{w32}
use Rattle.std.proofs.lemmas.Int.{to_z-of_z}
use Rattle.meaning.specs.Lists.{followed, listed}
use Rattle.meaning.specs.Syntax.{limits_tree, more_items, list_item_tree, list_items_tree}
use Rattle.meaning.specs.Trips.{span_of, trip_count}
use Rattle.meaning.proofs.Stores.{later-later, does_read, reads_so}
use Rattle.values.specs.Programs.{map_at, scope_in}
use Rattle.evaluator.specs.Limited.{span_values}
use Rattle.evaluator.specs.Listing.{item_listed, Finds, FindsOver}
use Rattle.evaluator.specs.Statements.{Adds}
use Rattle.evaluator.proofs.Composed.{does_so, does_nothing, if_ok_so}
use Rattle.whole_runs.proofs.Listed.{finds_nothing, finds_same, finds_behind, first_fails, listed-more, no_room, limits_fail, loop_found, trips_start, trips_end, items_fail, addition_fails, trip_found}
use Rattle.whole_runs.proofs.listing.+listing.Goals as goal

pub add_items-returns-in-Empty-clause-finds : goal.add_items-returns-in-Empty-clause-finds
add_items-returns-in-Empty-clause-finds g t c =
    let p = c.args.program.now in
    let w = g.S.Store.world c.args.store.now in
    let before = c.args.found.now.items in
    let given = c.args.room.now in
    subst (λ xs. Finds p w w (listed (scope_in p) xs) before before given given) (sym (ap list_items_tree c.in-Empty.is)) (finds_nothing p w (scope_in p) before before given given refl refl)

pub add_items-returns-in-Ok-clause-finds : goal.add_items-returns-in-Ok-clause-finds
add_items-returns-in-Ok-clause-finds g t c =
    let p = c.args.program.now in
    let s = scope_in p in
    let world = g.S.Store.world in
    let x = list_item_tree c.in-More.item in
    let xs = list_items_tree c.deref.result.now in
    let form = ap list_items_tree c.in-More.is ∙ ap (λ r. more_items x (list_items_tree r)) (sym c.deref.ensures) in
    let first = rw c.in-Ok.is at c.in_ok-add_one-in-More-codes.ensures.finds in
    let y = c.add_items in
    if_ok_so y.result _ _ (λ r rest. finds_same p (world c.args.store.now) (world y.new.store) (λ m n. followed (item_listed s x m n) (listed s xs)) (listed s (list_items_tree c.args.items.now)) c.args.found.now.items y.new.found.items c.args.room.now y.new.room r (λ m. ap (λ l. listed s l m c.args.room.now) form ∙ listed-more s x xs m c.args.room.now) (finds_behind p (world c.args.store.now) (world c.add_one.new.store) (world y.new.store) (item_listed s x) (listed s xs) c.args.found.now.items c.add_one.new.found.items y.new.found.items c.args.room.now c.add_one.new.room y.new.room r first rest)) y.ensures.finds

pub add_items-returns-in-Err-clause-finds : goal.add_items-returns-in-Err-clause-finds
add_items-returns-in-Err-clause-finds g t c =
    let p = c.args.program.now in
    let s = scope_in p in
    let world = g.S.Store.world in
    let x = list_item_tree c.in-More.item in
    let xs = list_items_tree c.in-More.rest.value in
    let given = c.args.room.now in
    let first = rw c.in-Err.is at c.in_ok-add_one-in-More-codes.ensures.finds in
    does_so _ _ _ _ (first_fails p (world c.args.store.now) (world c.add_one.new.store) (item_listed s x) (listed s xs) given c.in-Err.kind first) (λ m n h. ap (λ l. listed s l (map_at p m) given) (ap list_items_tree c.in-More.is) ∙ listed-more s x xs (map_at p m) given ∙ h)

pub add_loop-returns-then-room-eq0-clause-finds : goal.add_loop-returns-then-room-eq0-clause-finds
add_loop-returns-then-room-eq0-clause-finds g t c =
    let p = c.args.program.now in
    does_nothing _ _ (λ m. no_room p (scope_in p) (list_items_tree c.args.items.now) c.args.variable.now (limits_tree c.args.limits.now) (map_at p m) c.args.room.now c.if-room-eq0.true)

pub add_loop-returns-in_ok-set_variable-in-Ok-clause-finds : goal.add_loop-returns-in_ok-set_variable-in-Ok-clause-finds
add_loop-returns-in_ok-set_variable-in-Ok-clause-finds g t c =
    let p = c.args.program.now in
    let world = g.S.Store.world in
    let w0 = world c.args.store.now in
    let w1 = world c.values_of_codes.new.store in
    let w2 = world c.set_variable.new.store in
    let y = c.add_trips in
    let span = c.in-Ok.span in
    let given = c.args.room.now in
    let one : given ≡ suc (given - 1) = (let some = c.if-room-eq0.false in omega arith) in
    let fits : FitsSigned w32 span.first = search rules in
    let reads = reads_so w0 w1 _ (λ m. span_of (scope_in p) (limits_tree c.args.limits.now) (map_at p m) ≡ Ok (span_values span)) (c.in-Ok.ensures.reads (limits_tree c.args.limits.now) c.requires.limited) (λ m h. h.0) in
    if_ok_so y.result _ _ (λ r h. loop_found p (scope_in p) (list_items_tree c.args.items.now) c.args.variable.now (limits_tree c.args.limits.now) w0 w1 w2 (world y.new.store) given (given - 1) one (span_values span) (to_z w32 (of_z w32 span.first)) (to_z-of_z w32 span.first fits) reads (c.in_ok-set_variable-in-Ok.ensures.does c.args.variable.now c.requires.counted) c.args.found.now.items y.new.found.items y.new.room r h) y.ensures.finds

pub add_loop-returns-in-Err-clause-finds : goal.add_loop-returns-in-Err-clause-finds
add_loop-returns-in-Err-clause-finds g t c =
    let p = c.args.program.now in
    let given = c.args.room.now in
    let one : given ≡ suc (given - 1) = (let some = c.if-room-eq0.false in omega arith) in
    does_read _ _ _ _ (c.in-Err.ensures.reads (limits_tree c.args.limits.now) c.requires.limited) (λ m h. limits_fail p (scope_in p) (list_items_tree c.args.items.now) c.args.variable.now (limits_tree c.args.limits.now) (map_at p m) given (given - 1) c.in-Err.kind one h)

pub add_one-returns-in-Value-clause-finds : goal.add_one-returns-in-Value-clause-finds
add_one-returns-in-Value-clause-finds g t c =
    let p = c.args.program.now in
    let w0 = g.S.Store.world c.args.store.now in
    let y = c.add_single in
    let w1 = g.S.Store.world y.new.store in
    if_ok_so y.result _ _ (λ r h. subst (λ x. FindsOver p w0 w1 (item_listed (scope_in p) x) c.args.found.now.items y.new.found.items c.args.room.now y.new.room r) (sym (ap list_item_tree c.in-Value.is)) h) y.ensures.finds

pub add_trips-loop-init : goal.add_trips-loop-init
add_trips-loop-init g t c =
    let p = c.args.program.now in
    let span = c.args.span in
    record {
      so_far = trips_start p (listed (scope_in p) (list_items_tree c.args.items.now)) c.args.variable.now span.first span.last span.step (g.S.Store.world c.args.store.now) c.args.found.now.items c.args.room.now;
      ends = c.count_of-end.ensures;
      sized = c.requires.sized;
    }

pub add_trips-add_items-requires : goal.add_trips-add_items-requires
add_trips-add_items-requires g t c =
    let given = c.decreases in
    λ κs h. (omega arith, (search rules, (c.requires.coded, c.loop.invariant.sized)))

pub add_trips-returns-in_err-add_items-clause-later : goal.add_trips-returns-in_err-add_items-clause-later
add_trips-returns-in_err-add_items-clause-later g t c =
    later-later _ (g.S.Store.world c.loop.store) _ c.loop.invariant.so_far.does.grows c.in_err-add_items.ensures.later

pub add_trips-returns-in-Err-clause-finds : goal.add_trips-returns-in-Err-clause-finds
add_trips-returns-in-Err-clause-finds g t c =
    let p = c.args.program.now in
    let world = g.S.Store.world in
    let span = c.args.span in
    let items = listed (scope_in p) (list_items_tree c.args.items.now) in
    let inv = c.loop.invariant in
    let lt : c.loop.counter < trip_count span.first span.last span.step = (let e = inv.ends in let test = c.loop-test.true in omega arith) in
    items_fail p items c.args.variable.now span.first span.last span.step (world c.args.store.now) (world c.loop.store) c.args.found.now.items c.loop.found.items c.args.room.now c.loop.room c.loop.counter inv.so_far (world c.add_items.new.store) lt c.in-Err.kind (rw c.in-Err.is at c.in_ok-add_items.ensures.finds)

pub add_trips-returns-in-Err-clause-later : goal.add_trips-returns-in-Err-clause-later
add_trips-returns-in-Err-clause-later g t c =
    later-later _ (g.S.Store.world c.loop.store) _ c.loop.invariant.so_far.does.grows c.in_ok-add_items.ensures.later

pub add_trips-add_to-requires-clause-sized : goal.add_trips-add_to-requires-clause-sized
add_trips-add_to-requires-clause-sized g t c =
    c.in_ok-add_items.ensures.later.cells ∙ c.loop.invariant.sized

pub add_trips-returns-in_err-add_to-clause-later : goal.add_trips-returns-in_err-add_to-clause-later
add_trips-returns-in_err-add_to-clause-later g t c =
    later-later _ (g.S.Store.world c.loop.store) _ c.loop.invariant.so_far.does.grows (later-later _ (g.S.Store.world c.add_items.new.store) _ c.in_ok-add_items.ensures.later c.in_err-add_to.ensures.later)

pub add_trips-returns-in-Err-2-clause-finds : goal.add_trips-returns-in-Err-2-clause-finds
add_trips-returns-in-Err-2-clause-finds g t c =
    let p = c.args.program.now in
    let world = g.S.Store.world in
    let span = c.args.span in
    let items = listed (scope_in p) (list_items_tree c.args.items.now) in
    let inv = c.loop.invariant in
    let lt : c.loop.counter < trip_count span.first span.last span.step = (let e = inv.ends in let test = c.loop-test.true in omega arith) in
    let fits : FitsSigned w32 span.step = search rules in
    let adds = does_so _ _ _ (λ m n. Adds c.args.variable.now span.step (map_at p m) (map_at p n) (Err c.in-Err-2.kind)) (rw c.in-Err-2.is at (c.in_ok-add_to.ensures.does c.args.variable.now c.requires.counted)) (λ m n h. subst (λ by. Adds c.args.variable.now by (map_at p m) (map_at p n) (Err c.in-Err-2.kind)) (to_z-of_z w32 span.step fits) h) in
    addition_fails p items c.args.variable.now span.first span.last span.step (world c.args.store.now) (world c.loop.store) c.args.found.now.items c.loop.found.items c.args.room.now c.loop.room c.loop.counter inv.so_far (world c.add_items.new.store) lt c.add_items.new.found.items c.add_items.new.room (rw c.in-Ok.is at c.in_ok-add_items.ensures.finds) (world c.add_to.new.store) c.in-Err-2.kind adds

pub add_trips-returns-in-Err-2-clause-later : goal.add_trips-returns-in-Err-2-clause-later
add_trips-returns-in-Err-2-clause-later g t c =
    later-later _ (g.S.Store.world c.loop.store) _ c.loop.invariant.so_far.does.grows (later-later _ (g.S.Store.world c.add_items.new.store) _ c.in_ok-add_items.ensures.later c.in_ok-add_to.ensures.later)

pub add_trips-loop-preserved : goal.add_trips-loop-preserved
add_trips-loop-preserved g t c =
    let p = c.args.program.now in
    let world = g.S.Store.world in
    let span = c.args.span in
    let items = listed (scope_in p) (list_items_tree c.args.items.now) in
    let inv = c.loop.invariant in
    let lt : c.loop.counter < trip_count span.first span.last span.step = (let e = inv.ends in let test = c.loop-test.true in omega arith) in
    let fits : FitsSigned w32 span.step = search rules in
    let adds = does_so _ _ _ (λ m n. Adds c.args.variable.now span.step (map_at p m) (map_at p n) (Ok tt)) (rw c.in-Ok-2.is at (c.in_ok-add_to.ensures.does c.args.variable.now c.requires.counted)) (λ m n h. subst (λ by. Adds c.args.variable.now by (map_at p m) (map_at p n) (Ok tt)) (to_z-of_z w32 span.step fits) h) in
    record {
      so_far = trip_found p items c.args.variable.now span.first span.last span.step (world c.args.store.now) (world c.loop.store) c.args.found.now.items c.loop.found.items c.args.room.now c.loop.room c.loop.counter inv.so_far (world c.add_items.new.store) lt c.add_items.new.found.items c.add_items.new.room (rw c.in-Ok.is at c.in_ok-add_items.ensures.finds) (world c.add_to.new.store) adds;
      ends = inv.ends;
      sized = c.in_ok-add_to.ensures.later.cells ∙ c.in_ok-add_items.ensures.later.cells ∙ inv.sized;
    }

pub add_trips-returns-clause-finds : goal.add_trips-returns-clause-finds
add_trips-returns-clause-finds g t c =
    let p = c.args.program.now in
    let world = g.S.Store.world in
    let span = c.args.span in
    let items = listed (scope_in p) (list_items_tree c.args.items.now) in
    let inv = c.loop.invariant in
    trips_end p items c.args.variable.now span.first span.last span.step (world c.args.store.now) (world c.loop.store) c.args.found.now.items c.loop.found.items c.args.room.now c.loop.room c.loop.counter inv.so_far (let e = inv.ends in let ge = c.loop-test.false in omega arith)

pub add_trips-returns-clause-later : goal.add_trips-returns-clause-later
add_trips-returns-clause-later g t c = c.loop.invariant.so_far.does.grows

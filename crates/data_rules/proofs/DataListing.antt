-- The lists of DATA statements, one item or one trip more.
use Rattle.std.proofs.Common.{◌≡◌, ℕ, suc, ◌+◌, ◌-◌, ◌<◌, ◌≤◌, Bool, true, false, ℤ, pos, ◌+ℤ◌, ◌*ℤ◌, List, [], map, Option, Some, None, refl, sym, ap, ap₂, ◌∙◌, arith}
use Rattle.std.specs.Prelude.{if◌then◌else◌}
use Rattle.std.specs.List.{range_with_len}
use Rattle.std.proofs.Math.IntN.{+ℤ_assoc, suc_ℤ-*ℤ}
use Rattle.meaning.specs.Syntax.{LimitsTree, ListItemTree, ListItemsTree, no_items, more_items, value_item, loop_item}
use Rattle.meaning.specs.Uses.{Symbols}
use Rattle.meaning.specs.Values.{Known}
use Rattle.meaning.specs.Initial.{and_also, both_lists, is_counter, known_trips, targets_in, with_value}
use Rattle.declarations.specs.declared.known.Scope.{Scope}
use Rattle.data_rules.specs.DataItems.{item_targets, trips_targets}
use Rattle.data_rules.specs.DataStages.{Stage, filled}
use Rattle.data_rules.specs.SameScope.{IsSameScope}
use Rattle.declarations.specs.Tables.{known_at, scope_known, with_own}
use Rattle.data_rules.proofs.DataFilling.{filled_both}

module _ (r : Symbols) (known : Known) where
  items_none : targets_in r no_items known ≡ Some []
  unfolding targets_in
  items_none = refl

  items_more : (x : ListItemTree) (xs : ListItemsTree) → targets_in r (more_items x xs) known ≡ both_lists (item_targets r x known) (targets_in r xs known)
  unfolding targets_in
  items_more (value_item e) xs = refl
  items_more (loop_item ys variable limits) xs = refl

  pub filled_none : (s : Stage) → filled r.names (targets_in r no_items known) s ≡ Some s
  filled_none s = ap (λ o. filled r.names o s) items_none

  pub filled_more : (x : ListItemTree) (xs : ListItemsTree) (s : Stage) → filled r.names (targets_in r (more_items x xs) known) s ≡ and_also (filled r.names (item_targets r x known) s) (filled r.names (targets_in r xs known))
  filled_more x xs s = ap (λ o. filled r.names o s) (items_more x xs) ∙ filled_both r.names (item_targets r x known) (targets_in r xs known) s

-- a scope that was left as it was knows the same
pub same_known : (s t : Scope) → IsSameScope s t → scope_known t ≡ scope_known s
same_known s t same = ap₂ (λ os table. with_own (known_at table.now) os) same.own same.table

-- an implied DO without trips
pub no_trips : (r : Symbols) (items : ListItemsTree) (variable : List ℕ) (limits : LimitsTree) (known : Known) (s : Stage) → known_trips r.names.types known limits ≡ None → filled r.names (item_targets r (loop_item items variable limits) known) s ≡ None
no_trips r items variable limits known s none = by_test (is_counter r variable)
  where
    by_test : (b : Bool) → filled r.names (if b then and_also (known_trips r.names.types known limits) (trips_targets r items variable known) else None) s ≡ None
    by_test true = ap (λ o. filled r.names (and_also o (trips_targets r items variable known)) s) none
    by_test false = refl

-- an implied DO with these trips
pub with_trips : (r : Symbols) (items : ListItemsTree) (variable : List ℕ) (limits : LimitsTree) (known : Known) (is : List ℤ) (s : Stage) → is_counter r variable ≡ true → known_trips r.names.types known limits ≡ Some is → filled r.names (item_targets r (loop_item items variable limits) known) s ≡ filled r.names (trips_targets r items variable known is) s
with_trips r items variable limits known is s can some =
    ap₂ (λ b o. filled r.names (if b then and_also o (trips_targets r items variable known) else None) s) can some

module _ (r : Symbols) (items : ListItemsTree) (variable : List ℕ) (known : Known) (f : ℕ → ℤ) where
  -- the trips from one on
  abbrev pub left : ℕ → ℕ → Stage → Option Stage
  left i n s = filled r.names (trips_targets r items variable known (map f (range_with_len i (n - i)))) s

  pub trips_done : (i n : ℕ) (s : Stage) → n ≤ i → left i n s ≡ Some s
  trips_done i n s le =
      let none : n - i ≡ 0 = omega (arith, le) in
      ap (λ k. filled r.names (trips_targets r items variable known (map f (range_with_len i k))) s) none

  pub trip_more : (i n : ℕ) (s : Stage) → i < n → left i n s ≡ and_also (filled r.names (targets_in r items (with_value variable (f i) known)) s) (left (i + 1) n)
  trip_more i n s lt =
      let more : n - i ≡ suc (n - (i + 1)) = omega (arith, lt) in
      ap (λ k. filled r.names (trips_targets r items variable known (map f (range_with_len i k))) s) more
      ∙ filled_both r.names (targets_in r items (with_value variable (f i) known)) (trips_targets r items variable known (map f (range_with_len (i + 1) (n - (i + 1))))) s

pub next_value : (a s : ℤ) (i : ℕ) → a +ℤ pos i *ℤ s +ℤ s ≡ a +ℤ pos (i + 1) *ℤ s
next_value a s i =
    +ℤ_assoc a (pos i *ℤ s) s ∙ ap (λ x. a +ℤ x) (sym (suc_ℤ-*ℤ (pos i) s) ∙ ap (λ k. pos k *ℤ s) (one_more i))
  where
    one_more : (k : ℕ) → suc k ≡ k + 1
    one_more k = omega arith

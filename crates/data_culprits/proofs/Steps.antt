-- One place, one trip, one item or one statement more.
use Rattle.std.proofs.Common.{◌≡◌, ℕ, suc, ◌+◌, ◌-◌, ◌<◌, ◌≤◌, ℤ, Bool, true, false, ◌||◌, List, [], ◌∷◌, length, get_or, drop, map, Option, Some, None, Result, Ok, Err, refl, sym, ap, ◌∙◌, arith}
use Rattle.std.specs.Prelude.{if◌then◌else◌, is_some, OnOk}
use Rattle.std.specs.List.{range_with_len}
use Rattle.std.specs.Result.{IfOk}
use Rattle.std.proofs.lemmas.List.{drop_all, drop_more}
use Rattle.meaning.specs.declared.ending.Value.{Value}
use Rattle.meaning.specs.declared.syntax.DataSet.{DataSet}
use Rattle.meaning.specs.Initial.{and_also, is_counter, known_trips, value_type, with_value}
use Rattle.meaning.specs.Syntax.{LimitsTree, ListItemTree, ListItemsTree, no_items, more_items, value_item, loop_item, data_set_tree}
use Rattle.meaning.specs.Types.{Types}
use Rattle.meaning.specs.Typing.{clash}
use Rattle.meaning.specs.Uses.{Symbols}
use Rattle.meaning.specs.Values.{Known}
use Rattle.data_rules.specs.DataStages.{Stage, first_of, give_places, give_value, stops, with_given}
use Rattle.data_culprits.specs.Faults.{limits_fault}
use Rattle.data_culprits.specs.Lists.{each_trip, in_trips, next_to, next_to_each, to_item, to_items, to_loop, value_to}
use Rattle.data_culprits.specs.Outcomes.{Outcome, went, stopped, then_go, told_in}
use Rattle.data_culprits.specs.Sets.{to_set, to_sets}
use Rattle.data_culprits.specs.Told.{Told, no_counter, mistyped, unserved, given_again}

pub same_outcome : {A B E : Type 0} (r : Result B E) (f : B → A) {x y : A} → y ≡ x → IfOk r (λ b. x ≡ f b) → IfOk r (λ b. y ≡ f b)
same_outcome (Ok b) f same told = same ∙ told
same_outcome (Err e) f same told = tt

pub then_ok : {A E : Type 0} (r : Result A E) {P Q : Type 0} → (P → Q) → OnOk r P → OnOk r Q
then_ok (Ok a) f holds = f holds
then_ok (Err e) f holds = tt

-- ---- places

module _ (types : Types) (n : List ℕ) where
  module _ (i : ℕ) (s : Stage) where
    pub to_none : None ≡ first_of s.values → next_to types n i s ≡ stopped (unserved n)
    to_none is = ap (value_to types n i s) (sym is)

    abbrev by_tests : Value → Bool → Bool → Outcome
    by_tests v a b =
        if a then stopped (mistyped n v)
        else (if b then stopped (given_again n) else went (with_given n i v s))

    pub to_other : (v : Value) → Some v ≡ first_of s.values → true ≡ clash (types n) (value_type v) → next_to types n i s ≡ stopped (mistyped n v)
    to_other v is differs =
        ap (value_to types n i s) (sym is) ∙ ap (λ a. by_tests v a (stops s.way (is_some (s.given n i)))) (sym differs)

    -- what the rule's own machine gives
    abbrev given_by : Value → Bool → Bool → Option Stage
    given_by v a b = and_also (if a || b then None else Some (with_given n i v s)) (λ t. Some t)

    giving : (v : Value) (o : Option Stage) → Some v ≡ first_of s.values → false ≡ clash (types n) (value_type v) → give_places types n (i ∷ []) s ≡ o → given_by v false (stops s.way (is_some (s.given n i))) ≡ o
    giving v o is same gives =
        ap (λ a. given_by v a (stops s.way (is_some (s.given n i)))) same
        ∙ ap (λ p. and_also (give_value types n i s p) (λ t. Some t)) is ∙ gives

    pub to_given : (v : Value) (t : Stage) → Some v ≡ first_of s.values → false ≡ clash (types n) (value_type v) → give_places types n (i ∷ []) s ≡ Some t → next_to types n i s ≡ went t
    to_given v t is same gives =
        ap (value_to types n i s) (sym is) ∙ ap (λ a. by_tests v a (stops s.way (is_some (s.given n i)))) (sym same)
        ∙ by_mark (stops s.way (is_some (s.given n i))) (giving v (Some t) is same gives)
      where
        by_mark : (b : Bool) → given_by v false b ≡ Some t → by_tests v false b ≡ went t
        by_mark true e = absurd cc
        by_mark false e = let same : with_given n i v s ≡ t = cc in ap went same

    pub to_again : (v : Value) → Some v ≡ first_of s.values → false ≡ clash (types n) (value_type v) → give_places types n (i ∷ []) s ≡ None → next_to types n i s ≡ stopped (given_again n)
    to_again v is same gives =
        ap (value_to types n i s) (sym is) ∙ ap (λ a. by_tests v a (stops s.way (is_some (s.given n i)))) (sym same)
        ∙ by_mark (stops s.way (is_some (s.given n i))) (giving v None is same gives)
      where
        by_mark : (b : Bool) → given_by v false b ≡ None → by_tests v false b ≡ stopped (given_again n)
        by_mark true e = refl
        by_mark false e = absurd cc

  pub place_more : (i m : ℕ) (s : Stage) → i < m → next_to_each types n (range_with_len i (m - i)) s ≡ then_go (next_to types n i s) (next_to_each types n (range_with_len (i + 1) (m - (i + 1))))
  place_more i m s lt =
      let more : m - i ≡ suc (m - (i + 1)) = omega (arith, lt) in
      ap (λ k. next_to_each types n (range_with_len i k) s) more

  pub places_done : (i m : ℕ) (s : Stage) → m ≤ i → next_to_each types n (range_with_len i (m - i)) s ≡ went s
  places_done i m s le =
      let none : m - i ≡ 0 = omega (arith, le) in
      ap (λ k. next_to_each types n (range_with_len i k) s) none

-- ---- trips

module _ (f : ℤ → Stage → Outcome) (g : ℕ → ℤ) where
  abbrev pub left : ℕ → ℕ → Stage → Outcome
  left i n s = each_trip f (map g (range_with_len i (n - i))) s

  pub trip_more : (i n : ℕ) (s : Stage) → i < n → left i n s ≡ then_go (f (g i) s) (left (i + 1) n)
  trip_more i n s lt =
      let more : n - i ≡ suc (n - (i + 1)) = omega (arith, lt) in
      ap (λ k. each_trip f (map g (range_with_len i k)) s) more

  pub trips_done : (i n : ℕ) (s : Stage) → n ≤ i → left i n s ≡ went s
  trips_done i n s le =
      let none : n - i ≡ 0 = omega (arith, le) in
      ap (λ k. each_trip f (map g (range_with_len i k)) s) none

-- ---- items

module _ (r : Symbols) (known : Known) where
  pub items_none : (s : Stage) → to_items r no_items known s ≡ went s
  unfolding to_items
  items_none s = refl

  pub items_more : (x : ListItemTree) (xs : ListItemsTree) (s : Stage) → to_items r (more_items x xs) known s ≡ then_go (to_item r x known s) (to_items r xs known)
  unfolding to_items
  items_more (value_item e) xs s = refl
  items_more (loop_item ys variable limits) xs s = refl

  module _ (n : List ℕ) (l : LimitsTree) (f : ℤ → Stage → Outcome) (s : Stage) where
    abbrev looped : Bool → Option (List ℤ) → Outcome
    looped b o = if b then in_trips (limits_fault r.names.types known n l) f o s else stopped (no_counter n)

    pub to_no_counter : is_counter r n ≡ false → to_loop r known n l f s ≡ stopped (no_counter n)
    to_no_counter is = ap (λ b. looped b (known_trips r.names.types known l)) is

    pub to_no_trips : is_counter r n ≡ true → known_trips r.names.types known l ≡ None → to_loop r known n l f s ≡ stopped (limits_fault r.names.types known n l)
    to_no_trips is none = ap (λ b. looped b (known_trips r.names.types known l)) is ∙ ap (looped true) none

    pub to_trips : (is : List ℤ) → is_counter r n ≡ true → known_trips r.names.types known l ≡ Some is → to_loop r known n l f s ≡ each_trip f is s
    to_trips is can some = ap (λ b. looped b (known_trips r.names.types known l)) can ∙ ap (looped true) some

-- ---- sets

module _ (r : Symbols) (known : Known) (sets : List DataSet) (i : ℕ) where
  abbrev rest : ℕ → Stage → Outcome
  rest k s = to_sets r known (map data_set_tree (drop k sets)) s

  set_first : (x : DataSet) (s : Stage) (o : Outcome) → i < length sets → x ≡ get_or sets i x → o ≡ to_set r known (data_set_tree x) s → rest i s ≡ then_go o (rest (i + 1))
  set_first x s o lt is given =
      ap (λ xs. to_sets r known (map data_set_tree xs) s) (drop_more sets i x lt)
      ∙ ap (λ y. then_go (to_set r known (data_set_tree y) s) (rest (i + 1))) (sym is)
      ∙ ap (λ p. then_go p (rest (i + 1))) (sym given)

  pub set_more : (x : DataSet) (s next : Stage) (all : Outcome) → i < length sets → x ≡ get_or sets i x → went next ≡ to_set r known (data_set_tree x) s → rest i s ≡ all → rest (i + 1) next ≡ all
  set_more x s next all lt is given so_far = sym (set_first x s (went next) lt is given) ∙ so_far

  pub set_stopped : (x : DataSet) (s : Stage) (k : Told) (all : Outcome) → i < length sets → x ≡ get_or sets i x → stopped k ≡ to_set r known (data_set_tree x) s → rest i s ≡ all → Some k ≡ told_in all
  set_stopped x s k all lt is given so_far = ap told_in (sym (set_first x s (stopped k) lt is given) ∙ so_far)

  pub sets_end : (s : Stage) (all : Outcome) → length sets ≤ i → rest i s ≡ all → None ≡ told_in all
  sets_end s all le so_far = ap told_in (sym (ap (λ xs. to_sets r known (map data_set_tree xs) s) (drop_all i sets le)) ∙ so_far)

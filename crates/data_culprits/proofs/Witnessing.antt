-- By what is told a statement breaks the rule.
use Rattle.std.proofs.Common.{◌≡◌, ℕ, ℤ, inl, inr, Bool, true, false, List, [], ◌∷◌, Option, Some, None, refl, sym, ap, ap₂, subst, ◌∙◌}
use Rattle.std.specs.Prelude.{if◌then◌else◌, is_none, is_some, IsTrue, ◌⊎◌}
use Rattle.std.specs.List.{range_with_len}
use Rattle.std.specs.Option.{option_or}
use Rattle.meaning.specs.declared.ending.Value.{Value}
use Rattle.meaning.specs.Arrays.{Dimension, size}
use Rattle.meaning.specs.Initial.{is_counter, known_trips, value_type, whole_target, element_target, with_value}
use Rattle.meaning.specs.Syntax.{DataSetTree, DataValueTree, ExprTree, name, element, LimitsTree, ListItemsTree, no_items, more_items, value_item, loop_item}
use Rattle.meaning.specs.Types.{Types}
use Rattle.meaning.specs.Typing.{clash}
use Rattle.meaning.specs.Uses.{Symbols, is_other}
use Rattle.meaning.specs.Values.{Known}
use Rattle.data_rules.specs.DataPlaces.{place_known}
use Rattle.data_rules.specs.DataRuns.{values_of}
use Rattle.data_rules.specs.DataSets.{with_values}
use Rattle.data_rules.specs.DataStages.{Stage, first_of, is_empty_list, stops, with_given}
use Rattle.data_culprits.specs.Faults.{limits_fault, subscripts_fault}
use Rattle.data_culprits.specs.Lists.{each_trip, ended, in_trips, next_to, next_to_each, to_element, to_items, to_list, to_loop, to_name, to_place, to_value, value_to}
use Rattle.data_culprits.specs.Outcomes.{Outcome, went, stopped, then_go}
use Rattle.data_culprits.specs.Sets.{to_set, to_sets, unless_bad}
use Rattle.data_culprits.specs.Told.{Told, no_item, no_counter, mistyped, unserved, given_again, left_over}
use Rattle.data_culprits.specs.Values.{value_fault, values_fault}
use Rattle.data_culprits.specs.Witness.{IsConstantBy, IsElementBy, IsListBy, IsLoopBy, IsNextBy, IsNoItemBy, IsSetBy, IsSetsBy, IsValueBy}
use Rattle.data_culprits.proofs.Valueless.{value_none}

same_told : (j k : Told) → stopped j ≡ stopped k → j ≡ k
same_told j k is = cc

no_stop : (s : Stage) (k : Told) → went s ≡ stopped k → ⊥
no_stop s k is = cc

-- of two steps one has stopped
module _ (P : Told → Type 0) where
  then_by : (o : Outcome) (f : Stage → Outcome) (k : Told) → (o ≡ stopped k → P k) → ((t : Stage) → f t ≡ stopped k → P k) → then_go o f ≡ stopped k → P k
  then_by (went t) f k first more is = more t is
  then_by (stopped j) f k first more is = first is

-- ---- places

module _ (types : Types) (n : List ℕ) where
  value_by : (i : ℕ) (s : Stage) (o : Option Value) (k : Told) → value_to types n i s o ≡ stopped k → IsNextBy types n k
  value_by i s None k is = subst (IsNextBy types n) (same_told (unserved n) k is) refl
  value_by i s (Some v) k is =
      by_tests (clash (types n) (value_type v)) (stops s.way (is_some (s.given n i))) refl is
    where
      by_tests : (a b : Bool) → clash (types n) (value_type v) ≡ a → (if a then stopped (mistyped n v) else (if b then stopped (given_again n) else went (with_given n i v s))) ≡ stopped k → IsNextBy types n k
      by_tests true b differs is = subst (IsNextBy types n) (same_told (mistyped n v) k is) (refl, differs)
      by_tests false true same is = subst (IsNextBy types n) (same_told (given_again n) k is) refl
      by_tests false false same is = absurd (no_stop (with_given n i v s) k is)

  next_by : (i : ℕ) (s : Stage) (k : Told) → next_to types n i s ≡ stopped k → IsNextBy types n k
  next_by i s k is = value_by i s (first_of s.values) k is

  each_by : (is : List ℕ) (s : Stage) (k : Told) → next_to_each types n is s ≡ stopped k → IsNextBy types n k
  each_by [] s k is = absurd (no_stop s k is)
  each_by (i ∷ js) s k is =
      then_by (IsNextBy types n) (next_to types n i s) (next_to_each types n js) k (next_by i s k) (λ t. each_by js t k) is

-- ---- items

module _ (r : Symbols) where
  name_by : (n : List ℕ) (s : Stage) (k : Told) (o : Option (List Dimension)) (other : Bool) → r.names.arrays n ≡ o → is_other r n ≡ other → to_name r.names.types o other n s ≡ stopped k → IsValueBy r (name n) k
  name_by n s k (Some ds) other array at is =
      inl (each_by r.names.types n (range_with_len 0 (size ds)) s k is)
  name_by n s k None true array at is = inl (next_by r.names.types n 0 s k is)
  name_by n s k None false array at is =
      inr (inl (same_told (no_item n) k is, λ known. ap₂ (λ a b. whole_target a b n) array at))

  place_by : (known : Known) (n : List ℕ) (es : _) (s : Stage) (k : Told) (ds : List Dimension) (o : Option ℕ) → r.names.arrays n ≡ Some ds → place_known r.names.types known ds es ≡ o → to_place r.names.types n (subscripts_fault r.names.types known n ds es) o s ≡ stopped k → IsValueBy r (element n es) k
  place_by known n es s k ds None array at is =
      inr (inr (known, ds, array, at, same_told (subscripts_fault r.names.types known n ds es) k is))
  place_by known n es s k ds (Some i) array at is = inl (next_by r.names.types n i s k is)

  element_by : (known : Known) (n : List ℕ) (es : _) (s : Stage) (k : Told) (o : Option (List Dimension)) → r.names.arrays n ≡ o → to_element r.names.types known o n es s ≡ stopped k → IsValueBy r (element n es) k
  element_by known n es s k None array is =
      inr (inl (same_told (no_item n) k is, λ other. ap (λ a. element_target r.names.types other a n es) array))
  element_by known n es s k (Some ds) array is =
      place_by known n es s k ds (place_known r.names.types known ds es) array refl is

  item_by : (known : Known) (e : ExprTree) (s : Stage) (k : Told) → to_value r known e s ≡ stopped k → IsValueBy r e k
  item_by known (name n) s k is = name_by n s k (r.names.arrays n) (is_other r n) refl refl is
  item_by known (element n es) s k is = element_by known n es s k (r.names.arrays n) refl is
  item_by known e s k is = inr (inl (same_told _ k is, λ other. refl))

  module _ (P : Told → Type 0) (f : ℤ → Stage → Outcome) (k : Told) (each : (i : ℤ) (s : Stage) → f i s ≡ stopped k → P k) where
    trips_by : (is : List ℤ) (s : Stage) → each_trip f is s ≡ stopped k → P k
    trips_by [] s is = absurd (no_stop s k is)
    trips_by (i ∷ js) s is = then_by P (f i s) (each_trip f js) k (each i s) (trips_by js) is

    loop_by : (known : Known) (n : List ℕ) (l : LimitsTree) (s : Stage) → to_loop r known n l f s ≡ stopped k → IsLoopBy r n l k ⊎ P k
    loop_by known n l s is = by_test (is_counter r n) (known_trips r.names.types known l) refl refl is
      where
        by_test : (b : Bool) (o : Option (List ℤ)) → is_counter r n ≡ b → known_trips r.names.types known l ≡ o → (if b then in_trips (limits_fault r.names.types known n l) f o s else stopped (no_counter n)) ≡ stopped k → IsLoopBy r n l k ⊎ P k
        by_test true None can none is = inl (inr (known, none, same_told (limits_fault r.names.types known n l) k is))
        by_test true (Some js) can some is = inr (trips_by js s is)
        by_test false o cannot at is = inl (inl (same_told (no_counter n) k is, cannot))

  items_by : (xs : ListItemsTree) (known : Known) (s : Stage) (k : Told) → to_items r xs known s ≡ stopped k → IsListBy r xs k
  unfolding to_items
  items_by no_items known s k is = absurd (no_stop s k is)
  items_by (more_items (value_item e) xs) known s k is =
      then_by (IsListBy r (more_items (value_item e) xs)) (to_value r known e s) (to_items r xs known) k (λ h. inl (item_by known e s k h)) (λ t h. inr (items_by xs known t k h)) is
  items_by (more_items (loop_item ys n l) xs) known s k is =
      let f : ℤ → Stage → Outcome = λ i. to_items r ys (with_value n i known) in
      then_by (IsListBy r (more_items (loop_item ys n l) xs)) (to_loop r known n l f s) (to_items r xs known) k
      (λ h. inl (loop_by (IsListBy r ys) f k (λ i t. items_by ys (with_value n i known) t k) known n l s h))
      (λ t h. inr (items_by xs known t k h)) is

  ended_by : (s : Stage) (k : Told) → ended s ≡ stopped k → left_over ≡ k
  ended_by s k is = by_test (is_empty_list s.values) is
    where
      by_test : (b : Bool) → (if b then went (with_values [] s) else stopped left_over) ≡ stopped k → left_over ≡ k
      by_test true is = absurd (no_stop (with_values [] s) k is)
      by_test false is = same_told left_over k is

  list_by : (known : Known) (xs : ListItemsTree) (s : Stage) (k : Told) → to_list r known xs s ≡ stopped k → IsListBy r xs k ⊎ (left_over ≡ k)
  list_by known xs s k is =
      then_by (λ j. IsListBy r xs j ⊎ (left_over ≡ j)) (to_items r xs known s) ended k (λ h. inl (items_by xs known s k h)) (λ t h. inr (ended_by t k h)) is

-- ---- sets

first_by : (known : Known) (v : DataValueTree) (vs : List DataValueTree) (k : Told) (o : Option Told) → ((j : Told) → values_fault known vs ≡ Some j → IsConstantBy known vs j) → value_fault known v ≡ o → option_or o (values_fault known vs) ≡ Some k → IsConstantBy known (v ∷ vs) k
first_by known v vs k (Some j) more at is = inl (at ∙ is, value_none known v j at)
first_by known v vs k None more at is = inr (more k is)

constant_by : (known : Known) (vs : List DataValueTree) (k : Told) → values_fault known vs ≡ Some k → IsConstantBy known vs k
constant_by known [] k is = absurd cc
constant_by known (v ∷ vs) k is =
    first_by known v vs k (value_fault known v) (λ j at. constant_by known vs j at) refl is

module _ (r : Symbols) (known : Known) where
  set_by : (x : DataSetTree) (s : Stage) (k : Told) → to_set r known x s ≡ stopped k → IsSetBy r known x k
  set_by x s k is = by_fault (values_fault known x.values) refl is
    where
      by_fault : (o : Option Told) → values_fault known x.values ≡ o → unless_bad o (to_list r known x.list (with_values (values_of known x.values) s)) ≡ stopped k → IsSetBy r known x k
      by_fault None at is = inr (list_by r known x.list (with_values (values_of known x.values) s) k is)
      by_fault (Some j) at is = inl (constant_by known x.values k (at ∙ ap Some (same_told j k is)))

  pub sets_by : (xs : List DataSetTree) (s : Stage) (k : Told) → to_sets r known xs s ≡ stopped k → IsSetsBy r known xs k
  sets_by [] s k is = absurd (no_stop s k is)
  sets_by (x ∷ xs) s k is =
      then_by (IsSetsBy r known (x ∷ xs)) (to_set r known x s) (to_sets r known xs) k (λ h. inl (set_by x s k h)) (λ t h. inr (sets_by xs t k h)) is

-- What is told of DATA statements is a witness.
use Rattle.std.proofs.Common.{◌≡◌, ℕ, ℤ, Bool, true, false, ◌||◌, List, [], ◌∷◌, map, Option, Some, None, refl, sym, ap, ap₂, ◌∙◌}
use Rattle.std.specs.Prelude.{if◌then◌else◌, is_some}
use Rattle.std.specs.List.{range_with_len}
use Rattle.finding.specs.Answers.{IsAnswer}
use Rattle.meaning.specs.declared.ending.Value.{Value}
use Rattle.meaning.specs.Arrays.{Dimension, size}
use Rattle.meaning.specs.Initial.{Target, all_lists, and_also, element_target, has_bad_data, is_counter, known_subscripts, known_trips, paired, sets_at, starts_from, targets_in, value_targets, value_type, whole_target, with_value}
use Rattle.meaning.specs.NumberRules.{known_behind_all}
use Rattle.meaning.specs.Syntax.{DataSetTree, ExprTree, name, element, ItemTree, LimitsTree, ListItemsTree, no_items, more_items, value_item, loop_item}
use Rattle.meaning.specs.Types.{Types}
use Rattle.meaning.specs.Typing.{Names, clash}
use Rattle.meaning.specs.Uses.{Symbols, is_other}
use Rattle.meaning.specs.Values.{Known}
use Rattle.data_rules.specs.DataPlaces.{place_known}
use Rattle.data_rules.specs.DataRuns.{values_of}
use Rattle.data_rules.specs.DataSets.{IsFilledBy, fill_list, fill_set, fill_sets, given_by, if_used_up, with_values}
use Rattle.data_rules.specs.DataStages.{Stage, filled, first_of, give, give_places, give_value, is_empty_list, stops, with_given}
use Rattle.data_rules.proofs.DataFilling.{by_subscripts, filled_both, filled_variable, filled_whole, trips_first}
use Rattle.data_rules.proofs.DataPairing.{accept, set_filled, stage_in as stage_of_way}
use Rattle.data_rules.proofs.DataStarting.{bad_data, filled_behind, good_data}
use Rattle.data_culprits.specs.Faults.{limits_fault, subscripts_fault}
use Rattle.data_culprits.specs.Lists.{each_trip, ended, in_trips, next_to, next_to_each, to_element, to_items, to_list, to_loop, to_name, to_place, to_value, value_to}
use Rattle.data_culprits.specs.Outcomes.{Outcome, went, stopped, stage_in, then_go, told_in}
use Rattle.data_culprits.specs.Sets.{bad_in, stage_behind, to_set, to_sets, unless_bad}
use Rattle.data_culprits.specs.Told.{Told, no_counter, mistyped, given_again, left_over}
use Rattle.data_culprits.specs.Values.{values_fault}
use Rattle.data_culprits.specs.Witness.{IsBy}
use Rattle.data_culprits.proofs.Valueless.{values_none}
use Rattle.data_culprits.proofs.Witnessing.{sets_by}

-- ---- values are given as the rule's own machine gives them

then_stage : (o : Outcome) (f : Stage → Outcome) (g : Stage → Option Stage) → ((s : Stage) → stage_in (f s) ≡ g s) → stage_in (then_go o f) ≡ and_also (stage_in o) g
then_stage (went s) f g h = h s
then_stage (stopped k) f g h = refl

and_some : {A : Type 0} (o : Option A) → o ≡ and_also o (λ x. Some x)
and_some None = refl
and_some (Some x) = refl

module _ (types : Types) (n : List ℕ) where
  value_stage : (i : ℕ) (s : Stage) (o : Option Value) → stage_in (value_to types n i s o) ≡ give_value types n i s o
  value_stage i s None = refl
  value_stage i s (Some v) =
      by_tests (clash (types n) (value_type v)) (stops s.way (is_some (s.given n i)))
    where
      by_tests : (a b : Bool) → stage_in (if a then stopped (mistyped n v) else (if b then stopped (given_again n) else went (with_given n i v s))) ≡ (if a || b then None else Some (with_given n i v s))
      by_tests true b = refl
      by_tests false true = refl
      by_tests false false = refl

  next_stage : (i : ℕ) (s : Stage) → stage_in (next_to types n i s) ≡ give types n i s
  next_stage i s = value_stage i s (first_of s.values)

  each_stage : (is : List ℕ) (s : Stage) → stage_in (next_to_each types n is s) ≡ give_places types n is s
  each_stage [] s = refl
  each_stage (i ∷ is) s =
      then_stage (next_to types n i s) (next_to_each types n is) (give_places types n is) (λ t. each_stage is t)
      ∙ ap (λ o. and_also o (give_places types n is)) (next_stage i s)

  place_stage : (fault : Told) (o : Option ℕ) (s : Stage) → stage_in (to_place types n fault o s) ≡ and_also o (λ i. give types n i s)
  place_stage fault None s = refl
  place_stage fault (Some i) s = next_stage i s

module _ (r : Symbols) where
  name_stage : (n : List ℕ) (s : Stage) (o : Option (List Dimension)) (other : Bool) → r.names.arrays n ≡ o → stage_in (to_name r.names.types o other n s) ≡ filled r.names (whole_target o other n) s
  name_stage n s (Some ds) other is = each_stage r.names.types n (range_with_len 0 (size ds)) s ∙ sym (filled_whole r.names n ds s is)
  name_stage n s None true is =
      next_stage r.names.types n 0 s ∙ and_some (give r.names.types n 0 s) ∙ sym (filled_variable r.names n s is)
  name_stage n s None false is = refl

  element_stage : (known : Known) (n : List ℕ) (es : _) (s : Stage) (o : Option (List Dimension)) → r.names.arrays n ≡ o → stage_in (to_element r.names.types known o n es s) ≡ filled r.names (element_target r.names.types known o n es) s
  element_stage known n es s (Some ds) is =
      place_stage r.names.types n (subscripts_fault r.names.types known n ds es) (place_known r.names.types known ds es) s
      ∙ sym (by_subscripts r.names known n ds es s is (known_subscripts r.names.types known ds es))
  element_stage known n es s None is = refl

  item_stage : (known : Known) (e : ExprTree) (s : Stage) → stage_in (to_value r known e s) ≡ filled r.names (value_targets r known e) s
  item_stage known (name n) s = name_stage n s (r.names.arrays n) (is_other r n) refl
  item_stage known (element n es) s = element_stage known n es s (r.names.arrays n) refl
  item_stage known e s = refl

  module _ (f : ℤ → Stage → Outcome) (g : ℤ → Option (List Target)) (same : (i : ℤ) (s : Stage) → stage_in (f i s) ≡ filled r.names (g i) s) where
    trips_stage : (is : List ℤ) (s : Stage) → stage_in (each_trip f is s) ≡ filled r.names (all_lists (map g is)) s
    trips_stage [] s = refl
    trips_stage (i ∷ is) s =
        then_stage (f i s) (each_trip f is) (filled r.names (all_lists (map g is))) (λ t. trips_stage is t)
        ∙ ap (λ o. and_also o (filled r.names (all_lists (map g is)))) (same i s) ∙ sym (trips_first r.names g i is s)

    pub loop_stage : (known : Known) (n : List ℕ) (l : LimitsTree) (s : Stage) → stage_in (to_loop r known n l f s) ≡ filled r.names (if is_counter r n then and_also (known_trips r.names.types known l) (λ is. all_lists (map g is)) else None) s
    loop_stage known n l s = by_test (is_counter r n) (known_trips r.names.types known l)
      where
        by_test : (b : Bool) (o : Option (List ℤ)) → stage_in (if b then in_trips (limits_fault r.names.types known n l) f o s else stopped (no_counter n)) ≡ filled r.names (if b then and_also o (λ is. all_lists (map g is)) else None) s
        by_test true None = refl
        by_test true (Some is) = trips_stage is s
        by_test false o = refl

  items_stage : (xs : ListItemsTree) (known : Known) (s : Stage) → stage_in (to_items r xs known s) ≡ filled r.names (targets_in r xs known) s
  unfolding to_items targets_in
  items_stage no_items known s = refl
  items_stage (more_items (value_item e) xs) known s =
      then_stage (to_value r known e s) (to_items r xs known) (filled r.names (targets_in r xs known)) (λ t. items_stage xs known t)
      ∙ ap (λ o. and_also o (filled r.names (targets_in r xs known))) (item_stage known e s)
      ∙ sym (filled_both r.names (value_targets r known e) (targets_in r xs known) s)
  items_stage (more_items (loop_item ys variable limits) xs) known s =
      let f : ℤ → Stage → Outcome = λ i. to_items r ys (with_value variable i known) in
      let g : ℤ → Option (List Target) = λ i. targets_in r ys (with_value variable i known) in
      then_stage (to_loop r known variable limits f s) (to_items r xs known) (filled r.names (targets_in r xs known)) (λ t. items_stage xs known t)
      ∙ ap (λ o. and_also o (filled r.names (targets_in r xs known))) (loop_stage f g (λ i t. items_stage ys (with_value variable i known) t) known variable limits s)
      ∙ sym (filled_both r.names (if is_counter r variable then and_also (known_trips r.names.types known limits) (λ is. all_lists (map g is)) else None) (targets_in r xs known) s)

  ended_stage : (s : Stage) → stage_in (ended s) ≡ if_used_up s
  ended_stage s = by_test (is_empty_list s.values)
    where
      by_test : (b : Bool) → stage_in (if b then went (with_values [] s) else stopped left_over) ≡ (if b then Some (with_values [] s) else None)
      by_test true = refl
      by_test false = refl

  list_stage : (known : Known) (xs : ListItemsTree) (s : Stage) → stage_in (to_list r known xs s) ≡ fill_list r known xs s
  list_stage known xs s =
      then_stage (to_items r xs known s) ended if_used_up ended_stage ∙ ap (λ o. and_also o if_used_up) (items_stage xs known s)

-- ---- sets and statements

module _ (r : Symbols) where
  module _ (known : Known) where
    set_stage : (x : DataSetTree) (s : Stage) → stage_in (to_set r known x s) ≡ fill_set r known x s
    set_stage x s = by_fault (values_fault known x.values) refl
      where
        by_fault : (o : Option Told) → values_fault known x.values ≡ o → stage_in (unless_bad o (to_list r known x.list (with_values (values_of known x.values) s))) ≡ fill_set r known x s
        by_fault None at = list_stage r known x.list (with_values (values_of known x.values) s)
        by_fault (Some k) at =
            sym (set_filled r known x s.way s.given
            ∙ ap (λ o. and_also (and_also (targets_in r x.list known) (λ ts. and_also o (λ vs. paired r ts vs))) (λ ss. accept r.names ss s.way s.given)) (values_none known x.values k at)
            ∙ none_behind (targets_in r x.list known))
          where
            none_behind : (o : Option (List Target)) → and_also (and_also o (λ ts. None)) (λ ss. accept r.names ss s.way s.given) ≡ None
            none_behind None = refl
            none_behind (Some ts) = refl

    sets_stage : (xs : List DataSetTree) (s : Stage) → stage_in (to_sets r known xs s) ≡ fill_sets r known xs s
    sets_stage [] s = refl
    sets_stage (x ∷ xs) s =
        then_stage (to_set r known x s) (to_sets r known xs) (fill_sets r known xs) (λ t. sets_stage xs t)
        ∙ ap (λ o. and_also o (fill_sets r known xs)) (set_stage x s)

  -- what was given is kept so
  pub behind_filled : (before : List ItemTree) (s : Stage) → IsFilledBy r before s → s ≡ stage_behind r before
  behind_filled before s h =
      ap (λ g. stage_of_way s.way g s.values) h.given
      ∙ ap₂ (λ w os. stage_of_way w (given_by r.names (starts_from r [] before)) os) h.way h.values

pub data_told : (r : Symbols) (before : List ItemTree) (x : ItemTree) → IsAnswer (IsBy r before x) (has_bad_data r before x) (bad_in r before x)
data_told r before x = by_outcome (here (stage_behind r before)) refl
  where
    here : Stage → Outcome
    here t = to_sets r (known_behind_all r before) (sets_at r before x) t

    filled_there : IsFilledBy r before (stage_behind r before)
    filled_there = filled_behind r before

    by_outcome : (o : Outcome) → here (stage_behind r before) ≡ o → IsAnswer (IsBy r before x) (has_bad_data r before x) (told_in o)
    by_outcome (went u) at =
        (good_data r before x (stage_behind r before) filled_there u (sym (sym (sets_stage r (known_behind_all r before) (sets_at r before x) (stage_behind r before)) ∙ ap stage_in at))).0
    by_outcome (stopped k) at =
        (bad_data r before x (stage_behind r before) filled_there (sym (sym (sets_stage r (known_behind_all r before) (sets_at r before x) (stage_behind r before)) ∙ ap stage_in at)), sets_by r (known_behind_all r before) (sets_at r before x) (stage_behind r before) k at)

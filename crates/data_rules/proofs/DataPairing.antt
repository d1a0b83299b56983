-- The targets of a set have places, and its values are given to them one after another.
use Rattle.std.proofs.Common.{◌≡◌, ℕ, suc, ◌+◌, ◌*◌, ℤ, Bool, true, false, ◌||◌, List, [], ◌∷◌, ◌++◌, map, Option, Some, None, refl, sym, ap, ap₂, ◌∙◌}
use Rattle.std.specs.Prelude.{if◌then◌else◌, is_some, is_none, unwrap_or}
use Rattle.std.specs.List.{list_any}
use Rattle.std.proofs.lemmas.List.{map-append}
use Rattle.std.proofs.lemmas.List.Folds.{list_any-append}
use Rattle.meaning.specs.declared.ending.Value.{Value}
use Rattle.meaning.specs.Arrays.{Dimension, above, combined, elements, extent, place}
use Rattle.meaning.specs.Syntax.{ExprTree, name, element, ExprsTree, no_exprs, exprs, ListItemsTree, no_items, more_items, value_item, loop_item, DataSetTree, DataValueTree}
use Rattle.meaning.specs.Types.{Types}
use Rattle.meaning.specs.Typing.{Names, clash}
use Rattle.meaning.specs.Uses.{Symbols, is_other}
use Rattle.meaning.specs.Values.{Known, dimensions_in}
use Rattle.meaning.specs.Initial.{Start, Target, all_lists, and_also, both_lists, data_values, element_target, is_counter, known_subscripts, known_trips, known_value, paired, repeated, set_starts, subscript_in, target, targets_in, value_targets, value_type, whole_target, with_value}
use Rattle.expressions.proofs.Ordered.{AreNumbered, elements-numbered}
use Rattle.data_rules.specs.DataRuns.{or_one_none, values_of}
use Rattle.data_rules.specs.DataSets.{HasPlace, fill_set, fill_sets, if_used_up, place_at, place_of}
use Rattle.data_rules.specs.declared.filling.Way.{Way}
use Rattle.data_rules.specs.declared.filling.Way.TheVariants as ways
use Rattle.data_rules.specs.DataStages.{Found, Stage, filled, found_by, give, give_all, stops, way_behind, with_given}

-- ---- a fact of each of a list

module _ {X : Type 0} (P : X → Type 0) where
  abbrev pub Each : List X → Type 0
  Each [] = Unit {0}
  Each (x ∷ xs) = P x × Each xs

  abbrev pub IfEach : Option (List X) → Type 0
  IfEach None = Unit {0}
  IfEach (Some xs) = Each xs

  pub each_append : (xs ys : List X) → Each xs → Each ys → Each (xs ++ ys)
  each_append [] ys h k = k
  each_append (x ∷ xs) ys h k = (h.0, each_append xs ys h.1 k)

  pub both_each : (o p : Option (List X)) → IfEach o → IfEach p → IfEach (both_lists o p)
  both_each None p h k = tt
  both_each (Some xs) None h k = tt
  both_each (Some xs) (Some ys) h k = each_append xs ys h k

  pub all_each : {A : Type 0} (f : A → Option (List X)) → ((a : A) → IfEach (f a)) → (zs : List A) → IfEach (all_lists (map f zs))
  all_each f h [] = tt
  all_each f h (a ∷ zs) = both_each (f a) (all_lists (map f zs)) (h a) (all_each f h zs)

-- ---- places

module _ (ns : Names) where
  numbered_places : (n : List ℕ) (ds : List Dimension) → ns.arrays n ≡ Some ds → (sss : List (List ℤ)) (i : ℕ) → AreNumbered (place ds) i sss → Each (HasPlace ns) (map (target n) sss)
  numbered_places n ds is [] i h = tt
  numbered_places n ds is (ss ∷ sss) i h =
      ((i, ap (λ a. place (dimensions_in a) ss) is ∙ h.0), numbered_places n ds is sss (suc i) h.1)

  whole_places : (n : List ℕ) (o : Option (List Dimension)) (other : Bool) → ns.arrays n ≡ o → IfEach (HasPlace ns) (whole_target o other n)
  whole_places n (Some ds) other is = numbered_places n ds is (elements ds) 0 (elements-numbered ds)
  whole_places n None true is = ((0, ap (λ a. place (dimensions_in a) []) is), tt)
  whole_places n None false is = tt

-- subscripts that are known lead to a place
abbrev Leads : List Dimension → Option (List ℤ) → Type 0
Leads ds None = Unit {0}
Leads ds (Some ss) = (i : ℕ) × (place ds ss ≡ Some i)

module _ (types : Types) (known : Known) where
  lead : (ds : List Dimension) (es : ExprsTree) → Leads ds (known_subscripts types known ds es)
  lead [] no_exprs = (0, refl)
  lead [] (exprs e es) = tt
  lead (d ∷ ds) no_exprs = tt
  lead (d ∷ ds) (exprs e es) = by_first (lead ds es) (known_value types known e)
    where
      by_rest : (s : ℤ) (k : ℕ) → above d s ≡ Some k → (o : Option (List ℤ)) → Leads ds o → Leads (d ∷ ds) (and_also o (λ ss. Some (s ∷ ss)))
      by_rest s k at None h = tt
      by_rest s k at (Some ss) h = (k + extent d * h.0, ap₂ (combined (extent d)) at h.1)

      by_above : (s : ℤ) (o : Option ℕ) → above d s ≡ o → Leads ds (known_subscripts types known ds es) → Leads (d ∷ ds) (and_also (if is_some o then Some s else None) (λ t. and_also (known_subscripts types known ds es) (λ ss. Some (t ∷ ss))))
      by_above s None at h = tt
      by_above s (Some k) at h = by_rest s k at (known_subscripts types known ds es) h

      by_first : Leads ds (known_subscripts types known ds es) → (o : Option ℤ) → Leads (d ∷ ds) (and_also (subscript_in d o) (λ t. and_also (known_subscripts types known ds es) (λ ss. Some (t ∷ ss))))
      by_first h None = tt
      by_first h (Some s) = by_above s (above d s) refl h

  element_places : (ns : Names) (n : List ℕ) (o : Option (List Dimension)) (es : ExprsTree) → ns.arrays n ≡ o → IfEach (HasPlace ns) (element_target types known o n es)
  element_places ns n None es is = tt
  element_places ns n (Some ds) es is = by_lead (known_subscripts types known ds es) (lead ds es)
    where
      by_lead : (o : Option (List ℤ)) → Leads ds o → IfEach (HasPlace ns) (and_also o (λ ss. Some (target n ss ∷ [])))
      by_lead None h = tt
      by_lead (Some ss) h = ((h.0, ap (λ a. place (dimensions_in a) ss) is ∙ h.1), tt)

module _ (r : Symbols) where
  value_places : (known : Known) (e : ExprTree) → IfEach (HasPlace r.names) (value_targets r known e)
  value_places known (name n) = whole_places r.names n (r.names.arrays n) (is_other r n) refl
  value_places known (element n es) = element_places r.names.types known r.names n (r.names.arrays n) es refl
  value_places known e = tt

  loop_places : (ys : ListItemsTree) (variable : List ℕ) (known : Known) → ((k : Known) → IfEach (HasPlace r.names) (targets_in r ys k)) → (b : Bool) (o : Option (List ℤ)) → IfEach (HasPlace r.names) (if b then and_also o (λ is. all_lists (map (λ i. targets_in r ys (with_value variable i known)) is)) else None)
  loop_places ys variable known h false o = tt
  loop_places ys variable known h true None = tt
  loop_places ys variable known h true (Some is) =
      all_each (HasPlace r.names) (λ i. targets_in r ys (with_value variable i known)) (λ i. h (with_value variable i known)) is

  pub items_places : (xs : ListItemsTree) (known : Known) → IfEach (HasPlace r.names) (targets_in r xs known)
  unfolding targets_in
  items_places no_items known = tt
  items_places (more_items (value_item e) xs) known =
      both_each (HasPlace r.names) (value_targets r known e) (targets_in r xs known) (value_places known e) (items_places xs known)
  items_places (more_items (loop_item ys variable limits) xs) known =
      both_each (HasPlace r.names) (if is_counter r variable then and_also (known_trips r.names.types known limits) (λ is. all_lists (map (λ i. targets_in r ys (with_value variable i known)) is)) else None) (targets_in r xs known)
      (loop_places ys variable known (λ k. items_places ys k) (is_counter r variable) (known_trips r.names.types known limits)) (items_places xs known)

-- ---- values

-- values, one of which is none where they aren't known
abbrev Mirrors : Option (List Value) → List (Option Value) → Type 0
Mirrors None os = list_any is_none os ≡ true
Mirrors (Some vs) os = os ≡ map Some vs

or_true : (b : Bool) → (b || true) ≡ true
or_true true = refl
or_true false = refl

both_mirror : (o p : Option (List Value)) (os : List (Option Value)) → Mirrors p os → Mirrors (both_lists o p) (or_one_none o ++ os)
both_mirror None p os h = refl
both_mirror (Some vs) None os h =
    list_any-append is_none (map Some vs) os ∙ ap (λ b. list_any is_none (map Some vs) || b) h ∙ or_true (list_any is_none (map Some vs))
both_mirror (Some vs) (Some ws) os h = ap (λ zs. map Some vs ++ zs) h ∙ sym (map-append Some vs ws)

mirror : (known : Known) (xs : List DataValueTree) → Mirrors (all_lists (map (repeated known) xs)) (values_of known xs)
mirror known [] = refl
mirror known (x ∷ xs) = both_mirror (repeated known x) (all_lists (map (repeated known) xs)) (values_of known xs) (mirror known xs)

-- ---- one value after another

abbrev pub stage_in : Way → Found → List (Option Value) → Stage
stage_in w g os = record { given = g; values = os; way = w }

abbrev pub stage : Found → List (Option Value) → Stage
stage g os = stage_in ways.Once g os

-- starts that are given one after another
abbrev pub accept : Names → List Start → Way → Found → Option Stage
accept ns [] w g = Some (stage_in w g [])
accept ns (s ∷ ss) w g =
    if stops w (is_some (g s.target.name (place_of ns s))) then None
    else accept ns ss (way_behind w (is_some (g s.target.name (place_of ns s)))) (found_by w s.target.name (place_of ns s) s.value g)

module _ (ns : Names) where
  none_left : (ts : List Target) (w : Way) (g : Found) (os : List (Option Value)) → list_any is_none os ≡ true → and_also (give_all ns ts (stage_in w g os)) if_used_up ≡ None
  none_left [] w g [] h = absurd cc
  none_left [] w g (o ∷ os) h = refl
  none_left (t ∷ ts) w g [] h = absurd cc
  none_left (t ∷ ts) w g (None ∷ os) h = by_place (place_at ns t)
    where
      by_place : (o : Option ℕ) → and_also (and_also (and_also o (λ i. give ns.types t.name i (stage_in w g (None ∷ os)))) (give_all ns ts)) if_used_up ≡ None
      by_place None = refl
      by_place (Some i) = refl
  none_left (t ∷ ts) w g (Some v ∷ os) h =
      by_place (λ i. none_left ts (way_behind w (is_some (g t.name i))) (found_by w t.name i v g) os h) (place_at ns t)
    where
      by_test : (i : ℕ) → and_also (give_all ns ts (with_given t.name i v (stage_in w g (Some v ∷ os)))) if_used_up ≡ None → (b : Bool) → and_also (and_also (if b then None else Some (with_given t.name i v (stage_in w g (Some v ∷ os)))) (give_all ns ts)) if_used_up ≡ None
      by_test i rest true = refl
      by_test i rest false = rest

      by_place : ((i : ℕ) → and_also (give_all ns ts (with_given t.name i v (stage_in w g (Some v ∷ os)))) if_used_up ≡ None) → (o : Option ℕ) → and_also (and_also (and_also o (λ i. give ns.types t.name i (stage_in w g (Some v ∷ os)))) (give_all ns ts)) if_used_up ≡ None
      by_place rest None = refl
      by_place rest (Some i) =
          by_test i (rest i) (clash (ns.types t.name) (value_type v) || stops w (is_some (g t.name i)))

-- one target and its value, before others
module _ (r : Symbols) (t : Target) (v : Value) (ts : List Target) (vs : List Value) (w : Way) (g : Found) where
  abbrev first : Start
  first = record { target = t; value = v }

  abbrev at_first : ℕ
  at_first = unwrap_or (place_at r.names t) 0

  abbrev has_one : Bool
  has_one = is_some (g t.name at_first)

  abbrev front : Stage
  front = stage_in w g (Some v ∷ map Some vs)

  abbrev fill_rest : Option Stage → Option Stage
  fill_rest o = and_also (and_also o (give_all r.names ts)) if_used_up

  abbrev accept_rest : List Start → Option Stage
  accept_rest ss = accept r.names ss (way_behind w has_one) (found_by w t.name at_first v g)

  abbrev if_first : Bool → Option (List Start) → Option Stage
  if_first b None = None
  if_first b (Some ss) = if b then None else accept_rest ss

  accept_first : (o : Option (List Start)) → and_also (both_lists (Some (first ∷ [])) o) (λ ss. accept r.names ss w g) ≡ if_first (stops w has_one) o
  accept_first None = refl
  accept_first (Some ss) = refl

  by_mark : (b : Bool) (o : Option (List Start)) → fill_rest (Some (with_given t.name at_first v front)) ≡ and_also o accept_rest → fill_rest (if b then None else Some (with_given t.name at_first v front)) ≡ if_first b o
  by_mark true None rest = refl
  by_mark true (Some ss) rest = refl
  by_mark false None rest = rest
  by_mark false (Some ss) rest = rest

  by_clash : (a : Bool) → fill_rest (Some (with_given t.name at_first v front)) ≡ and_also (paired r ts vs) accept_rest → fill_rest (if a || stops w has_one then None else Some (with_given t.name at_first v front)) ≡ and_also (if a then None else both_lists (Some (first ∷ [])) (paired r ts vs)) (λ ss. accept r.names ss w g)
  by_clash true rest = refl
  by_clash false rest =
      by_mark (stops w has_one) (paired r ts vs) rest ∙ sym (accept_first (paired r ts vs))

  pub pair_more : HasPlace r.names t → fill_rest (Some (with_given t.name at_first v front)) ≡ and_also (paired r ts vs) accept_rest → fill_rest (and_also (place_at r.names t) (λ i. give r.names.types t.name i front)) ≡ and_also (paired r (t ∷ ts) (v ∷ vs)) (λ ss. accept r.names ss w g)
  pair_more at rest =
      ap (λ o. fill_rest (and_also o (λ i. give r.names.types t.name i front))) (at.1 ∙ ap Some (sym (ap (λ o. unwrap_or o 0) at.1)))
      ∙ by_clash (clash (r.names.types t.name) (value_type v)) rest

module _ (r : Symbols) where
  pub paired_given : (ts : List Target) (vs : List Value) (w : Way) (g : Found) → Each (HasPlace r.names) ts → and_also (give_all r.names ts (stage_in w g (map Some vs))) if_used_up ≡ and_also (paired r ts vs) (λ ss. accept r.names ss w g)
  paired_given [] [] w g h = refl
  paired_given [] (v ∷ vs) w g h = refl
  paired_given (t ∷ ts) [] w g h =
      ap (λ o. and_also (and_also (and_also o (λ i. give r.names.types t.name i (stage_in w g []))) (give_all r.names ts)) if_used_up) h.0.1
  paired_given (t ∷ ts) (v ∷ vs) w g h =
      let i = unwrap_or (place_at r.names t) 0 in
      pair_more r t v ts vs w g h.0
      (paired_given ts vs (way_behind w (is_some (g t.name i))) (found_by w t.name i v g) h.1)

  -- ---- sets

  pub set_filled : (known : Known) (x : DataSetTree) (w : Way) (g : Found) → fill_set r known x (stage_in w g []) ≡ and_also (set_starts r known x) (λ ss. accept r.names ss w g)
  set_filled known x w g =
      by_targets (targets_in r x.list known) (items_places r x.list known) (data_values known x.values) (values_of known x.values) (mirror known x.values)
    where
      by_targets : (o : Option (List Target)) → IfEach (HasPlace r.names) o → (p : Option (List Value)) (os : List (Option Value)) → Mirrors p os → and_also (filled r.names o (stage_in w g os)) if_used_up ≡ and_also (and_also o (λ ts. and_also p (λ vs. paired r ts vs))) (λ ss. accept r.names ss w g)
      by_targets None h p os is = refl
      by_targets (Some ts) h None os is = none_left r.names ts w g os is
      by_targets (Some ts) h (Some vs) os is =
          ap (λ zs. and_also (give_all r.names ts (stage_in w g zs)) if_used_up) is ∙ paired_given ts vs w g h

  then_none : (fill : Stage → Option Stage) (ss : List Start) (w : Way) (g : Found) → ((v : Way) (h : Found) → fill (stage_in v h []) ≡ None) → and_also (accept r.names ss w g) fill ≡ None
  then_none fill [] w g none = none w g
  then_none fill (s ∷ ss) w g none =
      let b = is_some (g s.target.name (place_of r.names s)) in
      let behind = found_by w s.target.name (place_of r.names s) s.value g in
      by_test (stops w b) (accept r.names ss (way_behind w b) behind) (then_none fill ss (way_behind w b) behind none)
    where
      by_test : (b : Bool) (o : Option Stage) → and_also o fill ≡ None → and_also (if b then None else o) fill ≡ None
      by_test true o rest = refl
      by_test false o rest = rest

  then_more : (fill : Stage → Option Stage) (ss ts : List Start) (w : Way) (g : Found) → ((v : Way) (h : Found) → fill (stage_in v h []) ≡ accept r.names ts v h) → and_also (accept r.names ss w g) fill ≡ accept r.names (ss ++ ts) w g
  then_more fill [] ts w g more = more w g
  then_more fill (s ∷ ss) ts w g more =
      let b = is_some (g s.target.name (place_of r.names s)) in
      let behind = found_by w s.target.name (place_of r.names s) s.value g in
      by_test (stops w b) (accept r.names ss (way_behind w b) behind) (accept r.names (ss ++ ts) (way_behind w b) behind) (then_more fill ss ts (way_behind w b) behind more)
    where
      by_test : (b : Bool) (o p : Option Stage) → and_also o fill ≡ p → and_also (if b then None else o) fill ≡ (if b then None else p)
      by_test true o p rest = refl
      by_test false o p rest = rest

  pub sets_filled : (known : Known) (xs : List DataSetTree) (w : Way) (g : Found) → fill_sets r known xs (stage_in w g []) ≡ and_also (all_lists (map (set_starts r known) xs)) (λ ss. accept r.names ss w g)
  sets_filled known [] w g = refl
  sets_filled known (x ∷ xs) w g =
      ap (λ o. and_also o (fill_sets r known xs)) (set_filled known x w g)
      ∙ by_starts (set_starts r known x) (all_lists (map (set_starts r known) xs)) (λ v h. sets_filled known xs v h)
    where
      by_starts : (o p : Option (List Start)) → ((v : Way) (h : Found) → fill_sets r known xs (stage_in v h []) ≡ and_also p (λ ss. accept r.names ss v h)) → and_also (and_also o (λ ss. accept r.names ss w g)) (fill_sets r known xs) ≡ and_also (both_lists o p) (λ ss. accept r.names ss w g)
      by_starts None p rest = refl
      by_starts (Some ss) None rest = then_none (fill_sets r known xs) ss w g rest
      by_starts (Some ss) (Some ts) rest = then_more (fill_sets r known xs) ss ts w g rest

  -- ---- starts have places

  paired_placed : (ts : List Target) (vs : List Value) → Each (HasPlace r.names) ts → IfEach (λ s. HasPlace r.names s.target) (paired r ts vs)
  paired_placed [] [] h = tt
  paired_placed [] (v ∷ vs) h = tt
  paired_placed (t ∷ ts) [] h = tt
  paired_placed (t ∷ ts) (v ∷ vs) h = by_test (clash (r.names.types t.name) (value_type v)) (paired_placed ts vs h.1)
    where
      by_test : (b : Bool) → IfEach (λ s. HasPlace r.names s.target) (paired r ts vs) → IfEach (λ s. HasPlace r.names s.target) (if b then None else both_lists (Some (record { target = t; value = v } ∷ [])) (paired r ts vs))
      by_test true rest = tt
      by_test false rest =
          both_each (λ s. HasPlace r.names s.target) (Some (record { target = t; value = v } ∷ [])) (paired r ts vs) (h.0, tt) rest

  set_placed : (known : Known) (x : DataSetTree) → IfEach (λ s. HasPlace r.names s.target) (set_starts r known x)
  set_placed known x = by_targets (targets_in r x.list known) (items_places r x.list known) (data_values known x.values)
    where
      by_targets : (o : Option (List Target)) → IfEach (HasPlace r.names) o → (p : Option (List Value)) → IfEach (λ s. HasPlace r.names s.target) (and_also o (λ ts. and_also p (λ vs. paired r ts vs)))
      by_targets None h p = tt
      by_targets (Some ts) h None = tt
      by_targets (Some ts) h (Some vs) = paired_placed ts vs h

  pub sets_placed : (known : Known) (xs : List DataSetTree) → IfEach (λ s. HasPlace r.names s.target) (all_lists (map (set_starts r known) xs))
  sets_placed known xs = all_each (λ s. HasPlace r.names s.target) (set_starts r known) (set_placed known) xs

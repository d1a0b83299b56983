-- The names that DATA statements give values are variables' and arrays'.
use Rattle.std.proofs.Common.{◌≡◌, ℕ, Bool, true, false, List, [], ◌∷◌, ◌++◌, map, Option, Some, None, refl, sym, ap, subst, ◌∙◌}
use Rattle.std.specs.Prelude.{ℤ, flat_map, if◌then◌else◌, is_some}
use Rattle.std.specs.List.{AllByRecursion, list_any}
use Rattle.std.specs.Str.{bytes_eq}
use Rattle.std.proofs.lemmas.Bool.{true≢false}
use Rattle.meaning.specs.declared.ending.Value.{Value}
use Rattle.meaning.specs.Arrays.{Dimension, elements}
use Rattle.meaning.specs.Initial.{Start, Target, all_lists, and_also, both_lists, data_values, element_target, is_counter, known_subscripts, known_trips, lacks_value, paired, set_starts, set_uses, sets_of, starts_at, starts_from, starts_or_none, target, targets_in, value_targets, value_type, whole_target, with_value}
use Rattle.meaning.specs.NumberRules.{known_behind_all, sizeless_in}
use Rattle.meaning.specs.Scopes.{arrays_of}
use Rattle.meaning.specs.Syntax.{ExprTree, name, element, ItemTree, ListItemsTree, no_items, more_items, value_item, loop_item, DataSetTree, ShapeTree, initializing}
use Rattle.meaning.specs.Typing.{clash}
use Rattle.meaning.specs.Uses.{Symbols, Use, is_defining, parts_of, data_item_sets, given_uses, is_array, is_other, parts_at, symbols_of}
use Rattle.meaning.specs.Values.{Known}
use Rattle.storage.specs.Numbered.{variables_of}
use Rattle.rule_laws.specs.Lawful.{EachBehind, IsLawful}
use Rattle.rule_laws.proofs.Cells.{array_appears, variable_appears}
use Rattle.rule_laws.proofs.Loops.{IsAmong, in_back, in_front, is_first}
use Rattle.rule_laws.proofs.Ready.{AreNamed, each_named, used_named}
use Rattle.rule_laws.proofs.Sizes.{arrays_sized}
use Rattle.rule_laws.proofs.Tests.{all_both}

-- ---- lists that may be missing

abbrev IfThere : {A : Type 0} → (A → Type 0) → Option (List A) → Type 0
IfThere P None = Unit {0}
IfThere P (Some xs) = AllByRecursion P xs

both_there : {A : Type 0} (P : A → Type 0) (o p : Option (List A)) → IfThere P o → IfThere P p → IfThere P (both_lists o p)
both_there P (Some xs) (Some ys) h k = all_both P xs ys h k
both_there P (Some xs) None h k = tt
both_there P None p h k = tt

all_there : {A B : Type 0} (P : A → Type 0) (f : B → Option (List A)) (xs : List B) → ((x : B) → IfThere P (f x)) → IfThere P (all_lists (map f xs))
all_there P f [] h = tt
all_there P f (x ∷ xs) h = both_there P (f x) (all_lists (map f xs)) (h x) (all_there P f xs h)

also_there : {A B : Type 0} (P : A → Type 0) (o : Option B) (f : B → Option (List A)) → ((x : B) → o ≡ Some x → IfThere P (f x)) → IfThere P (and_also o f)
also_there P None f h = tt
also_there P (Some x) f h = h x refl

module _ (r : Symbols) (good : List ℕ → Type 0) (arrays_good : (n : List ℕ) → is_array r n ≡ true → good n) where
  abbrev IsGood : Target → Type 0
  IsGood t = good t.name

  abbrev Gives : Start → Type 0
  Gives s = good s.target.name

  -- variables that the list sets
  abbrev SetsGood : List Use → Type 0
  SetsGood us = (n : List ℕ) → IsAmong us n → is_other r n ≡ true → good n

  elements_good : (n : List ℕ) → good n → (sss : List (List ℤ)) → AllByRecursion IsGood (map (target n) sss)
  elements_good n h [] = tt
  elements_good n h (ss ∷ sss) = (h, elements_good n h sss)

  whole_good : (n : List ℕ) (o : Option (List Dimension)) (other : Bool) → (is_some o ≡ true → good n) → (is_some o ≡ false → other ≡ true → good n) → IfThere IsGood (whole_target o other n)
  whole_good n (Some ds) other array variable = elements_good n (array refl) (elements ds)
  whole_good n None true array variable = (variable refl refl, tt)
  whole_good n None false array variable = tt

  named_item : (n : List ℕ) (b : Bool) → is_array r n ≡ b → SetsGood (given_uses r (name n)) → b ≡ false → is_other r n ≡ true → good n
  named_item n true is sets none other = absurd (true≢false none)
  named_item n false is sets none other =
      sets n (subst (λ (b : Bool). IsAmong (if b then [] else record { name = n; arguments = None } ∷ []) n) (sym is) (is_first n [])) other

  item_good : (known : Known) (e : ExprTree) → SetsGood (given_uses r e) → IfThere IsGood (value_targets r known e)
  item_good known (name n) sets =
      whole_good n (r.names.arrays n) (is_other r n) (arrays_good n) (λ none other. named_item n (is_array r n) refl sets none other)
  item_good known (element n es) sets = by (r.names.arrays n) refl
    where
      by : (o : Option (List Dimension)) → r.names.arrays n ≡ o → IfThere IsGood (element_target r.names.types known o n es)
      by None is = tt
      by (Some ds) is =
          also_there IsGood (known_subscripts r.names.types known ds es) (λ ss. Some (target n ss ∷ [])) (λ ss there. (arrays_good n (ap is_some is), tt))
  item_good known e sets = tt

  targets_good : (list : ListItemsTree) (known : Known) → SetsGood (data_item_sets r list) → IfThere IsGood (targets_in r list known)
  unfolding targets_in
  targets_good no_items known sets = tt
  targets_good (more_items (value_item e) xs) known sets =
      both_there IsGood (value_targets r known e) (targets_in r xs known) (item_good known e (λ n h other. sets n (in_front (given_uses r e) (data_item_sets r xs) n h) other))
      (targets_good xs known (λ n h other. sets n (in_back (given_uses r e) (data_item_sets r xs) n h) other))
  targets_good (more_items (loop_item ys variable limits) xs) known sets =
      both_there IsGood (if is_counter r variable then and_also (known_trips r.names.types known limits) (λ is. all_lists (map (λ i. targets_in r ys (with_value variable i known)) is)) else None) (targets_in r xs known)
      (counted (is_counter r variable) (λ i. targets_good ys (with_value variable i known) (λ n h other. sets n (in_front (data_item_sets r ys) (data_item_sets r xs) n h) other)))
      (targets_good xs known (λ n h other. sets n (in_back (data_item_sets r ys) (data_item_sets r xs) n h) other))
    where
      counted : (b : Bool) → ((i : ℤ) → IfThere IsGood (targets_in r ys (with_value variable i known))) → IfThere IsGood (if b then and_also (known_trips r.names.types known limits) (λ is. all_lists (map (λ i. targets_in r ys (with_value variable i known)) is)) else None)
      counted true each =
          also_there IsGood (known_trips r.names.types known limits) (λ is. all_lists (map (λ i. targets_in r ys (with_value variable i known)) is)) (λ is there. all_there IsGood (λ i. targets_in r ys (with_value variable i known)) is each)
      counted false each = tt

  paired_good : (ts : List Target) (vs : List Value) → AllByRecursion IsGood ts → IfThere Gives (paired r ts vs)
  paired_good [] [] h = tt
  paired_good [] (v ∷ vs) h = tt
  paired_good (t ∷ ts) [] h = tt
  paired_good (t ∷ ts) (v ∷ vs) h = by (clash (r.names.types t.name) (value_type v)) (paired_good ts vs h.1)
    where
      by : (b : Bool) → IfThere Gives (paired r ts vs) → IfThere Gives (if b then None else both_lists (Some (record { target = t; value = v } ∷ [])) (paired r ts vs))
      by true rest = tt
      by false rest = both_there Gives (Some (record { target = t; value = v } ∷ [])) (paired r ts vs) (h.0, tt) rest

  set_good : (known : Known) (s : DataSetTree) → SetsGood (data_item_sets r s.list) → IfThere Gives (set_starts r known s)
  set_good known s sets =
      also_there Gives (targets_in r s.list known) (λ ts. and_also (data_values known s.values) (λ vs. paired r ts vs)) (λ ts there.
      also_there Gives (data_values known s.values) (λ vs. paired r ts vs) (λ vs given. paired_good ts vs (subst (IfThere IsGood) there (targets_good s.list known sets))))

  sets_good : (known : Known) (ss : List DataSetTree) → SetsGood (flat_map (λ s. data_item_sets r s.list) ss) → IfThere Gives (all_lists (map (set_starts r known) ss))
  sets_good known [] sets = tt
  sets_good known (s ∷ ss) sets =
      both_there Gives (set_starts r known s) (all_lists (map (set_starts r known) ss)) (set_good known s (λ n h other. sets n (in_front (data_item_sets r s.list) (flat_map (λ x. data_item_sets r x.list) ss) n h) other))
      (sets_good known ss (λ n h other. sets n (in_back (data_item_sets r s.list) (flat_map (λ x. data_item_sets r x.list) ss) n h) other))

  statement_good : (before : List ItemTree) (x : ItemTree) → SetsGood (parts_at r before x).sets → IfThere Gives (starts_at r before x)
  statement_good before x sets =
      either (list_any (lacks_value r (known_behind_all r before) (sizeless_in r [] before)) (flat_map set_uses (sets_of x.shape))) (by x.shape sets)
    where
      by : (s : ShapeTree) → SetsGood (parts_of r (is_defining r before x) s).sets → IfThere Gives (all_lists (map (set_starts r (known_behind_all r before)) (sets_of s)))
      by (initializing ss) k = sets_good (known_behind_all r before) ss k
      by s k = tt

      either : (b : Bool) → IfThere Gives (all_lists (map (set_starts r (known_behind_all r before)) (sets_of x.shape))) → IfThere Gives (all_lists (map (set_starts r (known_behind_all r before)) (if b then [] else sets_of x.shape)))
      either true k = tt
      either false k = k

  starts_good : (before xs : List ItemTree) → EachBehind (λ b x. SetsGood (parts_at r b x).sets) before xs → AllByRecursion Gives (starts_from r before xs)
  unfolding starts_from
  starts_good before [] h = tt
  starts_good before (x ∷ xs) h =
      all_both Gives (starts_or_none (starts_at r before x)) (starts_from r (before ++ x ∷ []) xs) (by (starts_at r before x) (statement_good before x h.0)) (starts_good (before ++ x ∷ []) xs h.1)
    where
      by : (o : Option (List Start)) → IfThere Gives o → AllByRecursion Gives (starts_or_none o)
      by None k = tt
      by (Some ss) k = k

-- ---- in a program unit that keeps the rules

pub starts_are_named : (all : List ItemTree) → EachBehind (IsLawful (symbols_of all) all) [] all → AllByRecursion (λ s. list_any (bytes_eq s.target.name) (variables_of all) ≡ true) (starts_from (symbols_of all) [] all)
starts_are_named all lawful =
    let r = symbols_of all in
    let good : List ℕ → Type 0 = λ n. list_any (bytes_eq n) (variables_of all) ≡ true in
    let holds : List ℕ → Type 0 = λ n. is_other r n ≡ true → good n in
    starts_good r good array [] all (each [] all (each_named holds r [] all (λ n there other. variable_appears all n other there)))
  where
    array : (n : List ℕ) → is_array (symbols_of all) n ≡ true → list_any (bytes_eq n) (variables_of all) ≡ true
    array n is = by (arrays_of all n) refl
      where
        by : (o : Option (List Dimension)) → arrays_of all n ≡ o → list_any (bytes_eq n) (variables_of all) ≡ true
        by None none = absurd (true≢false (sym is ∙ ap is_some none))
        by (Some dims) some = array_appears all n is (arrays_sized all lawful n dims some).named

    each : (before xs : List ItemTree) → EachBehind (AreNamed (λ n. is_other (symbols_of all) n ≡ true → list_any (bytes_eq n) (variables_of all) ≡ true) (symbols_of all)) before xs
        → EachBehind (λ b x. (n : List ℕ) → IsAmong (parts_at (symbols_of all) b x).sets n → is_other (symbols_of all) n ≡ true → list_any (bytes_eq n) (variables_of all) ≡ true) before xs
    each before [] h = tt
    each before (x ∷ xs) h =
        let p = parts_at (symbols_of all) before x in
        ((λ n among. used_named (λ m. is_other (symbols_of all) m ≡ true → list_any (bytes_eq m) (variables_of all) ≡ true) (symbols_of all) before x h.0 n (in_front p.sets p.reads n among)), each (before ++ x ∷ []) xs h.1)

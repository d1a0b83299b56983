-- What is told of the variable of a loop is a witness.
use Rattle.std.proofs.Common.{◌≡◌, ℕ, Bool, true, false, ◌||◌, List, [], ◌∷◌, ◌++◌, ◌<◌, arith, map, cond, refl, sym, ap, ap₂, ◌∙◌, subst, Option, Some, None, option_map, inl, inr}
use Rattle.std.specs.Prelude.{flat_map, is_some, if◌then◌else◌, IsTrue, ◌⊎◌}
use Rattle.std.specs.List.{Contains, find, list_any}
use Rattle.std.specs.Option.{option_or}
use Rattle.std.proofs.lemmas.List.Folds.{list_any-append}
use Rattle.meaning.specs.LoopRules.{has_nested_variable, is_no_counter, resets_in, variables_set}
use Rattle.meaning.specs.Surroundings.{controlled_by, loop_variables}
use Rattle.meaning.specs.Syntax.{DataSetTree, ItemTree, ListItemsTree, no_items, more_items, value_item, loop_item, ShapeTree, writing, printing, initializing, logical_if}
use Rattle.meaning.specs.Trees.{Nested, flatten}
use Rattle.meaning.specs.Uses.{Symbols, is_one_of, symbols_of}
use Rattle.statement_rules.specs.Implied.{stands_in_own}
use Rattle.statement_rules.proofs.Implying.{stands_is}
use Rattle.list_culprits.specs.Seats.{Opener, Seat, counted_in, head_in}
use Rattle.list_culprits.specs.Told.{Told, uncounted, counting, implied}
use Rattle.list_culprits.specs.Loops.{counter_of, implied_by, implied_in, implied_in_sets, is_counter, looped_in, told_counting}
use Rattle.list_culprits.specs.Witness.{IsCounting, IsImpliedBy, IsImpliedIn, IsImpliedInSets, IsLoopedBy, is_loop_broken}
use Rattle.finding.specs.Answers.{IsAnswer}
use Rattle.finding.proofs.Found.{any_found, any_same, found, found_is_some, mapped_is_some, none_found}

-- ---- the variables of the DO statements around

counters_are : (os : List Opener) (n : List ℕ) → is_counter os n ≡ is_one_of (flat_map counted_in os) n
counters_are os n =
    mapped_is_some head_in (find (λ o. is_one_of (counted_in o) n) os) ∙ found_is_some (λ o. is_one_of (counted_in o) n) os ∙ sym (among os)
  where
    among : (qs : List Opener) → is_one_of (flat_map counted_in qs) n ≡ list_any (λ o. is_one_of (counted_in o) n) qs
    among [] = refl
    among (q ∷ qs) =
        list_any-append _ (counted_in q) (flat_map counted_in qs) ∙ ap (λ b. is_one_of (counted_in q) n || b) (among qs)

-- ---- implied DOs

or_some : {X : Type 0} (o p : Option X) → is_some (option_or o p) ≡ (is_some o || is_some p)
or_some None p = refl
or_some (Some x) p = refl

inside_some : (xs : ListItemsTree) → is_some (implied_in xs) ≡ stands_in_own xs
inside_some no_items = refl
inside_some (more_items (value_item e) xs) = inside_some xs
inside_some (more_items (loop_item ys variable limits) xs) =
    by_test (is_one_of (loop_variables ys) variable) ∙ ap₂ (λ a b. is_one_of (loop_variables ys) variable || (a || b)) (inside_some ys) (inside_some xs)
  where
    by_test : (b : Bool) → is_some (if b then Some variable else option_or (implied_in ys) (implied_in xs)) ≡ (b || (is_some (implied_in ys) || is_some (implied_in xs)))
    by_test true = refl
    by_test false = or_some (implied_in ys) (implied_in xs)

sets_some : (ss : List DataSetTree) → is_some (implied_in_sets ss) ≡ list_any (λ (s : DataSetTree). resets_in [] s.list) ss
sets_some [] = refl
sets_some (s ∷ ss) =
    or_some (implied_in s.list) (implied_in_sets ss) ∙ ap₂ ◌||◌ (inside_some s.list ∙ stands_is s.list) (sets_some ss)

implied_some : (s : ShapeTree) → is_some (implied_by s) ≡ has_nested_variable s
implied_some (writing control list) = inside_some list ∙ stands_is list
implied_some (printing source list) = inside_some list ∙ stands_is list
implied_some (initializing sets) = sets_some sets
implied_some (logical_if e statement) = implied_some statement
implied_some s = refl

inside_told : (xs : ListItemsTree) (n : List ℕ) → implied_in xs ≡ Some n → IsImpliedIn xs n
inside_told no_items n is = absurd cc
inside_told (more_items (value_item e) xs) n is = inside_told xs n is
inside_told (more_items (loop_item ys variable limits) xs) n is =
    by_test (is_one_of (loop_variables ys) variable) refl (implied_in ys) refl (inside_told ys n) (inside_told xs n) is
  where
    by_test : (b : Bool) → is_one_of (loop_variables ys) variable ≡ b → (o : Option (List ℕ)) → implied_in ys ≡ o → (implied_in ys ≡ Some n → IsImpliedIn ys n) → (implied_in xs ≡ Some n → IsImpliedIn xs n) → (if b then Some variable else option_or o (implied_in xs)) ≡ Some n → ((variable ≡ n) × IsTrue (is_one_of (loop_variables ys) variable)) ⊎ (IsImpliedIn ys n ⊎ IsImpliedIn xs n)
    by_test true here o at inner later told = let e : variable ≡ n = cc in inl (e, here)
    by_test false here (Some m) at inner later told = let e : Some m ≡ Some n = told in inr (inl (inner (at ∙ e)))
    by_test false here None at inner later told = inr (inr (later told))

sets_told : (ss : List DataSetTree) (n : List ℕ) → implied_in_sets ss ≡ Some n → IsImpliedInSets ss n
sets_told [] n is = absurd cc
sets_told (s ∷ ss) n is = by_first (implied_in s.list) refl (sets_told ss n) is
  where
    by_first : (o : Option (List ℕ)) → implied_in s.list ≡ o → (implied_in_sets ss ≡ Some n → IsImpliedInSets ss n) → option_or o (implied_in_sets ss) ≡ Some n → IsImpliedIn s.list n ⊎ IsImpliedInSets ss n
    by_first (Some m) at more told = let e : Some m ≡ Some n = told in inl (inside_told s.list n (at ∙ e))
    by_first None at more told = inr (more told)

implied_told : (s : ShapeTree) (n : List ℕ) → implied_by s ≡ Some n → IsImpliedBy s n
implied_told (writing control list) n is = inside_told list n is
implied_told (printing source list) n is = inside_told list n is
implied_told (initializing sets) n is = sets_told sets n is
implied_told (logical_if e statement) n is = implied_told statement n is
implied_told s n is = absurd cc

-- ---- all of them

some_none : {X : Type 0} (x : X) → Some x ≡ None → ⊥
some_none x is = cc

module _ (t : Nested) (z : Seat) where
  abbrev r : Symbols
  r = symbols_of (flatten t)

  abbrev s : ShapeTree
  s = z.item.shape

  abbrev first : Bool
  first = list_any (is_no_counter r) (controlled_by s)

  abbrev second : Bool
  second = list_any (is_counter z.openers) (variables_set s)

  abbrev third : Bool
  third = is_some (implied_by s)

  broken_is : is_loop_broken t z ≡ (first || (second || third))
  broken_is =
      ap₂ (λ a b. first || (a || b)) (any_same (is_one_of (flat_map counted_in z.openers)) (is_counter z.openers) (λ n. sym (counters_are z.openers n)) (variables_set s)) (sym (implied_some s))

  counting_told : (n : List ℕ) (o : Option Opener) (k : Told) → find (λ q. is_one_of (counted_in q) n) z.openers ≡ o → Contains (variables_set s) n → option_map (λ (x : ItemTree). counting n x.line) (option_map head_in o) ≡ Some k → IsLoopedBy r z k
  counting_told n None k at stands is = absurd cc
  counting_told n (Some q) k at stands is =
      let f = found (λ p. is_one_of (counted_in p) n) z.openers q at in
      let e : counting n (head_in q).line ≡ k = cc in
      subst (IsLoopedBy r z) e (stands, record { opener = q; around = f.stands; counts = f.passes; line_is = refl })

  or_left : (a b : Bool) → a ≡ true → (a || b) ≡ true
  or_left a b is = ap (λ c. c || b) is

  or_right : (a b : Bool) → b ≡ true → (a || b) ≡ true
  or_right true b is = refl
  or_right false b is = is

  third_by : (o : Option (List ℕ)) → implied_by s ≡ o → (k : Told) → option_map implied o ≡ Some k → (third ≡ true) × IsLoopedBy r z k
  third_by None at k is = absurd cc
  third_by (Some n) at k is =
      let e : implied n ≡ k = cc in
      (ap is_some at, subst (IsLoopedBy r z) e (implied_told s n at))

  second_by : (o : Option (List ℕ)) → find (is_counter z.openers) (variables_set s) ≡ o → (k : Told) → option_or (told_counting z.openers o) (option_map implied (implied_by s)) ≡ Some k → ((second || third) ≡ true) × IsLoopedBy r z k
  second_by None at k is =
      let w = third_by (implied_by s) refl k is in
      (or_right second third w.0, w.1)
  second_by (Some n) at k is = by_counter (told_counting z.openers (Some n)) refl is
    where
      by_counter : (o : Option Told) → told_counting z.openers (Some n) ≡ o → option_or o (option_map implied (implied_by s)) ≡ Some k → ((second || third) ≡ true) × IsLoopedBy r z k
      by_counter None here more =
          let w = third_by (implied_by s) refl k more in
          (or_right second third w.0, w.1)
      by_counter (Some j) here more =
          let e : Some j ≡ Some k = more in
          let f = found (is_counter z.openers) (variables_set s) n at in
          (or_left second third (any_found (is_counter z.openers) (variables_set s) n at), counting_told n (find (λ q. is_one_of (counted_in q) n) z.openers) k refl f.stands (here ∙ e))

  first_by : (o : Option (List ℕ)) → find (is_no_counter r) (controlled_by s) ≡ o → (k : Told) → option_or (option_map uncounted o) (option_or (told_counting z.openers (find (is_counter z.openers) (variables_set s))) (option_map implied (implied_by s))) ≡ Some k → ((first || (second || third)) ≡ true) × IsLoopedBy r z k
  first_by None at k is =
      let w = second_by (find (is_counter z.openers) (variables_set s)) refl k is in
      (or_right first (second || third) w.0, w.1)
  first_by (Some n) at k is =
      let f = found (is_no_counter r) (controlled_by s) n at in
      let e : uncounted n ≡ k = cc in
      (or_left first (second || third) (any_found (is_no_counter r) (controlled_by s) n at), subst (IsLoopedBy r z) e (f.stands, f.passes))

  -- where nothing is told
  third_none : (o : Option (List ℕ)) → option_map implied o ≡ None → is_some o ≡ false
  third_none None is = refl
  third_none (Some n) is = absurd cc

  counter_none : (o : Option ItemTree) (n : List ℕ) (p : Option Told) → is_some o ≡ true → option_or (option_map (λ (x : ItemTree). counting n x.line) o) p ≡ None → ⊥
  counter_none None n p has is = cc
  counter_none (Some x) n p has is = cc

  second_none : (o : Option (List ℕ)) → find (is_counter z.openers) (variables_set s) ≡ o → option_or (told_counting z.openers o) (option_map implied (implied_by s)) ≡ None → (second || third) ≡ false
  second_none None at is =
      ap₂ ◌||◌ (none_found (is_counter z.openers) (variables_set s) at) (third_none (implied_by s) is)
  second_none (Some n) at is =
      absurd (counter_none (counter_of z.openers n) n (option_map implied (implied_by s)) (found (is_counter z.openers) (variables_set s) n at).passes is)

  first_none : (o : Option (List ℕ)) → find (is_no_counter r) (controlled_by s) ≡ o → option_or (option_map uncounted o) (option_or (told_counting z.openers (find (is_counter z.openers) (variables_set s))) (option_map implied (implied_by s))) ≡ None → (first || (second || third)) ≡ false
  first_none None at is =
      ap₂ ◌||◌ (none_found (is_no_counter r) (controlled_by s) at) (second_none (find (is_counter z.openers) (variables_set s)) refl is)
  first_none (Some n) at is = absurd cc

  answer : (o : Option Told) → looped_in r z ≡ o → IsAnswer (IsLoopedBy r z) (is_loop_broken t z) o
  answer (Some k) is =
      let w = first_by (find (is_no_counter r) (controlled_by s)) refl k is in
      (broken_is ∙ w.0, w.1)
  answer None is = broken_is ∙ first_none (find (is_no_counter r) (controlled_by s)) refl is

  pub loops_told : IsAnswer (IsLoopedBy r z) (is_loop_broken t z) (looped_in r z)
  loops_told = answer (looped_in r z) refl

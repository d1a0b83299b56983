-- In a program unit that breaks no rule the range of a DO statement never sets its variable.
use Rattle.std.proofs.Common.{◌≡◌, ℕ, ◌||◌, Bool, true, false, Option, Some, None, List, [], ◌∷◌, ◌++◌, Ok, refl, sym, ap, ◌∙◌}
use Rattle.std.proofs.lemmas.Bool.{true≢false}
use Rattle.std.proofs.lemmas.List.Folds.{list_any-append}
use Rattle.std.proofs.lemmas.Slice.Eq.{bytes_eq-Decides}
use Rattle.std.specs.List.{list_any, AllByRecursion}
use Rattle.std.specs.Str.{bytes_eq}
use Rattle.meaning.specs.declared.refusal.Broken.{Broken}
use Rattle.meaning.specs.declared.refusal.Rule.{Rule}
use Rattle.meaning.specs.declared.refusal.Rule.TheVariants.{K2, K9}
use Rattle.meaning.specs.Refusals.{least, unless}
use Rattle.meaning.specs.Statements.{broken_if}
use Rattle.meaning.specs.Syntax.{ItemTree}
use Rattle.meaning.specs.Trees.{Members, none, plain, loop, block, Arms, no_arms, arm, flat, flat_arms, Nested, flatten}
use Rattle.meaning.specs.Surroundings.{Around, controlled_by, counted_by, in_body, in_range, in_arm, told_in, told_in_arms}
use Rattle.meaning.specs.Uses.{Symbols, symbols_of, is_one_of}
use Rattle.meaning.specs.LabelRules.{breaks_transfers}
use Rattle.meaning.specs.LoopRules.{variables_set, is_no_counter, has_nested_variable, breaks_loops}
use Rattle.meaning.specs.Rules.{broken_items, broken_lists, broken_rules, checked}
use Rattle.meaning.specs.LoopLaws.{sets, NeverSets, LeaveVariables, ArmsLeaveVariables}
use Rattle.meaning.proofs.Keeping.{or-parts}

-- ---- nothing is broken

nothing_least : (bs : List Broken) → least bs ≡ None → bs ≡ []
nothing_least [] h = refl
nothing_least (b ∷ bs) h = absurd cc

pub none_of_both : {A : Type 0} (xs ys : List A) → xs ++ ys ≡ [] → (xs ≡ []) × (ys ≡ [])
none_of_both [] ys h = (refl, h)
none_of_both (x ∷ xs) ys h = absurd cc

pub not_told : (b : Bool) (line : ℕ) (rule : Rule) → broken_if b line rule ≡ [] → b ≡ false
not_told false line rule h = refl
not_told true line rule h = absurd cc

no_rule_told : (t u : Nested) (o : Option Broken) → unless o t ≡ Ok u → o ≡ None
no_rule_told t u None accepted = refl
no_rule_told t u (Some b) accepted = absurd cc

pub nothing_broken : (t u : Nested) → checked t ≡ Ok u → broken_rules t ≡ []
unfolding checked
nothing_broken t u accepted = nothing_least (broken_rules t) (no_rule_told t u (least (broken_rules t)) accepted)

-- ---- names

or-second : (a b : Bool) → b ≡ true → (a || b) ≡ true
or-second true b h = refl
or-second false b h = h

is_first : (n : List ℕ) (ns : List (List ℕ)) → is_one_of (n ∷ ns) n ≡ true
is_first n ns = ap (λ b. b || is_one_of ns n) ((bytes_eq-Decides n n).1 refl)

-- one of the later names
is_later : (v : List ℕ) (ns around : List (List ℕ)) → is_one_of around v ≡ true → is_one_of (ns ++ around) v ≡ true
is_later v ns around h =
    list_any-append (bytes_eq v) ns around ∙ or-second (list_any (bytes_eq v) ns) (list_any (bytes_eq v) around) h

-- a name of the variables around isn't one of those that are none of them
not_one_of : (v : List ℕ) (around ns : List (List ℕ)) → is_one_of around v ≡ true → list_any (is_one_of around) ns ≡ false → is_one_of ns v ≡ false
not_one_of v around [] h unset = refl
not_one_of v around (n ∷ ns) h unset =
    let parts = or-parts (is_one_of around n) (list_any (is_one_of around) ns) unset in
    by (bytes_eq v n) refl parts.0 (not_one_of v around ns h parts.1)
  where
    by : (b : Bool) → bytes_eq v n ≡ b → is_one_of around n ≡ false → is_one_of ns v ≡ false → is_one_of (n ∷ ns) v ≡ false
    by false e outside further = ap (λ b. b || is_one_of ns v) e ∙ further
    by true e outside further =
        absurd (true≢false (sym h ∙ ap (is_one_of around) ((bytes_eq-Decides v n).0 e) ∙ outside))

-- ---- lists in which no statement breaks the rule

module _ (r : Symbols) where
  abbrev Nowhere : Around → Members → Type 0
  Nowhere a ms = told_in (breaks_loops r) K9 a ms ≡ []

  abbrev NowhereIn : Around → Arms → Type 0
  NowhereIn a arms = told_in_arms (breaks_loops r) K9 a arms ≡ []

  abbrev Here : Around → ItemTree → Type 0
  Here a x = breaks_loops r a x ≡ false

  plain_parts : (a : Around) (x : ItemTree) (ms : Members) → Nowhere a (plain x ms) → Here a x × Nowhere a ms
  unfolding told_in told_in_arms
  plain_parts a x ms h =
      let parts = none_of_both (broken_if (breaks_loops r a x) x.line K9) (told_in (breaks_loops r) K9 a ms) h in
      (not_told (breaks_loops r a x) x.line K9 parts.0, parts.1)

  loop_parts : (a : Around) (x : ItemTree) (range ms : Members) → Nowhere a (loop x range ms) → Here a x × Nowhere (in_range a x range) range × Nowhere a ms
  unfolding told_in told_in_arms
  loop_parts a x range ms h =
      let parts = none_of_both (broken_if (breaks_loops r a x) x.line K9) (told_in (breaks_loops r) K9 (in_range a x range) range ++ told_in (breaks_loops r) K9 a ms) h in
      let inner = none_of_both (told_in (breaks_loops r) K9 (in_range a x range) range) (told_in (breaks_loops r) K9 a ms) parts.1 in
      (not_told (breaks_loops r a x) x.line K9 parts.0, inner.0, inner.1)

  block_parts : (a : Around) (arms : Arms) (x : ItemTree) (ms : Members) → Nowhere a (block arms x ms) → NowhereIn a arms × Here a x × Nowhere a ms
  unfolding told_in told_in_arms
  block_parts a arms x ms h =
      let parts = none_of_both (told_in_arms (breaks_loops r) K9 a arms) (broken_if (breaks_loops r a x) x.line K9 ++ told_in (breaks_loops r) K9 a ms) h in
      let further = none_of_both (broken_if (breaks_loops r a x) x.line K9) (told_in (breaks_loops r) K9 a ms) parts.1 in
      (parts.0, not_told (breaks_loops r a x) x.line K9 further.0, further.1)

  arm_parts : (a : Around) (x : ItemTree) (body : Members) (arms : Arms) → NowhereIn a (arm x body arms) → Here a x × Nowhere (in_arm a body) body × NowhereIn a arms
  unfolding told_in told_in_arms
  arm_parts a x body arms h =
      let parts = none_of_both (broken_if (breaks_loops r a x) x.line K9) (told_in (breaks_loops r) K9 (in_arm a body) body ++ told_in_arms (breaks_loops r) K9 a arms) h in
      let inner = none_of_both (told_in (breaks_loops r) K9 (in_arm a body) body) (told_in_arms (breaks_loops r) K9 a arms) parts.1 in
      (not_told (breaks_loops r a x) x.line K9 parts.0, inner.0, inner.1)

  -- ---- a variable of the DO statements around isn't set

  module _ (v : List ℕ) where
    never_here : (a : Around) (x : ItemTree) → is_one_of a.variables v ≡ true → Here a x → sets v x ≡ false
    never_here a x h kept =
        let further = or-parts (list_any (is_no_counter r) (controlled_by x.shape)) (list_any (is_one_of a.variables) (variables_set x.shape) || has_nested_variable x.shape) kept in
        let set = or-parts (list_any (is_one_of a.variables) (variables_set x.shape)) (has_nested_variable x.shape) further.1 in
        not_one_of v a.variables (variables_set x.shape) h set.0

    none_sets : (x : ItemTree) (xs : List ItemTree) → sets v x ≡ false → list_any (sets v) xs ≡ false → list_any (sets v) (x ∷ xs) ≡ false
    none_sets x xs h further = ap (λ b. b || list_any (sets v) xs) h ∙ further

    none_of_all : (xs ys : List ItemTree) → list_any (sets v) xs ≡ false → list_any (sets v) ys ≡ false → list_any (sets v) (xs ++ ys) ≡ false
    none_of_all xs ys h further = list_any-append (sets v) xs ys ∙ ap (λ b. b || list_any (sets v) ys) h ∙ further

    mutual
      never_in : (a : Around) (ms : Members) → is_one_of a.variables v ≡ true → Nowhere a ms → list_any (sets v) (flat ms) ≡ false
      never_in a none h kept = refl
      never_in a (plain x ms) h kept =
          let parts = plain_parts a x ms kept in
          none_sets x (flat ms) (never_here a x h parts.0) (never_in a ms h parts.1)
      never_in a (loop x range ms) h kept =
          let parts = loop_parts a x range ms kept in
          none_sets x (flat range ++ flat ms) (never_here a x h parts.0) (none_of_all (flat range) (flat ms) (never_in (in_range a x range) range (is_later v (counted_by x.shape) a.variables h) parts.1) (never_in a ms h parts.2))
      never_in a (block arms x ms) h kept =
          let parts = block_parts a arms x ms kept in
          none_of_all (flat_arms arms) (x ∷ flat ms) (never_in_arms a arms h parts.0) (none_sets x (flat ms) (never_here a x h parts.1) (never_in a ms h parts.2))

      never_in_arms : (a : Around) (arms : Arms) → is_one_of a.variables v ≡ true → NowhereIn a arms → list_any (sets v) (flat_arms arms) ≡ false
      never_in_arms a no_arms h kept = refl
      never_in_arms a (arm x body arms) h kept =
          let parts = arm_parts a x body arms kept in
          none_sets x (flat body ++ flat_arms arms) (never_here a x h parts.0) (none_of_all (flat body) (flat_arms arms) (never_in (in_arm a body) body h parts.1) (never_in_arms a arms h parts.2))

  -- ---- each DO statement

  all_never : (range : Members) (ns : List (List ℕ)) → ((v : List ℕ) → is_one_of ns v ≡ true → NeverSets v range) → AllByRecursion (λ v. NeverSets v range) ns
  all_never range [] h = tt
  all_never range (n ∷ ns) h =
      (h n (is_first n ns), all_never range ns (λ v e. h v (or-second (bytes_eq v n) (is_one_of ns v) e)))

  is_earlier : (v : List ℕ) (ns around : List (List ℕ)) → is_one_of ns v ≡ true → is_one_of (ns ++ around) v ≡ true
  is_earlier v ns around h = list_any-append (bytes_eq v) ns around ∙ ap (λ b. b || list_any (bytes_eq v) around) h

  mutual
    leave : (a : Around) (ms : Members) → Nowhere a ms → LeaveVariables ms
    leave a none kept = tt
    leave a (plain x ms) kept = leave a ms (plain_parts a x ms kept).1
    leave a (loop x range ms) kept =
        let parts = loop_parts a x range ms kept in
        (all_never range (counted_by x.shape) (λ v e. record { unset = never_in v (in_range a x range) range (is_earlier v (counted_by x.shape) a.variables e) parts.1 }), leave (in_range a x range) range parts.1, leave a ms parts.2)
    leave a (block arms x ms) kept =
        let parts = block_parts a arms x ms kept in
        (arms_leave a arms parts.0, leave a ms parts.2)

    arms_leave : (a : Around) (arms : Arms) → NowhereIn a arms → ArmsLeaveVariables arms
    arms_leave a no_arms kept = tt
    arms_leave a (arm x body arms) kept =
        let parts = arm_parts a x body arms kept in
        (leave (in_arm a body) body parts.1, arms_leave a arms parts.2)

pub leave_variables : (t u : Nested) → checked t ≡ Ok u → LeaveVariables t.body
leave_variables t u accepted =
    let r = symbols_of (flatten t) in
    let lists = (none_of_both (broken_items r (flatten t)) (broken_lists r t) (nothing_broken t u accepted)).1 in
    leave r (in_body t.body) t.body (none_of_both (told_in (breaks_transfers r (flatten t)) K2 (in_body t.body) t.body) (told_in (breaks_loops r) K9 (in_body t.body) t.body) lists).1

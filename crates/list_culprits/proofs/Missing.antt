-- What is told of a transfer is a witness.
use Rattle.std.proofs.Common.{◌≡◌, ℕ, Bool, true, false, ◌||◌, List, [], ◌∷◌, ◌++◌, ◌<◌, arith, map, cond, refl, sym, ap, ap₂, ◌∙◌, subst, Option, Some, None, option_map, inl, inr}
use Rattle.std.specs.Prelude.{◌==◌, not, count_by, if◌then◌else◌, IsTrue, ◌⊎◌}
use Rattle.std.specs.List.{Contains, find, list_any}
use Rattle.std.specs.Option.{option_or}
use Rattle.std.proofs.lemmas.List.Elements.{Contains-append_cases, Contains-append_left, Contains-append_right}
use Rattle.std.proofs.lemmas.List.Folds.{list_any_at}
use Rattle.meaning.specs.Scopes.{is_specification}
use Rattle.meaning.specs.Uses.{Symbols, is_defining}
use Rattle.meaning.specs.Characters.{number_of}
use Rattle.meaning.specs.LabelRules.{has_label, misses, not_executable, transfers_of}
use Rattle.meaning.specs.Syntax.{ItemTree, ShapeTree, going, computed_going, arithmetic_if, logical_if}
use Rattle.meaning.specs.Trees.{Nested, flatten}
use Rattle.list_culprits.specs.declared.culprit.Kind.{Kind}
use Rattle.list_culprits.specs.Seats.{Opener, range_of, block_of, Seat, seat_passing, seats_of}
use Rattle.list_culprits.specs.Told.{Told, nowhere, closed, in_range, in_block, apart, shared}
use Rattle.list_culprits.specs.Transfers.{ProgramUnit, branch_kind, closed_kind, first_told, missed_at, missed_in, targets_of, times, told_absent, told_by_kind, told_closed, told_in, told_present}
use Rattle.list_culprits.specs.Witness.{IsClosed, IsInside, IsMissedBy, Misses, is_transfer_broken, unit_of}
use Rattle.finding.specs.Answers.{IsAnswer}
use Rattle.finding.proofs.Found.{any_mapped, IsFound, any_found, found, none_found, stands_mapped}
use Rattle.list_culprits.proofs.Seating.{seats_told}

-- ---- the first of some things of which something is told

record IsFirst {X : Type 0} (f : X → Option Told) (xs : List X) (k : Told) : Type 0 where
  one : X
  stands : Contains xs one
  told : f one ≡ Some k

first_found : {X : Type 0} (f : X → Option Told) (xs : List X) (k : Told) → first_told f xs ≡ Some k → IsFirst f xs k
first_found f [] k is = absurd cc
first_found {X} f (x ∷ xs) k is = by_first (f x) refl (first_found f xs k) is
  where
    by_first : (o : Option Told) → f x ≡ o → (first_told f xs ≡ Some k → IsFirst f xs k) → option_or o (first_told f xs) ≡ Some k → IsFirst f (x ∷ xs) k
    by_first (Some j) here more told =
        let e : Some j ≡ Some k = told in
        record { one = x; stands = Contains-append_left (x ∷ []) xs x (0, omega arith, refl); told = here ∙ e }
    by_first None here more told =
        let m = more told in
        record { one = m.one; stands = Contains-append_right (x ∷ []) xs m.one m.stands; told = m.told }

first_none : {X : Type 0} (f : X → Option Told) (g : X → Bool) → ((x : X) → f x ≡ None → g x ≡ false) → (xs : List X) → first_told f xs ≡ None → list_any g xs ≡ false
first_none f g keeps [] is = refl
first_none f g keeps (x ∷ xs) is = by_first (f x) refl (first_none f g keeps xs) is
  where
    by_first : (o : Option Told) → f x ≡ o → (first_told f xs ≡ None → list_any g xs ≡ false) → option_or o (first_told f xs) ≡ None → (g x || list_any g xs) ≡ false
    by_first (Some j) here more told = absurd cc
    by_first None here more told = ap₂ ◌||◌ (keeps x here) (more told)

any_stands : {X : Type 0} (g : X → Bool) (xs : List X) (x : X) → Contains xs x → g x ≡ true → list_any g xs ≡ true
any_stands g xs x (k, lt, is) holds = list_any_at g xs k x lt (ap g is ∙ holds)

closed_stands : (r : Symbols) (before all : List ItemTree) (x : ItemTree) → Contains (not_executable r before all) x → Contains all x
unfolding not_executable
closed_stands r before [] x h = h
closed_stands r before (y ∷ ys) x h =
    by_test (is_specification y.shape || is_defining r before y) (closed_stands r (before ++ y ∷ []) ys x) h
  where
    by_test : (b : Bool) → (Contains (not_executable r (before ++ y ∷ []) ys) x → Contains ys x) → Contains ((if b then y ∷ [] else []) ++ not_executable r (before ++ y ∷ []) ys) x → Contains (y ∷ ys) x
    by_test true more stands =
        cases (Contains-append_cases (y ∷ []) (not_executable r (before ++ y ∷ []) ys) x stands)
      where
        cases : Contains (y ∷ []) x ⊎ Contains (not_executable r (before ++ y ∷ []) ys) x → Contains (y ∷ ys) x
        cases (inl here) = Contains-append_left (y ∷ []) ys x here
        cases (inr there) = Contains-append_right (y ∷ []) ys x (more there)
    by_test false more stands = Contains-append_right (y ∷ []) ys x (more stands)

-- ---- the labels of a statement

targets_are : (s : ShapeTree) → transfers_of s ≡ map number_of (targets_of s)
targets_are (going label) = refl
targets_are (computed_going labels comma e) = refl
targets_are (arithmetic_if e negative zero positive) = refl
targets_are (logical_if e statement) = targets_are statement
targets_are s = refl

module _ (t : Nested) (z : Seat) (label : List ℕ) where
  abbrev u : ProgramUnit
  u = unit_of t

  abbrev has : ItemTree → Bool
  has = has_label (number_of label)

  abbrev closed_ones : List ItemTree
  closed_ones = not_executable u.symbols [] u.all

  abbrev is_missed : Bool
  is_missed = misses u.symbols u.all z.reach (number_of label)

  -- where nothing is told it is reached
  none_by : (a b : Bool) (k j : Told) (p : Option ItemTree) → find has closed_ones ≡ p → (if a then Some k else (if b then Some j else told_closed label p)) ≡ None → ((a || b) || list_any has closed_ones) ≡ false
  none_by true b k j p at is = absurd cc
  none_by false true k j p at is = absurd cc
  none_by false false k j (Some x) at is = absurd cc
  none_by false false k j None at is = none_found has closed_ones at

  label_none : missed_at u z.reach label ≡ None → is_missed ≡ false
  label_none is =
      none_by (times label z.reach == 0) (not (times label z.reach == times label u.all)) _ _ (find has closed_ones) refl is

  abbrev Told_by : Told → Type 0
  Told_by k = Misses u z label → IsMissedBy u z k

  items_stand : (y : Seat) → Contains u.seats y → Contains u.all y.item
  items_stand y stands =
      subst (λ xs. Contains xs y.item) (seats_told t).items (stands_mapped (λ (w : Seat). w.item) u.seats y stands)

  nowhere_by : seat_passing has u.seats ≡ None → list_any has u.all ≡ false
  nowhere_by at =
      sym (ap (list_any has) (seats_told t).items) ∙ any_mapped (λ (w : Seat). w.item) has u.seats ∙ none_found (λ (w : Seat). has w.item) u.seats at

  module _ (absent : (times label z.reach == 0) ≡ true) (y : Seat) (at : IsFound (λ (w : Seat). has w.item) u.seats y) where
    inside_by : (o : Opener) (os : List Opener) → y.openers ≡ o ∷ os → IsInside u z label o
    inside_by o os opened = record { place = y; stands = at.stands; has = at.passes; outer = os; opened = opened; absent = absent }

    within_by : (os : List Opener) → y.openers ≡ os → Told_by (told_in label os)
    within_by [] opened = λ m. (m, absent)
    within_by (range_of x ∷ os) opened = λ m. (m, (x, refl, inside_by (range_of x) os opened))
    within_by (block_of x ∷ os) opened = λ m. (m, (x, refl, inside_by (block_of x) os opened))

    kind_by : (o : Option Kind) → branch_kind y.item.shape ≡ o → Told_by (told_by_kind label o y.openers)
    kind_by (Some kind) is = λ m.
        (m, record { statement = y.item; stands = items_stand y at.stands; has = at.passes; kind_is = inl is })
    kind_by None is = within_by y.openers refl

  absent_by : (times label z.reach == 0) ≡ true → (p : Option Seat) → seat_passing has u.seats ≡ p → Told_by (told_absent label p)
  absent_by absent None at = λ m. (m, nowhere_by at)
  absent_by absent (Some y) at =
      kind_by absent y (found (λ (w : Seat). has w.item) u.seats y at) (branch_kind y.item.shape) refl

  closed_by : (k : Told) (p : Option ItemTree) → find has closed_ones ≡ p → told_closed label p ≡ Some k → (list_any has closed_ones ≡ true) × Told_by k
  closed_by k None at is = absurd cc
  closed_by k (Some x) at is =
      let f = found has closed_ones x at in
      let e : closed label (closed_kind x.shape) ≡ k = cc in
      (any_found has closed_ones x at, subst Told_by e (λ m. (m, record { statement = x; stands = closed_stands u.symbols [] u.all x f.stands; has = f.passes; kind_is = inr refl })))

  or_true : (b : Bool) → (b || true) ≡ true
  or_true true = refl
  or_true false = refl

  some_by : (a b : Bool) (k : Told) (p : Option Seat) → (times label z.reach == 0) ≡ a → not (times label z.reach == times label u.all) ≡ b → (if a then Some (told_absent label (seat_passing has u.seats)) else (if b then Some (shared label) else told_closed label (find has closed_ones))) ≡ Some k → (((a || b) || list_any has closed_ones) ≡ true) × Told_by k
  some_by true b k p absent more is =
      let e : told_absent label (seat_passing has u.seats) ≡ k = cc in
      (refl, subst Told_by e (absent_by absent (seat_passing has u.seats) refl))
  some_by false true k p absent more is =
      let e : shared label ≡ k = cc in
      (refl, subst Told_by e (λ m. (m, unequal (times label z.reach == times label u.all) more)))
    where
      unequal : (c : Bool) → not c ≡ true → c ≡ false
      unequal true h = absurd cc
      unequal false h = refl
  some_by false false k p absent more is = closed_by k (find has closed_ones) refl is

  label_some : (k : Told) → missed_at u z.reach label ≡ Some k → Contains (targets_of z.item.shape) label → (is_missed ≡ true) × IsMissedBy u z k
  label_some k is stands =
      let s = some_by (times label z.reach == 0) (not (times label z.reach == times label u.all)) k None refl refl is in
      (s.0, s.1 (record { stands = stands; is_missed = s.0 }))

-- ---- all of them

module _ (t : Nested) (z : Seat) where
  abbrev missed_one : List ℕ → Bool
  missed_one label = misses (unit_of t).symbols (unit_of t).all z.reach (number_of label)

  broken_is : is_transfer_broken t z ≡ list_any missed_one (targets_of z.item.shape)
  broken_is =
      ap (list_any (misses (unit_of t).symbols (unit_of t).all z.reach)) (targets_are z.item.shape)
      ∙ any_mapped number_of (misses (unit_of t).symbols (unit_of t).all z.reach) (targets_of z.item.shape)

  answer : (o : Option Told) → missed_in (unit_of t) z ≡ o → IsAnswer (IsMissedBy (unit_of t) z) (is_transfer_broken t z) o
  answer (Some k) is =
      let f = first_found (missed_at (unit_of t) z.reach) (targets_of z.item.shape) k is in
      let s = label_some t z f.one k f.told f.stands in
      (broken_is ∙ any_stands missed_one (targets_of z.item.shape) f.one f.stands s.0, s.1)
  answer None is =
      broken_is ∙ first_none (missed_at (unit_of t) z.reach) missed_one (label_none t z) (targets_of z.item.shape) is

  pub transfers_told : IsAnswer (IsMissedBy (unit_of t) z) (is_transfer_broken t z) (missed_in (unit_of t) z)
  transfers_told = answer (missed_in (unit_of t) z) refl

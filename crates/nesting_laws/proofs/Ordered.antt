-- The order of statements, and the first statement that breaks a rule.
use Rattle.std.proofs.Common.{◌≡◌, true, false, List, [], ◌∷◌, ◌++◌, Option, Some, None, refl, sym, ap, subst, ◌∙◌, append_assoc}
use Rattle.std.specs.Prelude.{not, IsTrue}
use Rattle.std.specs.List.{AllByRecursion}
use Rattle.std.proofs.lemmas.List.{append-nil}
use Rattle.meaning.specs.declared.refusal.Broken.{Broken}
use Rattle.meaning.specs.declared.refusal.Rule.{Rule}
use Rattle.meaning.specs.Syntax.{ItemTree}
use Rattle.meaning.specs.Nesting.{Unfinished, Place, at_program, at_implicit, at_parameter, at_typing, at_format, at_executable, place_of, may_stand_before, may_follow, IsOrdered, is_misplaced, past, behind, breaks, told_first, first_broken}
use Rattle.meaning.proofs.FirstBroken.{goes_first}
use Rattle.nesting_laws.proofs.Names.{or_left, or_right, not_false, all_append}
use Rattle.nesting_laws.proofs.Clear.{timely_of, clear_of, clear_is}
use Rattle.nesting_laws.proofs.Passed.{IsUnbroken}

-- each may stand behind those before it
abbrev pub IsInOrder : List ItemTree → List ItemTree → Type 0
IsInOrder before [] = Unit {0}
IsInOrder before (x ∷ xs) = (is_misplaced before x ≡ false) × IsInOrder (before ++ x ∷ []) xs

-- ---- what breaks no rule

-- the first statement breaks nothing, nor do those behind it
told_none : (x : ItemTree) (o : Option Rule) (later : Option Broken) → told_first x o later ≡ None → (o ≡ None) × (later ≡ None)
told_none x (Some rule) later h = absurd cc
told_none x None later h = (refl, h)

pub unbroken_parts : (before : List ItemTree) (z : Unfinished) (x : ItemTree) (xs : List ItemTree) → first_broken before z (x ∷ xs) ≡ None
    → (breaks before z x ≡ None) × (first_broken (before ++ x ∷ []) (past z x) xs ≡ None)
unbroken_parts before z x xs h = told_none x (breaks before z x) (first_broken (before ++ x ∷ []) (past z x) xs) h

pub unbroken_of : (before : List ItemTree) (z : Unfinished) (xs : List ItemTree) → first_broken before z xs ≡ None → IsUnbroken z xs
unbroken_of before z [] h = tt
unbroken_of before z (x ∷ xs) h =
    let p = unbroken_parts before z x xs h in
    (clear_of before z x p.0, unbroken_of (before ++ x ∷ []) (past z x) xs p.1)

pub in_order_of : (before : List ItemTree) (z : Unfinished) (xs : List ItemTree) → first_broken before z xs ≡ None → IsInOrder before xs
in_order_of before z [] h = tt
in_order_of before z (x ∷ xs) h =
    let p = unbroken_parts before z x xs h in
    (timely_of before z x p.0, in_order_of (before ++ x ∷ []) (past z x) xs p.1)

pub unbroken_is : (before : List ItemTree) (z : Unfinished) (xs : List ItemTree) → IsInOrder before xs → IsUnbroken z xs → first_broken before z xs ≡ None
unbroken_is before z [] o u = refl
unbroken_is before z (x ∷ xs) o u = goes_first before z x xs (clear_is before z x o.0 u.0) ∙ unbroken_is (before ++ x ∷ []) (past z x) xs o.1 u.1

pub broken_append : (before : List ItemTree) (z : Unfinished) (xs ys : List ItemTree) → first_broken before z xs ≡ None
    → first_broken before z (xs ++ ys) ≡ first_broken (before ++ xs) (behind z xs) ys
broken_append before z [] ys h = ap (λ b. first_broken b z ys) (sym (append-nil before))
broken_append before z (x ∷ xs) ys h =
    let p = unbroken_parts before z x xs h in
    goes_first before z x (xs ++ ys) p.0 ∙ broken_append (before ++ x ∷ []) (past z x) xs ys p.1
    ∙ ap (λ b. first_broken b (behind (past z x) xs) ys) (append_assoc before (x ∷ []) xs)

-- ---- some of them, and more

pub in_order_left : (before xs ys : List ItemTree) → IsInOrder before (xs ++ ys) → IsInOrder before xs
in_order_left before [] ys h = tt
in_order_left before (x ∷ xs) ys h = (h.0, in_order_left (before ++ x ∷ []) xs ys h.1)

-- statements that stand as executable ones do may follow any
abbrev pub IsLate : ItemTree → Type 0
IsLate x = place_of x.shape ≡ at_executable

any_before : (p : Place) → may_stand_before p at_executable ≡ true
any_before at_program = refl
any_before at_implicit = refl
any_before at_parameter = refl
any_before at_typing = refl
any_before at_format = refl
any_before at_executable = refl

late_follows : (y x : ItemTree) → IsLate x → not (may_follow y x) ≡ false
late_follows y x late = ap (λ p. not (may_stand_before (place_of y.shape) p)) late ∙ ap not (any_before (place_of y.shape))

late_placed : (before : List ItemTree) (x : ItemTree) → IsLate x → is_misplaced before x ≡ false
late_placed [] x late = refl
late_placed (y ∷ ys) x late = rw (late_follows y x late) (late_placed ys x late)

late_in_order : (before xs : List ItemTree) → AllByRecursion IsLate xs → IsInOrder before xs
late_in_order before [] h = tt
late_in_order before (x ∷ xs) h = (late_placed before x h.0, late_in_order (before ++ x ∷ []) xs h.1)

pub in_order_more : (before xs more : List ItemTree) → IsInOrder before xs → AllByRecursion IsLate more → IsInOrder before (xs ++ more)
in_order_more before [] more h k = late_in_order before more k
in_order_more before (x ∷ xs) more h k = (h.0, in_order_more (before ++ x ∷ []) xs more h.1 k)

-- ---- each behind those before it, and each before those behind it

ordered_push : (xs : List ItemTree) (x : ItemTree) → IsOrdered xs → is_misplaced xs x ≡ false → IsOrdered (xs ++ x ∷ [])
ordered_push [] x h m = (tt, tt)
ordered_push (y ∷ ys) x h m =
    let here : may_follow y x ≡ true = not_false (may_follow y x) (or_left (not (may_follow y x)) (is_misplaced ys x) m) in
    (all_append (λ z. IsTrue (may_follow y z)) ys (x ∷ []) h.0 (here, tt), ordered_push ys x h.1 (or_right (not (may_follow y x)) (is_misplaced ys x) m))

ordered_behind : (before xs : List ItemTree) → IsOrdered before → IsInOrder before xs → IsOrdered (before ++ xs)
ordered_behind before [] h k = subst IsOrdered (sym (append-nil before)) h
ordered_behind before (x ∷ xs) h k = subst IsOrdered (append_assoc before (x ∷ []) xs) (ordered_behind (before ++ x ∷ []) xs (ordered_push before x h k.0) k.1)

pub ordered_of : (xs : List ItemTree) → IsInOrder [] xs → IsOrdered xs
ordered_of xs h = ordered_behind [] xs tt h

at_one : (P : ItemTree → Type 0) (ys : List ItemTree) (x : ItemTree) (xs : List ItemTree) → AllByRecursion P (ys ++ (x ∷ xs)) → P x
at_one P [] x xs h = h.0
at_one P (y ∷ ys) x xs h = at_one P ys x xs h.1

placed_of : (before : List ItemTree) (x : ItemTree) (xs : List ItemTree) → IsOrdered (before ++ (x ∷ xs)) → is_misplaced before x ≡ false
placed_of [] x xs h = refl
placed_of (y ∷ ys) x xs h = rw (at_one (λ z. IsTrue (may_follow y z)) ys x xs h.0) (placed_of ys x xs h.1)

in_order_behind : (before xs : List ItemTree) → IsOrdered (before ++ xs) → IsInOrder before xs
in_order_behind before [] h = tt
in_order_behind before (x ∷ xs) h = (placed_of before x xs h, in_order_behind (before ++ x ∷ []) xs (subst IsOrdered (sym (append_assoc before (x ∷ []) xs)) h))

pub in_order_is : (xs : List ItemTree) → IsOrdered xs → IsInOrder [] xs
in_order_is xs h = in_order_behind [] xs h

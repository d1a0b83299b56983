-- What statements evaluate is among what the rules look at.
use Rattle.std.proofs.Common.{◌≡◌, ◌<◌, ◌≤◌, ◌^◌, ℕ, Bool, true, false, List, [], ◌∷◌, ◌++◌, map, Option, Some, None, refl, sym, subst, ◌∙◌, arith}
use Rattle.std.specs.Prelude.{flat_map, if◌then◌else◌, is_some, not}
use Rattle.std.specs.List.{AllByRecursion, filter}
use Rattle.std.proofs.lemmas.Bool.{ltb-false, true≢false}
use Rattle.meaning.specs.Characters.{number_of}
use Rattle.meaning.specs.NumberRules.{data_numbers, has_too_great, is_too_great, numbers_in}
use Rattle.meaning.specs.Scopes.{Definition, defined_by, definition_if, is_dummy, listed}
use Rattle.meaning.specs.Syntax.{ExprTree, name, ExprsTree, no_exprs, exprs, ListItemsTree, no_items, more_items, value_item, loop_item, LimitsTree, ShapeTree, arithmetic_if, assignment, block_if, computed_going, definition, doing, doing_while, else_if, logical_if, printing, writing}
use Rattle.meaning.specs.Typing.{Expected, Names, expected, expected_in, in_target, in_unit, in_items as expected_items, in_limits as expected_limits, integer_type, option_list, SomeType}
use Rattle.meaning.specs.Uses.{Symbols, Use, bare_use, item_uses, limit_uses, parts_of, unit_uses, uses_in, uses_in_all, value_uses}
use Rattle.rule_laws.specs.Evaluated.{evaluated, in_item, in_items, in_limits}
use Rattle.rule_laws.proofs.Tests.{all_both, all_mapped, all_parts, all_turned, none_any}

-- ---- what is read

module _ (P : Use → Type 0) where
  abbrev Holds : ExprTree → Type 0
  Holds e = AllByRecursion P (uses_in e)

  listed_hold : (es : ExprsTree) → AllByRecursion P (uses_in_all es) → AllByRecursion Holds (listed es)
  listed_hold no_exprs h = tt
  listed_hold (exprs e es) h = let p = all_parts P (uses_in e) (uses_in_all es) h in (p.0, listed_hold es p.1)

  limits_hold : (l : LimitsTree) → AllByRecursion P (limit_uses l) → AllByRecursion Holds (in_limits l)
  limits_hold l h =
      let p = all_parts P (uses_in l.first) (uses_in l.last ++ flat_map uses_in (option_list l.step)) h in
      let q = all_parts P (uses_in l.last) (flat_map uses_in (option_list l.step)) p.1 in
      (p.0, (q.0, step_holds l.step q.1))
    where
      step_holds : (o : Option ExprTree) → AllByRecursion P (flat_map uses_in (option_list o)) → AllByRecursion Holds (option_list o)
      step_holds None k = tt
      step_holds (Some e) k = ((all_parts P (uses_in e) [] k).0, tt)

  module _ (r : Symbols) where
    name_holds : (n : List ℕ) (b : Bool) → AllByRecursion P (if b then [] else bare_use n ∷ []) → AllByRecursion Holds (if b then [] else name n ∷ [])
    name_holds n true h = tt
    name_holds n false h = (h, tt)

    item_holds : (e : ExprTree) → AllByRecursion P (value_uses r e) → AllByRecursion Holds (in_item r.names.arrays e)
    item_holds (name n) h = name_holds n (is_some (r.names.arrays n)) h
    item_holds e h = (h, tt)

    items_hold : (list : ListItemsTree) → AllByRecursion P (item_uses r list) → AllByRecursion Holds (in_items r.names.arrays list)
    items_hold no_items h = tt
    items_hold (more_items (value_item e) xs) h =
        let p = all_parts P (value_uses r e) (item_uses r xs) h in
        all_both Holds (in_item r.names.arrays e) (in_items r.names.arrays xs) (item_holds e p.0) (items_hold xs p.1)
    items_hold (more_items (loop_item ys variable limits) xs) h =
        let p = all_parts P (item_uses r ys) (bare_use variable ∷ (limit_uses limits ++ item_uses r xs)) h in
        let q = all_parts P (limit_uses limits) (item_uses r xs) p.1.1 in
        all_both Holds (in_items r.names.arrays ys) (in_limits limits ++ in_items r.names.arrays xs) (items_hold ys p.0)
        (all_both Holds (in_limits limits) (in_items r.names.arrays xs) (limits_hold limits q.0) (items_hold xs q.1))

    target_holds : (b : Bool) (d e : ExprTree) (ds : ExprsTree) → AllByRecursion P ((uses_in d ++ uses_in_all ds) ++ uses_in e) → AllByRecursion Holds (if b then d ∷ (listed ds ++ e ∷ []) else [])
    target_holds true d e ds h =
        let p = all_parts P (uses_in d ++ uses_in_all ds) (uses_in e) h in
        let q = all_parts P (uses_in d) (uses_in_all ds) p.0 in
        (q.0, all_both Holds (listed ds) (e ∷ []) (listed_hold ds q.1) (p.1, tt))
    target_holds false d e ds h = tt

    pub reads_hold : (s : ShapeTree) → AllByRecursion P (parts_of r false s).reads → AllByRecursion Holds (evaluated r.names.arrays s)
    reads_hold (assignment n no_exprs e) h = (h, tt)
    reads_hold (assignment n (exprs d ds) e) h = target_holds (is_some (r.names.arrays n)) d e ds h
    reads_hold (writing control list) h = items_hold list (all_parts P (unit_uses control.unit) (item_uses r list) h).1
    reads_hold (printing source list) h = items_hold list h
    reads_hold (doing label comma variable limits) h = limits_hold limits h
    reads_hold (doing_while label comma e) h = (h, tt)
    reads_hold (computed_going labels comma e) h = (h, tt)
    reads_hold (arithmetic_if e negative zero positive) h = (h, tt)
    reads_hold (logical_if e s) h =
        let p = all_parts P (uses_in e) (parts_of r false s).reads h in (p.0, reads_hold s p.1)
    reads_hold (block_if e) h = (h, tt)
    reads_hold (else_if e) h = (h, tt)
    reads_hold s h = tt

    -- in a statement function's expression
    unfiltered : (test : Use → Bool) (us : List Use) → AllByRecursion P (filter (λ u. not (test u)) us) → AllByRecursion (λ u. test u ≡ false → P u) us
    unfiltered test [] h = tt
    unfiltered test (u ∷ us) h = by (test u) refl h (unfiltered test us)
      where
        by : (b : Bool) → test u ≡ b → AllByRecursion P (if not b then u ∷ filter (λ v. not (test v)) us else filter (λ v. not (test v)) us)
            → (AllByRecursion P (filter (λ v. not (test v)) us) → AllByRecursion (λ v. test v ≡ false → P v) us) → AllByRecursion (λ v. test v ≡ false → P v) (u ∷ us)
        by true is k rest = ((λ no. absurd (true≢false (sym is ∙ no))), rest k)
        by false is k rest = ((λ no. k.0), rest k.1)

    abbrev HoldsIn : Definition → Type 0
    HoldsIn d = AllByRecursion (λ u. is_dummy d.dummies u.name ≡ false → P u) (uses_in d.body)

    pub body_holds : (s : ShapeTree) (d : Definition) → defined_by r.names.arrays s ≡ Some d → AllByRecursion P (parts_of r true s).reads → HoldsIn d
    body_holds (assignment n no_exprs e) d is h = absurd cc
    body_holds (assignment n (exprs e es) body) d is h = by (is_some (r.names.arrays n)) is
      where
        by : (b : Bool) → definition_if b n (e ∷ listed es) body ≡ Some d → HoldsIn d
        by true k = absurd cc
        by false k =
            let same : record { name = n; dummies = e ∷ listed es; body = body } ≡ d = cc in
            subst HoldsIn same (all_parts (λ u. is_dummy (e ∷ listed es) u.name ≡ false → P u) (uses_in_all (exprs e es)) (uses_in body) (unfiltered (λ u. is_dummy (e ∷ listed es) u.name) (uses_in_all (exprs e es) ++ uses_in body) h)).1
    body_holds (definition n body) d is h = by (is_some (r.names.arrays n)) is
      where
        every : (us : List Use) → AllByRecursion P us → AllByRecursion (λ u. is_dummy [] u.name ≡ false → P u) us
        every [] k = tt
        every (u ∷ us) k = ((λ no. k.0), every us k.1)

        by : (b : Bool) → definition_if b n [] body ≡ Some d → HoldsIn d
        by true k = absurd cc
        by false k =
            let same : record { name = n; dummies = []; body = body } ≡ d = cc in
            subst HoldsIn same (every (uses_in body) h)
    body_holds s d is h = absurd cc

-- ---- what has constants

module _ (P : ExprTree → Type 0) where
  abbrev HoldsOf : Expected → Type 0
  HoldsOf x = P x.expr

  module _ (ns : Names) where
    expected_name : (n : List ℕ) (b : Bool) → P (name n) → AllByRecursion P (if b then [] else name n ∷ [])
    expected_name n true h = tt
    expected_name n false h = (h, tt)

    expected_item : (e : ExprTree) → P e → AllByRecursion P (in_item ns.arrays e)
    expected_item (name n) h = expected_name n (is_some (ns.arrays n)) h
    expected_item e h = (h, tt)

    expected_list : (list : ListItemsTree) → AllByRecursion HoldsOf (expected_items false list) → AllByRecursion P (in_items ns.arrays list)
    expected_list no_items h = tt
    expected_list (more_items (value_item e) xs) h =
        all_both P (in_item ns.arrays e) (in_items ns.arrays xs) (expected_item e h.0) (expected_list xs h.1)
    expected_list (more_items (loop_item ys variable limits) xs) h =
        let p = all_parts HoldsOf (expected_items false ys) (expected_limits limits ++ expected_items false xs) h in
        let q = all_parts HoldsOf (expected_limits limits) (expected_items false xs) p.1 in
        all_both P (in_items ns.arrays ys) (in_limits limits ++ in_items ns.arrays xs) (expected_list ys p.0)
        (all_both P (in_limits limits) (in_items ns.arrays xs) (all_mapped HoldsOf (expected integer_type) (in_limits limits) q.0) (expected_list xs q.1))

    expected_target : (b : Bool) (k : SomeType) (d e : ExprTree) (ds : List ExprTree) → AllByRecursion HoldsOf (map (expected k) (d ∷ ds)) → P e → AllByRecursion P (if b then d ∷ (ds ++ e ∷ []) else [])
    expected_target true k d e ds h one =
        let p = all_mapped HoldsOf (expected k) (d ∷ ds) h in
        (p.0, all_both P ds (e ∷ []) p.1 (one, tt))
    expected_target false k d e ds h one = tt

    pub expected_hold : (s : ShapeTree) → AllByRecursion HoldsOf (expected_in ns s) → AllByRecursion P (evaluated ns.arrays s)
    expected_hold (assignment n no_exprs e) h = (h.0, tt)
    expected_hold (assignment n (exprs d ds) e) h =
        let p = all_parts HoldsOf (in_target ns n (exprs d ds)) (expected (ns.types n) e ∷ []) h in
        expected_target (is_some (ns.arrays n)) _ d e (listed ds) p.0 p.1.0
    expected_hold (writing control list) h =
        expected_list list (all_parts HoldsOf (in_unit control.unit) (expected_items false list) h).1
    expected_hold (printing source list) h = expected_list list h
    expected_hold (doing label comma variable limits) h =
        all_mapped HoldsOf (expected integer_type) (in_limits limits) h
    expected_hold (doing_while label comma e) h = (h.0, tt)
    expected_hold (computed_going labels comma e) h = (h.0, tt)
    expected_hold (arithmetic_if e negative zero positive) h = (h.0, tt)
    expected_hold (logical_if e s) h = (h.0, expected_hold s h.1)
    expected_hold (block_if e) h = (h.0, tt)
    expected_hold (else_if e) h = (h.0, tt)
    expected_hold s h = tt

    pub expected_body : (s : ShapeTree) (d : Definition) → defined_by ns.arrays s ≡ Some d → AllByRecursion HoldsOf (expected_in ns s) → P d.body
    expected_body (assignment n no_exprs e) d is h = absurd cc
    expected_body (assignment n (exprs e es) body) d is h = by (is_some (ns.arrays n)) is
      where
        by : (b : Bool) → definition_if b n (e ∷ listed es) body ≡ Some d → P d.body
        by true k = absurd cc
        by false k =
            let same : record { name = n; dummies = e ∷ listed es; body = body } ≡ d = cc in
            subst (λ (x : Definition). P x.body) same (all_parts HoldsOf (in_target ns n (exprs e es)) (expected (ns.types n) body ∷ []) h).1.0
    expected_body (definition n body) d is h = by (is_some (ns.arrays n)) is
      where
        by : (b : Bool) → definition_if b n [] body ≡ Some d → P d.body
        by true k = absurd cc
        by false k =
            let same : record { name = n; dummies = []; body = body } ≡ d = cc in
            subst (λ (x : Definition). P x.body) same h.0
    expected_body s d is h = absurd cc

-- ---- constants in range

each_of : (P : List ℕ → Type 0) (xs : List Expected) → AllByRecursion P (flat_map (λ x. numbers_in x.expr) xs) → AllByRecursion (λ x. AllByRecursion P (numbers_in x.expr)) xs
each_of P [] h = tt
each_of P (x ∷ xs) h =
    let p = all_parts P (numbers_in x.expr) (flat_map (λ y. numbers_in y.expr) xs) h in (p.0, each_of P xs p.1)

abbrev pub IsInRange : List ℕ → Type 0
IsInRange digits = number_of digits < 2 ^ 31

in_range : (digits : List ℕ) → is_too_great digits ≡ false → IsInRange digits
in_range digits h =
    let le : number_of digits ≤ 2147483647 = ltb-false 2147483647 (number_of digits) h in omega (arith, le)

pub constants_in_range : (r : Symbols) (s : ShapeTree) → has_too_great r s ≡ false → AllByRecursion (λ x. AllByRecursion IsInRange (numbers_in x.expr)) (expected_in r.names s)
constants_in_range r s h =
    let all = none_any is_too_great (flat_map (λ x. numbers_in x.expr) (expected_in r.names s) ++ data_numbers s) h in
    let front = (all_parts (λ digits. is_too_great digits ≡ false) (flat_map (λ x. numbers_in x.expr) (expected_in r.names s)) (data_numbers s) all).0 in
    each_of IsInRange (expected_in r.names s) (all_turned (λ digits. is_too_great digits ≡ false) IsInRange in_range (flat_map (λ x. numbers_in x.expr) (expected_in r.names s)) front)

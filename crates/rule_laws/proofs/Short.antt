-- What stands in a short statement is short.
use Rattle.std.proofs.Common.{◌≡◌, ◌≤◌, ℕ, ◌-◌, Bool, true, false, ◌&&◌, List, [], ◌∷◌, ◌++◌, append_assoc, length, length-append, map, Option, Some, None, refl, sym, subst, arith}
use Rattle.std.specs.Prelude.{codes, if◌then◌else◌, is_some, nat_le, nat_lt}
use Rattle.std.specs.List.{AllByRecursion, list_all}
use Rattle.std.proofs.lemmas.Bool.{leb-true}
use Rattle.meaning.specs.Characters.{is_digit, is_number, number_of}
use Rattle.meaning.specs.LabelRules.{transfers_of}
use Rattle.meaning.specs.Scopes.{Definition, defined_before, defined_by, definition_if, definitions_of, is_specification, listed}
use Rattle.meaning.specs.Spelling.{AreWellItems, AreWellSubscripts, IsWell, IsWellExpr, IsWellLabel, IsWellLimits, IsWellStep, joined, spell, spell_comma, spell_control, spell_expr, spell_exprs, spell_behind, spell_item, spell_items, spell_items_behind, spell_label, spell_limits, spell_range_label, spell_source, spell_step, spell_subscripts}
use Rattle.meaning.specs.Syntax.{ExprTree, name, element, ExprsTree, no_exprs, exprs, ItemTree, LimitsTree, ListItemsTree, no_items, more_items, value_item, loop_item, ShapeTree, arithmetic_if, assignment, block_if, computed_going, definition, doing, doing_while, else_if, going, logical_if, printing, writing}
use Rattle.meaning.specs.Typing.{option_list}
use Rattle.meaning.specs.Values.{Arrays}
use Rattle.rule_laws.specs.Evaluated.{evaluated, in_item, in_items, in_limits}
use Rattle.rule_laws.specs.Read.{IsRead, IsShort, elements_set}
use Rattle.rule_laws.proofs.Tests.{all_both, all_turned, and_true}

-- ---- parts of texts

module _ (m : ℕ) where
  abbrev Fits : List ℕ → Type 0
  Fits text = length text ≤ m

  front : (xs ys : List ℕ) → Fits (xs ++ ys) → Fits xs
  front xs ys h = let whole = length-append xs ys in omega (arith, h, whole)

  back : (xs ys : List ℕ) → Fits (xs ++ ys) → Fits ys
  back xs ys h = let whole = length-append xs ys in omega (arith, h, whole)

  tail : (x : ℕ) (xs : List ℕ) → Fits (x ∷ xs) → Fits xs
  tail x xs h = omega (arith, h)

  -- ---- expressions

  pub record IsPart (e : ExprTree) : Type 0 where
    pub well : IsWellExpr e
    pub short : length (spell_expr e) ≤ m

  part : (e : ExprTree) → IsWellExpr e → Fits (spell_expr e) → IsPart e
  part e h k = record { well = h; short = k }

  listed_parts : (es : ExprsTree) → AreWellSubscripts es → Fits (spell_behind es) → AllByRecursion IsPart (listed es)
  listed_parts no_exprs h k = tt
  listed_parts (exprs e es) h k =
      let rest = tail 44 (spell_expr e ++ spell_behind es) k in
      (part e h.0 (front (spell_expr e) (spell_behind es) rest), listed_parts es h.1 (back (spell_expr e) (spell_behind es) rest))

  step_parts : (o : Option ExprTree) → IsWellStep o → Fits (spell_step o) → AllByRecursion IsPart (option_list o)
  step_parts None h k = tt
  step_parts (Some e) h k = (part e h (tail 44 (spell_expr e) k), tt)

  limit_parts : (l : LimitsTree) → IsWellLimits l → Fits (spell_limits l) → AllByRecursion IsPart (in_limits l)
  limit_parts l h k =
      let rest = tail 44 (spell_expr l.last ++ spell_step l.step) (back (spell_expr l.first) (44 ∷ (spell_expr l.last ++ spell_step l.step)) k) in
      (part l.first h.0 (front (spell_expr l.first) _ k), (part l.last h.1.0 (front (spell_expr l.last) (spell_step l.step) rest), step_parts l.step h.1.1 (back (spell_expr l.last) (spell_step l.step) rest)))

  -- ---- items

  with_comma : (c : ℕ) (list : ListItemsTree) → Fits (c ∷ spell_items list) → Fits (spell_items_behind list)
  with_comma c no_items h = tail c [] h
  with_comma c (more_items x xs) h = h

  module _ (arrays : Arrays) where
    name_part : (n : List ℕ) (b : Bool) → IsPart (name n) → AllByRecursion IsPart (if b then [] else name n ∷ [])
    name_part n true h = tt
    name_part n false h = (h, tt)

    item_part : (e : ExprTree) → IsPart e → AllByRecursion IsPart (in_item arrays e)
    item_part (name n) h = name_part n (is_some (arrays n)) h
    item_part e h = (h, tt)

    item_parts : (least : ℕ) (list : ListItemsTree) → AreWellItems least list → Fits (spell_items_behind list) → AllByRecursion IsPart (in_items arrays list)
    item_parts least no_items h k = tt
    item_parts least (more_items (value_item e) xs) h k =
        let rest = tail 44 (spell_expr e ++ spell_items_behind xs) k in
        all_both IsPart (in_item arrays e) (in_items arrays xs) (item_part e (part e h.0.0 (front (spell_expr e) (spell_items_behind xs) rest)))
        (item_parts least xs h.1 (back (spell_expr e) (spell_items_behind xs) rest))
    item_parts least (more_items (loop_item ys variable limits) xs) h k =
        let item = spell_item (loop_item ys variable limits) in
        let rest = tail 44 (item ++ spell_items_behind xs) k in
        let inside = front (40 ∷ (spell_items ys ++ (44 ∷ (variable ++ (61 ∷ spell_limits limits))))) (41 ∷ []) (front item (spell_items_behind xs) rest) in
        let behind = tail 61 (spell_limits limits) (back variable (61 ∷ spell_limits limits) (tail 44 _ (back (40 ∷ spell_items ys) (44 ∷ (variable ++ (61 ∷ spell_limits limits))) inside))) in
        all_both IsPart (in_items arrays ys) (in_limits limits ++ in_items arrays xs) (item_parts least ys h.0.1.0 (with_comma 40 ys (front (40 ∷ spell_items ys) (44 ∷ (variable ++ (61 ∷ spell_limits limits))) inside)))
        (all_both IsPart (in_limits limits) (in_items arrays xs) (limit_parts limits h.0.1.1.1 behind) (item_parts least xs h.1 (back item (spell_items_behind xs) rest)))

    -- ---- statements

    subscripts_behind : (es : ExprsTree) (rest : List ℕ) → Fits (40 ∷ (spell_exprs es ++ rest)) → Fits (spell_behind es)
    subscripts_behind no_exprs rest h = omega arith
    subscripts_behind (exprs e es) rest h = front (40 ∷ (spell_expr e ++ spell_behind es)) rest h

    target_parts : (b : Bool) (d e : ExprTree) (ds : ExprsTree) → AreWellSubscripts (exprs d ds) → IsWellExpr e → Fits (spell_behind (exprs d ds)) → Fits (spell_expr e) → AllByRecursion IsPart (if b then d ∷ (listed ds ++ e ∷ []) else [])
    target_parts true d e ds h k all one =
        let parts = listed_parts (exprs d ds) h all in
        (parts.0, all_both IsPart (listed ds) (e ∷ []) parts.1 (part e k one, tt))
    target_parts false d e ds h k all one = tt

    pub statement_parts : (s : ShapeTree) → IsWell s → Fits (spell s) → AllByRecursion IsPart (evaluated arrays s)
    statement_parts (assignment n no_exprs e) h k = (part e h.1.1 (tail 61 (spell_expr e) (back n (61 ∷ spell_expr e) k)), tt)
    statement_parts (assignment n (exprs d ds) e) h k =
        let behind = back n (spell_subscripts (exprs d ds) ++ (61 ∷ spell_expr e)) k in
        target_parts (is_some (arrays n)) d e ds h.1.0 h.1.1 (subscripts_behind (exprs d ds) (41 ∷ []) (front (spell_subscripts (exprs d ds)) (61 ∷ spell_expr e) behind))
        (tail 61 (spell_expr e) (back (spell_subscripts (exprs d ds)) (61 ∷ spell_expr e) behind))
    statement_parts (writing control list) h k =
        item_parts 0 list h.1 (with_comma 41 list (back (spell_control control) (41 ∷ spell_items list) (back (codes "WRITE(") _ k)))
    statement_parts (printing source list) h k =
        item_parts 0 list h.1 (back (spell_source source) (spell_items_behind list) (back (codes "PRINT") _ k))
    statement_parts (doing label comma variable limits) h k =
        limit_parts limits h.1.1 (tail 61 (spell_limits limits) (back variable (61 ∷ spell_limits limits) (back (spell_range_label label comma) _ (back (codes "DO") _ k))))
    statement_parts (doing_while label comma e) h k =
        (part e h.1 (front (spell_expr e) (41 ∷ []) (back (codes "WHILE(") _ (back (spell_range_label label comma) _ (back (codes "DO") _ k)))), tt)
    statement_parts (computed_going labels comma e) h k =
        (part e h.1 (back (spell_comma comma) (spell_expr e) (tail 41 _ (back (joined spell_label labels) _ (back (codes "GOTO(") _ k)))), tt)
    statement_parts (arithmetic_if e negative zeroed positive) h k = (part e h.0 (front (spell_expr e) _ (back (codes "IF(") _ k)), tt)
    statement_parts (logical_if e s) h k =
        let rest = back (codes "IF(") (spell_expr e ++ (41 ∷ spell s)) k in
        (part e h.0 (front (spell_expr e) (41 ∷ spell s) rest), statement_parts s h.1.1 (tail 41 (spell s) (back (spell_expr e) (41 ∷ spell s) rest)))
    statement_parts (block_if e) h k = (part e h (front (spell_expr e) _ (back (codes "IF(") _ k)), tt)
    statement_parts (else_if e) h k = (part e h (front (spell_expr e) _ (back (codes "ELSEIF(") _ k)), tt)
    statement_parts s h k = tt

    pub element_parts : (s : ShapeTree) → IsWell s → Fits (spell s) → AllByRecursion IsPart (elements_set s)
    element_parts (assignment n no_exprs e) h k = tt
    element_parts (assignment n (exprs d ds) e) h k =
        let es = exprs d ds in
        let all = append_assoc n (spell_subscripts es) (61 ∷ spell_expr e) in
        (part (element n es) (h.0, (refl, h.1.0)) (front (n ++ spell_subscripts es) (61 ∷ spell_expr e) (subst Fits (sym all) k)), tt)
    element_parts (logical_if e s) h k =
        let rest = back (codes "IF(") (spell_expr e ++ (41 ∷ spell s)) k in
        element_parts s h.1.1 (tail 41 (spell s) (back (spell_expr e) (41 ∷ spell s) rest))
    element_parts s h k = tt

    pub body_part : (s : ShapeTree) (d : Definition) → defined_by arrays s ≡ Some d → IsWell s → Fits (spell s) → IsPart d.body
    body_part (assignment n no_exprs e) d is h k = absurd cc
    body_part (assignment n (exprs e es) body) d is h k = by (is_some (arrays n)) is
      where
        by : (b : Bool) → definition_if b n (e ∷ listed es) body ≡ Some d → IsPart d.body
        by true is = absurd cc
        by false is =
            let same : record { name = n; dummies = e ∷ listed es; body = body } ≡ d = cc in
            subst (λ (x : Definition). IsPart x.body) same (part body h.1.1 (tail 61 (spell_expr body) (back (spell_subscripts (exprs e es)) (61 ∷ spell_expr body) (back n _ k))))
    body_part (definition n body) d is h k = by (is_some (arrays n)) is
      where
        by : (b : Bool) → definition_if b n [] body ≡ Some d → IsPart d.body
        by true is = absurd cc
        by false is =
            let same : record { name = n; dummies = []; body = body } ≡ d = cc in
            subst (λ (x : Definition). IsPart x.body) same (part body h.1 (back (codes "()=") (spell_expr body) (back n _ k)))
    body_part s d is h k = absurd cc

short : (e : ExprTree) → IsPart 1320 e → IsShort e
short e p = record { well = p.well; short = p.short }

pub evaluated_short : (arrays : Arrays) (s : ShapeTree) → IsRead s → AllByRecursion IsShort (evaluated arrays s)
evaluated_short arrays s r = all_turned (IsPart 1320) IsShort short (evaluated arrays s) (statement_parts 1320 arrays s r.well r.short)

pub set_short : (s : ShapeTree) → IsRead s → AllByRecursion IsShort (elements_set s)
set_short s r = all_turned (IsPart 1320) IsShort short (elements_set s) (element_parts 1320 (λ n. None) s r.well r.short)

-- ---- statement functions

pub bodies_short : (arrays : Arrays) (xs : List ItemTree) → AllByRecursion (λ x. IsRead x.shape) xs → AllByRecursion (λ d. IsShort d.body) (definitions_of arrays xs)
unfolding definitions_of
bodies_short arrays [] h = tt
bodies_short arrays (x ∷ xs) h = by (defined_by arrays x.shape) refl (is_specification x.shape) (bodies_short arrays xs h.1)
  where
    by : (o : Option Definition) → defined_by arrays x.shape ≡ o → (b : Bool) → AllByRecursion (λ d. IsShort d.body) (definitions_of arrays xs) → AllByRecursion (λ d. IsShort d.body) (defined_before o b (definitions_of arrays xs))
    by (Some d) is b rest = (short d.body (body_part 1320 arrays x.shape d is h.0.well h.0.short), rest)
    by None is true rest = rest
    by None is false rest = tt

-- ---- labels

digit_small : (c : ℕ) → is_digit c ≡ true → c - 48 ≤ 9
digit_small c h = let most = leb-true c 57 (and_true (nat_le 48 c) (nat_le c 57) h).1 in omega (arith, most)

digits_small : (digits : List ℕ) → list_all is_digit digits ≡ true → length digits ≤ 5 → number_of digits ≤ 99999
digits_small [] h few = omega arith
digits_small (a ∷ []) h few =
    let i = digit_small a (and_true (is_digit a) _ h).0 in omega (arith, i)
digits_small (a ∷ b ∷ []) h few =
    let p = and_true (is_digit a) _ h in
    let q = and_true (is_digit b) _ p.1 in
    let i = digit_small a p.0 in let j = digit_small b q.0 in omega (arith, i, j)
digits_small (a ∷ b ∷ c ∷ []) h few =
    let p = and_true (is_digit a) _ h in
    let q = and_true (is_digit b) _ p.1 in
    let r = and_true (is_digit c) _ q.1 in
    let i = digit_small a p.0 in let j = digit_small b q.0 in let k = digit_small c r.0 in omega (arith, i, j, k)
digits_small (a ∷ b ∷ c ∷ d ∷ []) h few =
    let p = and_true (is_digit a) _ h in
    let q = and_true (is_digit b) _ p.1 in
    let r = and_true (is_digit c) _ q.1 in
    let s = and_true (is_digit d) _ r.1 in
    let i = digit_small a p.0 in let j = digit_small b q.0 in let k = digit_small c r.0 in let l = digit_small d s.0 in omega (arith, i, j, k, l)
digits_small (a ∷ b ∷ c ∷ d ∷ e ∷ []) h few =
    let p = and_true (is_digit a) _ h in
    let q = and_true (is_digit b) _ p.1 in
    let r = and_true (is_digit c) _ q.1 in
    let s = and_true (is_digit d) _ r.1 in
    let t = and_true (is_digit e) _ s.1 in
    let i = digit_small a p.0 in let j = digit_small b q.0 in let k = digit_small c r.0 in let l = digit_small d s.0 in let n = digit_small e t.0 in omega (arith, i, j, k, l, n)
digits_small (a ∷ b ∷ c ∷ d ∷ e ∷ f ∷ digits) h few = absurd (omega (arith, few))

label_small : (label : List ℕ) → IsWellLabel label → number_of label ≤ 99999
label_small label h =
    let p = and_true (is_number label && nat_le (length label) 5) _ h in
    let q = and_true (is_number label) (nat_le (length label) 5) p.0 in
    digits_small label (and_true (nat_lt 0 (length label)) (list_all is_digit label) q.0).1 (leb-true (length label) 5 q.1)

pub transfers_small : (s : ShapeTree) → IsWell s → AllByRecursion (λ n. n ≤ 99999) (transfers_of s)
transfers_small (going label) h = (label_small label h, tt)
transfers_small (computed_going labels comma e) h = each labels h.0.1
  where
    each : (ls : List (List ℕ)) → AllByRecursion IsWellLabel ls → AllByRecursion (λ n. n ≤ 99999) (map number_of ls)
    each [] k = tt
    each (l ∷ ls) k = (label_small l k.0, each ls k.1)
transfers_small (arithmetic_if e negative zeroed positive) h =
    (label_small negative h.1.0, (label_small zeroed h.1.1.0, (label_small positive h.1.1.1, tt)))
transfers_small (logical_if e s) h = transfers_small s h.1.1
transfers_small s h = tt

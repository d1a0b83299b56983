-- A statement uses no more names than it has characters.
use Rattle.std.proofs.Common.{◌≤◌, ℕ, ◌+◌, Bool, true, false, cond, List, [], ◌∷◌, ◌++◌, append-nil, length, length-append, map, Option, Some, None, sym, subst, arith}
use Rattle.std.specs.Prelude.{IsTrue, codes, flat_map, if◌then◌else◌, not}
use Rattle.std.specs.List.{AllByRecursion, filter}
use Rattle.std.proofs.lemmas.Bool.{true≢false}
use Rattle.meaning.specs.declared.syntax.ControlOrder.{ControlOrder}
use Rattle.meaning.specs.declared.syntax.ControlOrder.TheVariants as orders
use Rattle.meaning.specs.Characters.{is_name}
use Rattle.meaning.specs.Scopes.{declarators_in, is_dummy, listed}
use Rattle.meaning.specs.Spelling.{AreWellItems, AreWellSubscripts, IsWell, IsWellArray, IsWellBounds, IsWellConstant, IsWellDataConstant, IsWellDataSet, IsWellDataValue, IsWellDeclarator, IsWellExpr, IsWellLimits, IsWellRepeat, IsWellStep, IsWellUnit, joined, joined_more, operator_text, sign_byte, spell, spell_behind, spell_bounds, spell_comma, spell_constant, spell_control, spell_control_by, spell_data_constant, spell_data_set, spell_data_sets, spell_data_value, spell_declarator, spell_declarators, spell_dimensions, spell_expr, spell_exprs, spell_item, spell_items, spell_items_behind, spell_label, spell_limits, spell_lower, spell_more_bounds, spell_more_declarators, spell_range_label, spell_repeat, spell_source, spell_step, spell_subscripts, spell_unit}
use Rattle.meaning.specs.Syntax.{ExprTree, number, truth, name, signed, negated, binary, paren, element, call, ExprsTree, no_exprs, exprs, BoundsTree, ConstantTree, DataConstantTree, data_number, data_truth, data_name, DataSetTree, DataValueTree, DeclaratorTree, FormatTree, LimitsTree, ListItemsTree, no_items, more_items, value_item, loop_item, RepeatTree, repeat_number, repeat_name, UnitTree, star, unit_number, ShapeTree, arithmetic_if, assignment, block_if, computed_going, definition, dimensioning, doing, doing_while, else_if, initializing, logical_if, logical_typing, parameter, printing, typing, writing}
use Rattle.meaning.specs.Typing.{expected, in_bounds, integer_type, option_list}
use Rattle.meaning.specs.Uses.{Symbols, Use, bare_use, count, data_constant_uses, data_item_sets, data_item_uses, data_set_uses, data_value_uses, given_uses, is_array, is_variable_of, item_uses, limit_uses, parts_of, repeat_uses, subscript_uses, target_use, unit_uses, use_with, uses_in, uses_in_all, value_uses, without}

abbrev pub Few : {A : Type 0} → List A → List ℕ → Type 0
Few us text = length us ≤ length text

few_both : {A : Type 0} (a b : List A) (x y : List ℕ) → Few a x → Few b y → Few (a ++ b) (x ++ y)
few_both a b x y h k =
    let p = length-append a b in let q = length-append x y in omega (arith, h, k, p, q)

few_front : {A : Type 0} (a : List A) (x y : List ℕ) → Few a x → Few a (x ++ y)
few_front a x y h = let q = length-append x y in omega (arith, h, q)

few_back : {A : Type 0} (a : List A) (x y : List ℕ) → Few a y → Few a (x ++ y)
few_back a x y h = let q = length-append x y in omega (arith, h, q)

few_cons : {A : Type 0} (a : List A) (c : ℕ) (x : List ℕ) → Few a x → Few a (c ∷ x)
few_cons a c x h = omega (arith, h)

few_nil : {A : Type 0} (a : List A) (x : List ℕ) → Few a x → Few (a ++ []) x
few_nil a x h = subst (λ b. length b ≤ length x) (sym (append-nil a)) h

few_filter : {A : Type 0} (test : A → Bool) (a : List A) (x : List ℕ) → Few a x → Few (filter test a) x
few_filter {A = A} test a x h = let less = shorter a in omega (arith, h, less)
  where
    shorter : (ys : List A) → length (filter test ys) ≤ length ys
    shorter [] = omega arith
    shorter (y ∷ ys) = by (test y) (shorter ys)
      where
        by : (b : Bool) → length (filter test ys) ≤ length ys → length (cond b (y ∷ filter test ys) (filter test ys)) ≤ length (y ∷ ys)
        by true k = omega (arith, k)
        by false k = omega (arith, k)

some_name : (n : List ℕ) → IsTrue (is_name n) → 1 ≤ length n
some_name [] h = absurd (true≢false (sym h))
some_name (c ∷ cs) h = omega arith

-- ---- expressions

mutual
  pub expr_few : (e : ExprTree) → IsWellExpr e → Few (uses_in e) (spell_expr e)
  expr_few (number digits) h = omega arith
  expr_few (truth b) h = omega arith
  expr_few (name n) h = some_name n h
  expr_few (signed sign e) h = few_cons (uses_in e) (sign_byte sign) (spell_expr e) (expr_few e h.0)
  expr_few (negated e) h = few_back (uses_in e) (codes ".NOT.") (spell_expr e) (expr_few e h.0)
  expr_few (binary o a b) h =
      few_both (uses_in a) (uses_in b) (spell_expr a) (operator_text o ++ spell_expr b) (expr_few a h.0) (few_back (uses_in b) (operator_text o) (spell_expr b) (expr_few b h.1.0))
  expr_few (paren e) h = few_cons (uses_in e) 40 (spell_expr e ++ 41 ∷ []) (few_front (uses_in e) (spell_expr e) (41 ∷ []) (expr_few e h))
  expr_few (element n es) h =
      few_both (use_with n (count es) ∷ []) (uses_in_all es) n (40 ∷ (spell_exprs es ++ 41 ∷ [])) (some_name n h.0)
      (few_cons (uses_in_all es) 40 (spell_exprs es ++ 41 ∷ []) (few_front (uses_in_all es) (spell_exprs es) (41 ∷ []) (exprs_few es h.1.1)))
  expr_few (call n) h = few_front (use_with n 0 ∷ []) n (codes "()") (some_name n h)

  exprs_few : (es : ExprsTree) → AreWellSubscripts es → Few (uses_in_all es) (spell_exprs es)
  exprs_few no_exprs h = omega arith
  exprs_few (exprs e es) h = few_both (uses_in e) (uses_in_all es) (spell_expr e) (spell_behind es) (expr_few e h.0) (behind_few es h.1)

  behind_few : (es : ExprsTree) → AreWellSubscripts es → Few (uses_in_all es) (spell_behind es)
  behind_few no_exprs h = omega arith
  behind_few (exprs e es) h =
      few_cons (uses_in e ++ uses_in_all es) 44 (spell_expr e ++ spell_behind es) (few_both (uses_in e) (uses_in_all es) (spell_expr e) (spell_behind es) (expr_few e h.0) (behind_few es h.1))

subscripts_few : (es : ExprsTree) → AreWellSubscripts es → Few (uses_in_all es) (spell_subscripts es)
subscripts_few no_exprs h = omega arith
subscripts_few (exprs e es) h =
    few_cons (uses_in_all (exprs e es)) 40 (spell_exprs (exprs e es) ++ 41 ∷ []) (few_front (uses_in_all (exprs e es)) (spell_exprs (exprs e es)) (41 ∷ []) (exprs_few (exprs e es) h))

step_few : (o : Option ExprTree) → IsWellStep o → Few (flat_map uses_in (option_list o)) (spell_step o)
step_few None h = omega arith
step_few (Some e) h = few_cons (uses_in e ++ []) 44 (spell_expr e) (few_nil (uses_in e) (spell_expr e) (expr_few e h))

limits_few : (l : LimitsTree) → IsWellLimits l → Few (limit_uses l) (spell_limits l)
limits_few l h =
    let behind = uses_in l.last ++ flat_map uses_in (option_list l.step) in
    few_both (uses_in l.first) behind (spell_expr l.first) (44 ∷ (spell_expr l.last ++ spell_step l.step)) (expr_few l.first h.0)
    (few_cons behind 44 (spell_expr l.last ++ spell_step l.step) (few_both (uses_in l.last) (flat_map uses_in (option_list l.step)) (spell_expr l.last) (spell_step l.step) (expr_few l.last h.1.0) (step_few l.step h.1.1)))

-- ---- items

one_comma : (list : ListItemsTree) → length (spell_items_behind list) ≤ 1 + length (spell_items list)
one_comma no_items = omega arith
one_comma (more_items x xs) = omega arith

-- an implied DO, of which so many uses stand in its items and in its limits, and what stands behind it
loop_few : {A : Type 0} (ys : ListItemsTree) (n : List ℕ) (l : LimitsTree) (xs : ListItemsTree) (a b c d : List A) → Few a (spell_items_behind ys) → length b ≤ 1 → Few c (spell_limits l) → Few d (spell_items_behind xs)
    → Few (a ++ (b ++ (c ++ d))) (spell_items_behind (more_items (loop_item ys n l) xs))
loop_few ys n l xs a b c d h one k rest =
    let comma = one_comma ys in
    let p = length-append a (b ++ (c ++ d)) in
    let q = length-append b (c ++ d) in
    let r = length-append c d in
    let t = length-append (spell_item (loop_item ys n l)) (spell_items_behind xs) in
    let u = length-append (spell_items ys ++ (44 ∷ (n ++ (61 ∷ spell_limits l)))) (41 ∷ []) in
    let v = length-append (spell_items ys) (44 ∷ (n ++ (61 ∷ spell_limits l))) in
    let w = length-append n (61 ∷ spell_limits l) in
    omega (arith, comma, h, one, k, rest, p, q, r, t, u, v, w)

module _ (r : Symbols) where
  name_few : (n : List ℕ) (b : Bool) → IsTrue (is_name n) → Few (if b then [] else bare_use n ∷ []) n
  name_few n true h = omega arith
  name_few n false h = some_name n h

  value_few : (e : ExprTree) → IsWellExpr e → Few (value_uses r e) (spell_expr e)
  value_few (name n) h = name_few n (is_array r n) h
  value_few e h = expr_few e h

  items_few : (least : ℕ) (list : ListItemsTree) → AreWellItems least list → Few (item_uses r list) (spell_items_behind list)
  items_few least no_items h = omega arith
  items_few least (more_items (value_item e) xs) h =
      few_cons (value_uses r e ++ item_uses r xs) 44 (spell_expr e ++ spell_items_behind xs) (few_both (value_uses r e) (item_uses r xs) (spell_expr e) (spell_items_behind xs) (value_few e h.0.0) (items_few least xs h.1))
  items_few least (more_items (loop_item ys n l) xs) h =
      loop_few ys n l xs (item_uses r ys) (bare_use n ∷ []) (limit_uses l) (item_uses r xs) (items_few least ys h.0.1.0) (omega arith) (limits_few l h.0.1.1.1) (items_few least xs h.1)

  listed_few : (least : ℕ) (c : ℕ) (list : ListItemsTree) → AreWellItems least list → Few (item_uses r list) (c ∷ spell_items list)
  listed_few least c list h = let k = items_few least list h in let comma = one_comma list in omega (arith, k, comma)

unit_few : (u : UnitTree) → IsWellUnit u → Few (unit_uses u) (spell_unit u)
unit_few star h = omega arith
unit_few (unit_number e) h = expr_few e h

control_few : (o : ControlOrder) (u : UnitTree) (f : FormatTree) → IsWellUnit u → Few (unit_uses u) (spell_control_by o u f)
control_few orders.Plain u f h = few_front (unit_uses u) (spell_unit u) _ (unit_few u h)
control_few orders.FormatNamed u f h = few_front (unit_uses u) (spell_unit u) _ (unit_few u h)
control_few orders.UnitFirst u f h = few_back (unit_uses u) (codes "UNIT=") _ (few_front (unit_uses u) (spell_unit u) _ (unit_few u h))
control_few orders.FormatFirst u f h =
    few_back (unit_uses u) (codes "FMT=") _ (few_back (unit_uses u) (spell_source f) _ (few_back (unit_uses u) (codes ",UNIT=") (spell_unit u) (unit_few u h)))

-- ---- several with commas between

module _ {A : Type 0} (uses : A → List Use) (spelling : A → List ℕ) (IsWellOne : A → Type 0) (few : (x : A) → IsWellOne x → Few (uses x) (spelling x)) where
  more_few : (xs : List A) → AllByRecursion IsWellOne xs → Few (flat_map uses xs) (joined_more spelling xs)
  more_few [] h = omega arith
  more_few (x ∷ xs) h =
      few_cons (uses x ++ flat_map uses xs) 44 (spelling x ++ joined_more spelling xs) (few_both (uses x) (flat_map uses xs) (spelling x) (joined_more spelling xs) (few x h.0) (more_few xs h.1))

  joined_few : (xs : List A) → AllByRecursion IsWellOne xs → Few (flat_map uses xs) (joined spelling xs)
  joined_few [] h = omega arith
  joined_few (x ∷ xs) h = few_both (uses x) (flat_map uses xs) (spelling x) (joined_more spelling xs) (few x h.0) (more_few xs h.1)

constant_few : (c : ConstantTree) → IsWellConstant c → Few (uses_in c.value) (spell_constant c)
constant_few c h = few_back (uses_in c.value) c.name (61 ∷ spell_expr c.value) (few_cons (uses_in c.value) 61 (spell_expr c.value) (expr_few c.value h.1))

-- ---- bounds

abbrev bound_uses : BoundsTree → List Use
bound_uses b = flat_map (λ x. uses_in x.expr) (in_bounds b)

abbrev all_bound_uses : List BoundsTree → List Use
all_bound_uses bs = flat_map bound_uses bs

bound_few : (o : Option ExprTree) (e : ExprTree) → IsWellStep o → IsWellExpr e → Few (flat_map (λ x. uses_in x.expr) (map (expected integer_type) (option_list o ++ e ∷ []))) (spell_lower o ++ spell_expr e)
bound_few None e h k = few_nil (uses_in e) (spell_expr e) (expr_few e k)
bound_few (Some d) e h k =
    few_both (uses_in d) (uses_in e ++ []) (spell_expr d ++ 58 ∷ []) (spell_expr e) (few_front (uses_in d) (spell_expr d) (58 ∷ []) (expr_few d h)) (few_nil (uses_in e) (spell_expr e) (expr_few e k))

more_bounds_few : (bs : List BoundsTree) → AllByRecursion IsWellBounds bs → Few (all_bound_uses bs) (spell_more_bounds bs)
more_bounds_few [] h = omega arith
more_bounds_few (b ∷ bs) h =
    few_cons (bound_uses b ++ all_bound_uses bs) 44 (spell_bounds b ++ spell_more_bounds bs) (few_both (bound_uses b) (all_bound_uses bs) (spell_bounds b) (spell_more_bounds bs) (bound_few b.lower b.upper h.0.0 h.0.1) (more_bounds_few bs h.1))

dimensions_few : (bs : List BoundsTree) → AllByRecursion IsWellBounds bs → Few (all_bound_uses bs) (spell_dimensions bs)
dimensions_few [] h = omega arith
dimensions_few (b ∷ bs) h =
    few_cons (bound_uses b ++ all_bound_uses bs) 40 (spell_bounds b ++ (spell_more_bounds bs ++ 41 ∷ [])) (few_both (bound_uses b) (all_bound_uses bs) (spell_bounds b) (spell_more_bounds bs ++ 41 ∷ []) (bound_few b.lower b.upper h.0.0 h.0.1)
    (few_front (all_bound_uses bs) (spell_more_bounds bs) (41 ∷ []) (more_bounds_few bs h.1)))

abbrev declarator_uses : List DeclaratorTree → List Use
declarator_uses ds = flat_map (λ d. all_bound_uses d.bounds) ds

declarator_few : (d : DeclaratorTree) → IsWellDeclarator d → Few (all_bound_uses d.bounds) (spell_declarator d)
declarator_few d h = few_back (all_bound_uses d.bounds) d.name (spell_dimensions d.bounds) (dimensions_few d.bounds h.1)

more_declarators_few : (ds : List DeclaratorTree) → AllByRecursion IsWellDeclarator ds → Few (declarator_uses ds) (spell_more_declarators ds)
more_declarators_few [] h = omega arith
more_declarators_few (d ∷ ds) h =
    few_cons (all_bound_uses d.bounds ++ declarator_uses ds) 44 (spell_declarator d ++ spell_more_declarators ds) (few_both (all_bound_uses d.bounds) (declarator_uses ds) (spell_declarator d) (spell_more_declarators ds) (declarator_few d h.0) (more_declarators_few ds h.1))

declarators_few : (ds : List DeclaratorTree) → AllByRecursion IsWellDeclarator ds → Few (declarator_uses ds) (spell_declarators ds)
declarators_few [] h = omega arith
declarators_few (d ∷ ds) h =
    few_both (all_bound_uses d.bounds) (declarator_uses ds) (spell_declarator d) (spell_more_declarators ds) (declarator_few d h.0) (more_declarators_few ds h.1)

-- the names that are declared
more_named : (ds : List DeclaratorTree) → AllByRecursion IsWellDeclarator ds → Few ds (spell_more_declarators ds)
more_named [] h = omega arith
more_named (d ∷ ds) h =
    few_cons (d ∷ ds) 44 (spell_declarator d ++ spell_more_declarators ds) (few_both (d ∷ []) ds (spell_declarator d) (spell_more_declarators ds) (few_front (d ∷ []) d.name (spell_dimensions d.bounds) (some_name d.name h.0.0)) (more_named ds h.1))

all_named : (ds : List DeclaratorTree) → AllByRecursion IsWellDeclarator ds → Few ds (spell_declarators ds)
all_named [] h = omega arith
all_named (d ∷ ds) h =
    few_both (d ∷ []) ds (spell_declarator d) (spell_more_declarators ds) (few_front (d ∷ []) d.name (spell_dimensions d.bounds) (some_name d.name h.0.0)) (more_named ds h.1)

arrays_well : (ds : List DeclaratorTree) → AllByRecursion IsWellArray ds → AllByRecursion IsWellDeclarator ds
arrays_well [] h = tt
arrays_well (d ∷ ds) h = (h.0.1, arrays_well ds h.1)

-- ---- DATA statements

few_subscripts : (e : ExprTree) → IsWellExpr e → Few (subscript_uses e) (spell_expr e)
few_subscripts (element n es) h =
    few_back (uses_in_all es) n (40 ∷ (spell_exprs es ++ 41 ∷ [])) (few_cons (uses_in_all es) 40 (spell_exprs es ++ 41 ∷ []) (few_front (uses_in_all es) (spell_exprs es) (41 ∷ []) (exprs_few es h.1.1)))
few_subscripts e h = omega arith

data_items_few : (least : ℕ) (list : ListItemsTree) → AreWellItems least list → Few (data_item_uses list) (spell_items_behind list)
data_items_few least no_items h = omega arith
data_items_few least (more_items (value_item e) xs) h =
    few_cons (subscript_uses e ++ data_item_uses xs) 44 (spell_expr e ++ spell_items_behind xs) (few_both (subscript_uses e) (data_item_uses xs) (spell_expr e) (spell_items_behind xs) (few_subscripts e h.0.0) (data_items_few least xs h.1))
data_items_few least (more_items (loop_item ys n l) xs) h =
    loop_few ys n l xs (without n (data_item_uses ys)) [] (limit_uses l) (data_item_uses xs) (few_filter (λ u. not (is_variable_of n u)) (data_item_uses ys) (spell_items_behind ys) (data_items_few least ys h.0.1.0)) (omega arith) (limits_few l h.0.1.1.1) (data_items_few least xs h.1)

repeat_few : (o : Option RepeatTree) → IsWellRepeat o → Few (flat_map repeat_uses (option_list o)) (spell_repeat o)
repeat_few None h = omega arith
repeat_few (Some (repeat_number digits)) h = omega arith
repeat_few (Some (repeat_name n)) h = few_front (bare_use n ∷ []) n (codes "*") (some_name n h)

given_few : (c : DataConstantTree) → IsWellDataConstant c → Few (data_constant_uses c) (spell_data_constant c)
given_few (data_number sign digits) h = omega arith
given_few (data_truth b) h = omega arith
given_few (data_name n) h = some_name n h

value_given_few : (v : DataValueTree) → IsWellDataValue v → Few (data_value_uses v) (spell_data_value v)
value_given_few v h =
    few_both (flat_map repeat_uses (option_list v.repeat_count)) (data_constant_uses v.constant) (spell_repeat v.repeat_count) (spell_data_constant v.constant) (repeat_few v.repeat_count h.0) (given_few v.constant h.1)

set_few : (s : DataSetTree) → IsWellDataSet s → Few (data_set_uses s) (spell_data_set s)
set_few s h =
    let items = data_items_few 8 s.list h.1.0 in
    let comma = one_comma s.list in
    let values = joined_few data_value_uses spell_data_value IsWellDataValue value_given_few s.values h.1.1.1.1 in
    let p = length-append (data_item_uses s.list) (flat_map data_value_uses s.values) in
    let q = length-append (spell_comma s.comma) (spell_items s.list ++ (47 ∷ (joined spell_data_value s.values ++ 47 ∷ []))) in
    let t = length-append (spell_items s.list) (47 ∷ (joined spell_data_value s.values ++ 47 ∷ [])) in
    let u = length-append (joined spell_data_value s.values) (47 ∷ []) in
    omega (arith, items, comma, values, p, q, t, u)

sets_few : (ss : List DataSetTree) → AllByRecursion IsWellDataSet ss → Few (flat_map data_set_uses ss) (spell_data_sets ss)
sets_few [] h = omega arith
sets_few (s ∷ ss) h = few_both (data_set_uses s) (flat_map data_set_uses ss) (spell_data_set s) (spell_data_sets ss) (set_few s h.0) (sets_few ss h.1)

module _ (r : Symbols) where
  few_given : (e : ExprTree) → IsWellExpr e → Few (given_uses r e) (spell_expr e)
  few_given (name n) h = name_few r n (is_array r n) h
  few_given (element n es) h = few_front (use_with n (count es) ∷ []) n _ (some_name n h.0)
  few_given e h = omega arith

  items_set_few : (least : ℕ) (list : ListItemsTree) → AreWellItems least list → Few (data_item_sets r list) (spell_items_behind list)
  items_set_few least no_items h = omega arith
  items_set_few least (more_items (value_item e) xs) h =
      few_cons (given_uses r e ++ data_item_sets r xs) 44 (spell_expr e ++ spell_items_behind xs) (few_both (given_uses r e) (data_item_sets r xs) (spell_expr e) (spell_items_behind xs) (few_given e h.0.0) (items_set_few least xs h.1))
  items_set_few least (more_items (loop_item ys n l) xs) h =
      loop_few ys n l xs (data_item_sets r ys) [] [] (data_item_sets r xs) (items_set_few least ys h.0.1.0) (omega arith) (omega arith) (items_set_few least xs h.1)

  data_set_few : (s : DataSetTree) → IsWellDataSet s → Few (data_item_sets r s.list) (spell_data_set s)
  data_set_few s h =
      let items = items_set_few 8 s.list h.1.0 in
      let comma = one_comma s.list in
      let q = length-append (spell_comma s.comma) (spell_items s.list ++ (47 ∷ (joined spell_data_value s.values ++ 47 ∷ []))) in
      let t = length-append (spell_items s.list) (47 ∷ (joined spell_data_value s.values ++ 47 ∷ [])) in
      omega (arith, items, comma, q, t)

  data_sets_few : (ss : List DataSetTree) → AllByRecursion IsWellDataSet ss → Few (flat_map (λ x. data_item_sets r x.list) ss) (spell_data_sets ss)
  data_sets_few [] h = omega arith
  data_sets_few (s ∷ ss) h =
      few_both (data_item_sets r s.list) (flat_map (λ x. data_item_sets r x.list) ss) (spell_data_set s) (spell_data_sets ss) (data_set_few s h.0) (data_sets_few ss h.1)

  -- ---- statements

  assignment_few : (n : List ℕ) (es : ExprsTree) (e : ExprTree) → AreWellSubscripts es → IsWellExpr e → Few (uses_in_all es ++ uses_in e) (spell (assignment n es e))
  assignment_few n es e h k =
      few_back (uses_in_all es ++ uses_in e) n (spell_subscripts es ++ (61 ∷ spell_expr e)) (few_both (uses_in_all es) (uses_in e) (spell_subscripts es) (61 ∷ spell_expr e) (subscripts_few es h) (few_cons (uses_in e) 61 (spell_expr e) (expr_few e k)))

  pub reads_few : (defines : Bool) (s : ShapeTree) → IsWell s → Few (parts_of r defines s).reads (spell s)
  reads_few true (assignment n es e) h =
      few_filter (λ u. not (is_dummy (listed es) u.name)) (uses_in_all es ++ uses_in e) (spell (assignment n es e)) (assignment_few n es e h.1.0 h.1.1)
  reads_few false (assignment n es e) h = assignment_few n es e h.1.0 h.1.1
  reads_few true (definition n e) h = few_back (uses_in e) n _ (few_back (uses_in e) (codes "()=") (spell_expr e) (expr_few e h.1))
  reads_few false (definition n e) h = few_back (uses_in e) n _ (few_back (uses_in e) (codes "()=") (spell_expr e) (expr_few e h.1))
  reads_few defines (writing control list) h =
      few_back (unit_uses control.unit ++ item_uses r list) (codes "WRITE(") _
      (few_both (unit_uses control.unit) (item_uses r list) (spell_control control) (41 ∷ spell_items list) (control_few control.order control.unit control.source h.0.0) (listed_few r 0 41 list h.1))
  reads_few defines (printing source list) h =
      few_back (item_uses r list) (codes "PRINT") _ (few_back (item_uses r list) (spell_source source) (spell_items_behind list) (items_few r 0 list h.1))
  reads_few defines (doing label comma variable limits) h =
      few_back (limit_uses limits) (codes "DO") _ (few_back (limit_uses limits) (spell_range_label label comma) _ (few_back (limit_uses limits) variable _ (few_cons (limit_uses limits) 61 (spell_limits limits) (limits_few limits h.1.1))))
  reads_few defines (doing_while label comma e) h =
      few_back (uses_in e) (codes "DO") _ (few_back (uses_in e) (spell_range_label label comma) _ (few_back (uses_in e) (codes "WHILE(") _ (few_front (uses_in e) (spell_expr e) (41 ∷ []) (expr_few e h.1))))
  reads_few defines (parameter cs) h =
      few_back (flat_map (λ c. uses_in c.value) cs) (codes "PARAMETER(") _ (few_front (flat_map (λ c. uses_in c.value) cs) (joined spell_constant cs) (41 ∷ []) (joined_few (λ c. uses_in c.value) spell_constant IsWellConstant constant_few cs h.1))
  reads_few defines (initializing sets) h = few_back (flat_map data_set_uses sets) (codes "DATA") (spell_data_sets sets) (sets_few sets h.1)
  reads_few defines (computed_going labels comma e) h =
      few_back (uses_in e) (codes "GOTO(") _ (few_back (uses_in e) (joined spell_label labels) _ (few_cons (uses_in e) 41 _ (few_back (uses_in e) (spell_comma comma) (spell_expr e) (expr_few e h.1))))
  reads_few defines (arithmetic_if e negative zeroed positive) h = few_back (uses_in e) (codes "IF(") _ (few_front (uses_in e) (spell_expr e) _ (expr_few e h.0))
  reads_few defines (logical_if e s) h =
      few_back (uses_in e ++ (parts_of r false s).reads) (codes "IF(") _ (few_both (uses_in e) (parts_of r false s).reads (spell_expr e) (41 ∷ spell s) (expr_few e h.0) (few_cons (parts_of r false s).reads 41 (spell s) (reads_few false s h.1.1)))
  reads_few defines (block_if e) h = few_back (uses_in e) (codes "IF(") _ (few_front (uses_in e) (spell_expr e) _ (expr_few e h))
  reads_few defines (else_if e) h = few_back (uses_in e) (codes "ELSEIF(") _ (few_front (uses_in e) (spell_expr e) _ (expr_few e h))
  reads_few defines (typing ds) h = few_back (declarator_uses ds) (codes "INTEGER") (spell_declarators ds) (declarators_few ds h.1)
  reads_few defines (logical_typing ds) h = few_back (declarator_uses ds) (codes "LOGICAL") (spell_declarators ds) (declarators_few ds h.1)
  reads_few defines (dimensioning ds) h =
      few_back (declarator_uses ds) (codes "DIMENSION") (spell_declarators ds) (declarators_few ds (arrays_well ds h.1))
  reads_few defines s h = omega arith

  target_few : (n : List ℕ) (es : ExprsTree) → IsTrue (is_name n) → Few (target_use n es ∷ []) n
  target_few n no_exprs h = some_name n h
  target_few n (exprs e es) h = some_name n h

  pub what_is_set_few : (defines : Bool) (s : ShapeTree) → IsWell s → Few (parts_of r defines s).sets (spell s)
  what_is_set_few true (assignment n es e) h = omega arith
  what_is_set_few false (assignment n es e) h = few_front (target_use n es ∷ []) n _ (target_few n es h.0)
  what_is_set_few true (definition n e) h = omega arith
  what_is_set_few false (definition n e) h = few_front (use_with n 0 ∷ []) n _ (some_name n h.0)
  what_is_set_few defines (doing label comma variable limits) h = few_front (bare_use variable ∷ []) (codes "DO") _ (omega arith)
  what_is_set_few defines (initializing sets) h =
      few_back (flat_map (λ x. data_item_sets r x.list) sets) (codes "DATA") (spell_data_sets sets) (data_sets_few sets h.1)
  what_is_set_few defines (logical_if e s) h =
      few_back (parts_of r false s).sets (codes "IF(") _ (few_back (parts_of r false s).sets (spell_expr e) (41 ∷ spell s) (few_cons (parts_of r false s).sets 41 (spell s) (what_is_set_few false s h.1.1)))
  what_is_set_few defines s h = omega arith

pub declared_few : (s : ShapeTree) → IsWell s → Few (declarators_in s) (spell s)
declared_few (typing ds) h = few_back ds (codes "INTEGER") (spell_declarators ds) (all_named ds h.1)
declared_few (logical_typing ds) h = few_back ds (codes "LOGICAL") (spell_declarators ds) (all_named ds h.1)
declared_few (dimensioning ds) h = few_back ds (codes "DIMENSION") (spell_declarators ds) (all_named ds (arrays_well ds h.1))
declared_few s h = omega arith

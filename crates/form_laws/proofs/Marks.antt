-- A spelled expression changes nothing of what stands outside parentheses and apostrophes but itself: so the kind of a
-- spelling is its form's.
use Rattle.std.proofs.Common.{length, ◌≡◌, ℕ, ◌+◌, ◌-◌, ◌<◌, ◌≤◌, Bool, true, false, not, ltb, eqb, ◌&&◌, List, [], ◌∷◌, ◌++◌, Option, Some, None, inl, inr, refl, sym, ap, subst, ◌∙◌, append_assoc, arith}
use Rattle.std.specs.List.{list_all, list_any, AllByRecursion}
use Rattle.std.specs.Prelude.{codes, drop, ◌⊎◌}
use Rattle.std.proofs.lemmas.Bool.{cases_Bool, and_parts, ltb-true, ne_eqb, or_right, true≢false, eqb-true}
use Rattle.std.proofs.lemmas.Bool.Decides.{nat_tests}
use Rattle.std.proofs.lemmas.List.{append-nil}
use Rattle.meaning.specs.declared.syntax.Sign.{Sign}
use Rattle.meaning.specs.declared.syntax.Sign.TheVariants as signs
use Rattle.meaning.specs.declared.syntax.Operator.{Operator}
use Rattle.meaning.specs.declared.syntax.Operator.TheVariants as operators
use Rattle.meaning.specs.Characters.{is_digit, is_letter, is_alphanumeric, is_name, is_number, is_label}
use Rattle.meaning.specs.Syntax.{ExprTree, number, truth, name, signed, negated, binary, paren, element, call, ExprsTree, no_exprs, exprs, BoundsTree, DeclaratorTree, UnitTree, star, unit_number, LimitsTree, ListItemTree, value_item, loop_item, ListItemsTree, no_items, more_items, FormatTree, format_label, format_constant, ControlTree, LettersTree, ImplicitTree, ConstantTree, DataConstantTree, data_number, data_truth, data_name, RepeatTree, repeat_number, repeat_name, DataValueTree, DataSetTree, StopTree, stop_silent, stop_digits, stop_text, ShapeTree, assignment, writing, printing, format, doing, continuing, typing, ending, naming, implying, logical_typing, dimensioning, parameter, initializing, definition, going, computed_going, arithmetic_if, logical_if, block_if, else_if, otherwise, end_if, stopping, doing_while, end_do, implicit_none}
use Rattle.meaning.specs.Spelling.{sign_byte, operator_text, truth_text, spell_expr, spell_exprs, spell_behind, IsWellExpr, AreWellSubscripts, spell_unit, IsWellUnit, balanced, spell_step, IsWellStep, spell_limits, IsWellLimits, spell_comma, spell_subscripts, spell_lower, spell_bounds, spell_dimensions, spell_declarator, spell_declarators, IsWellBounds, IsWellDeclarator, spell, IsWell, spell_range_label, IsWellRangeLabel}
use Rattle.meaning.specs.declared.syntax.ControlOrder.{ControlOrder}
use Rattle.meaning.specs.declared.syntax.ControlOrder.TheVariants as orders
use Rattle.meaning.specs.declared.syntax.DataType.{DataType}
use Rattle.meaning.specs.declared.syntax.DataType.TheVariants as types
use Rattle.meaning.specs.declared.syntax.Kind.{Kind}
use Rattle.meaning.specs.declared.syntax.Kind.TheVariants as kinds
use Rattle.meaning.specs.Spelling.{joined_more, joined, spell_letters, spell_last, IsWellLast, IsWellLetters, type_text, spell_implicit, IsWellImplicit, spell_quoted, spell_item, spell_items, spell_items_behind, IsWellItem, AreWellItems, spell_source, IsWellSource, spell_control_by, spell_constant, IsWellConstant, IsWellArray, spell_sign, spell_data_constant, IsWellDataConstant, spell_repeat, IsWellRepeat, spell_data_value, IsWellDataValue, spell_data_set, IsWellDataSet, spell_data_sets, spell_label, IsWellLabel, is_paired, spell_stop, IsWellStop, is_simple}
use Rattle.meaning.specs.Kinds.{marks_at, has_equals, has_limits, behind_closing, begins, behind_digits, behind_comma, kind_by_keyword, kind_by_control_keyword, kind_outside_if, kind_behind_if, kind_of, kind_of_shape}
use Rattle.form_laws.proofs.Joined.{has_some, joined_bounds, joined_declarators, set_regrouped}
use Rattle.meaning.specs.Reading.{Text, run, begins_control}
use Rattle.form_laws.proofs.Words.{run_takes, stops_at}

-- a character that is no apostrophe, parenthesis, comma or equals sign
abbrev pub is_plain : ℕ → Bool
is_plain c = not (eqb c 39) && (not (eqb c 40) && (not (eqb c 41) && (not (eqb c 61) && not (eqb c 44))))

-- a scan that counts parentheses; commas and equals signs change nothing at this depth and deeper
pub record Scans (low : ℕ) (f : ℕ → Text → Text) : Type 0 where
  pub low_is : low ≤ 1
  pub plain : (c depth : ℕ) (rest : Text) → is_plain c ≡ true → f depth (c ∷ rest) ≡ f depth rest
  pub opens : (depth : ℕ) (rest : Text) → f depth (40 ∷ rest) ≡ f (depth + 1) rest
  pub closes : (depth : ℕ) (rest : Text) → f (depth + 1) (41 ∷ rest) ≡ f depth rest
  pub comma : (depth : ℕ) (rest : Text) → low ≤ depth → f depth (44 ∷ rest) ≡ f depth rest
  pub equals : (depth : ℕ) (rest : Text) → low ≤ depth → f depth (61 ∷ rest) ≡ f depth rest

-- the text, put before any other, changes nothing of what a scan sees
abbrev pub Passes : (ℕ → Text → Text) → Text → Type 0
Passes f t = (depth : ℕ) (rest : Text) → f depth (t ++ rest) ≡ f depth rest

-- and where commas and equals signs change nothing
abbrev pub PassesInside : ℕ → (ℕ → Text → Text) → Text → Type 0
PassesInside low f t = (depth : ℕ) (rest : Text) → low ≤ depth → f depth (t ++ rest) ≡ f depth rest

digit_is_plain : (c : ℕ) → is_digit c ≡ true → is_plain c ≡ true
digit_is_plain c digit = grind (arith, nat_tests)

alphanumeric_is_plain : (c : ℕ) → is_alphanumeric c ≡ true → is_plain c ≡ true
alphanumeric_is_plain c alphanumeric = grind (arith, nat_tests)

pub all_weaker : (p q : ℕ → Bool) → ((c : ℕ) → p c ≡ true → q c ≡ true) → (t : Text) → list_all p t ≡ true → list_all q t ≡ true
all_weaker p q weaker [] h = refl
all_weaker p q weaker (c ∷ t) h =
    let both = and_parts (p c) (list_all p t) h in rw (weaker c both.0) (all_weaker p q weaker t both.1)

pub letters_and_digits : (n : Text) → is_name n ≡ true → list_all is_alphanumeric n ≡ true
letters_and_digits [] h = absurd cc
letters_and_digits (c ∷ cs) h =
    let both = and_parts (is_letter c) (list_all is_alphanumeric cs) (and_parts _ _ h).0 in rw (both.0, both.1) refl

module _ (low : ℕ) (f : ℕ → Text → Text) (s : Scans low f) where
  pub nothing_scanned : Passes f []
  nothing_scanned depth rest = refl

  pub both_scanned : (a b : Text) → Passes f a → Passes f b → Passes f (a ++ b)
  both_scanned a b p q depth rest = rw append_assoc (p depth (b ++ rest) ∙ q depth rest)

  pub inside_too : (t : Text) → Passes f t → PassesInside low f t
  inside_too t p depth rest deep = p depth rest

  pub both_inside : (a b : Text) → PassesInside low f a → PassesInside low f b → PassesInside low f (a ++ b)
  both_inside a b p q depth rest deep = rw append_assoc (p depth (b ++ rest) deep ∙ q depth rest deep)

  pub characters_scanned : (t : Text) → list_all is_plain t ≡ true → Passes f t
  characters_scanned [] plain depth rest = refl
  characters_scanned (c ∷ t) plain depth rest =
      let both = and_parts (is_plain c) (list_all is_plain t) plain in
      s.plain c depth (t ++ rest) both.0 ∙ characters_scanned t both.1 depth rest

  pub name_scanned : (n : Text) → is_name n ≡ true → Passes f n
  name_scanned n h = characters_scanned n (all_weaker is_alphanumeric is_plain alphanumeric_is_plain n (letters_and_digits n h))

  pub number_scanned : (n : Text) → is_number n ≡ true → Passes f n
  number_scanned n h = characters_scanned n (all_weaker is_digit is_plain digit_is_plain n (and_parts _ _ h).1)

  pub label_scanned : (l : Text) → is_label l ≡ true → Passes f l
  label_scanned l well = number_scanned l (and_parts _ _ (and_parts _ _ well).0).0

  operator_scanned : (o : Operator) → Passes f (operator_text o)
  operator_scanned operators.Add = characters_scanned (operator_text operators.Add) refl
  operator_scanned o = characters_scanned (operator_text o) refl

  truth_scanned : (value : Bool) → Passes f (truth_text value)
  truth_scanned true = characters_scanned (truth_text true) refl
  truth_scanned false = characters_scanned (truth_text false) refl

  sign_scanned : (s : Sign) → Passes f (sign_byte s ∷ [])
  sign_scanned signs.Plus = characters_scanned (43 ∷ []) refl
  sign_scanned signs.Minus = characters_scanned (45 ∷ []) refl

  -- what passes inside parentheses passes with them
  pub parentheses_scanned : (t : Text) → PassesInside low f t → Passes f (40 ∷ (t ++ 41 ∷ []))
  parentheses_scanned t p depth rest =
      let deep : low ≤ depth + 1 = (let k = s.low_is in omega arith) in
      s.opens depth ((t ++ 41 ∷ []) ++ rest) ∙ ap (f (depth + 1)) (append_assoc t (41 ∷ []) rest) ∙ p (depth + 1) (41 ∷ rest) deep ∙ s.closes depth rest

  pub comma_inside : (t : Text) → PassesInside low f t → PassesInside low f (44 ∷ t)
  comma_inside t p depth rest deep = s.comma depth (t ++ rest) deep ∙ p depth rest deep

  pub equals_inside : (t : Text) → PassesInside low f t → PassesInside low f (61 ∷ t)
  equals_inside t p depth rest deep = s.equals depth (t ++ rest) deep ∙ p depth rest deep

  mutual
    pub expression_scanned : (e : ExprTree) → IsWellExpr e → Passes f (spell_expr e)
    expression_scanned (number digits) well = number_scanned digits well
    expression_scanned (truth value) well = truth_scanned value
    expression_scanned (name letters) well = name_scanned letters well
    expression_scanned (signed s e) well = both_scanned (sign_byte s ∷ []) (spell_expr e) (sign_scanned s) (expression_scanned e well.0)
    expression_scanned (negated e) well = both_scanned (codes ".NOT.") (spell_expr e) (characters_scanned (codes ".NOT.") refl) (expression_scanned e well.0)
    expression_scanned (binary o a b) well =
        both_scanned (spell_expr a) (operator_text o ++ spell_expr b) (expression_scanned a well.0) (both_scanned (operator_text o) (spell_expr b) (operator_scanned o) (expression_scanned b well.1.0))
    expression_scanned (paren e) well = parentheses_scanned (spell_expr e) (inside_too (spell_expr e) (expression_scanned e well))
    expression_scanned (element letters es) well =
        both_scanned letters (40 ∷ (spell_exprs es ++ 41 ∷ [])) (name_scanned letters well.0) (parentheses_scanned (spell_exprs es) (exprs_scanned es well.1.1))
    expression_scanned (call letters) well = both_scanned letters (codes "()") (name_scanned letters well) (parentheses_scanned [] (inside_too [] nothing_scanned))

    pub exprs_scanned : (es : ExprsTree) → AreWellSubscripts es → PassesInside low f (spell_exprs es)
    exprs_scanned no_exprs well = inside_too [] nothing_scanned
    exprs_scanned (exprs e es) well = both_inside (spell_expr e) (spell_behind es) (inside_too (spell_expr e) (expression_scanned e well.0)) (behind_scanned es well.1)

    behind_scanned : (es : ExprsTree) → AreWellSubscripts es → PassesInside low f (spell_behind es)
    behind_scanned no_exprs well = inside_too [] nothing_scanned
    behind_scanned (exprs e es) well =
        comma_inside (spell_expr e ++ spell_behind es) (both_inside (spell_expr e) (spell_behind es) (inside_too (spell_expr e) (expression_scanned e well.0)) (behind_scanned es well.1))

  pub subscripts_scanned : (es : ExprsTree) → AreWellSubscripts es → Passes f (spell_subscripts es)
  subscripts_scanned no_exprs well = nothing_scanned
  subscripts_scanned (exprs e es) well = parentheses_scanned (spell_exprs (exprs e es)) (exprs_scanned (exprs e es) well)

  pub unit_scanned : (u : UnitTree) → IsWellUnit u → Passes f (spell_unit u)
  unit_scanned star well = characters_scanned (42 ∷ []) refl
  unit_scanned (unit_number e) well = expression_scanned e well

  -- some with commas between
  joined_more_inside : (A : Type 0) (spelling : A → Text) (IsWellOne : A → Type 0) → ((x : A) → IsWellOne x → PassesInside low f (spelling x)) → (xs : List A) → AllByRecursion IsWellOne xs → PassesInside low f (joined_more spelling xs)
  joined_more_inside A spelling IsWellOne passes [] well = inside_too [] nothing_scanned
  joined_more_inside A spelling IsWellOne passes (x ∷ xs) well =
      comma_inside (spelling x ++ joined_more spelling xs) (both_inside (spelling x) (joined_more spelling xs) (passes x well.0) (joined_more_inside A spelling IsWellOne passes xs well.1))

  pub joined_inside : (A : Type 0) (spelling : A → Text) (IsWellOne : A → Type 0) → ((x : A) → IsWellOne x → PassesInside low f (spelling x)) → (xs : List A) → AllByRecursion IsWellOne xs → PassesInside low f (joined spelling xs)
  joined_inside A spelling IsWellOne passes [] well = inside_too [] nothing_scanned
  joined_inside A spelling IsWellOne passes (x ∷ xs) well =
      both_inside (spelling x) (joined_more spelling xs) (passes x well.0) (joined_more_inside A spelling IsWellOne passes xs well.1)

  bounds_scanned : (b : BoundsTree) → IsWellBounds b → Passes f (spell_bounds b)
  bounds_scanned b well = at_lower b.lower well.0
    where
      at_lower : (o : Option ExprTree) → IsWellStep o → Passes f (spell_lower o ++ spell_expr b.upper)
      at_lower None lower = expression_scanned b.upper well.1
      at_lower (Some e) lower =
          both_scanned (spell_expr e ++ 58 ∷ []) (spell_expr b.upper) (both_scanned (spell_expr e) (58 ∷ []) (expression_scanned e lower) (characters_scanned (58 ∷ []) refl)) (expression_scanned b.upper well.1)

  dimensions_scanned : (bs : List BoundsTree) → AllByRecursion IsWellBounds bs → Passes f (spell_dimensions bs)
  dimensions_scanned [] well = nothing_scanned
  dimensions_scanned (b ∷ bs) well =
      subst (λ (t : Text). Passes f t) (sym (joined_bounds (b ∷ bs) (has_some b bs)))
      (parentheses_scanned (joined spell_bounds (b ∷ bs)) (joined_inside BoundsTree spell_bounds IsWellBounds (λ b well. inside_too (spell_bounds b) (bounds_scanned b well)) (b ∷ bs) well))

  pub declarator_scanned : (d : DeclaratorTree) → IsWellDeclarator d → Passes f (spell_declarator d)
  declarator_scanned d well = both_scanned d.name (spell_dimensions d.bounds) (name_scanned d.name well.0) (dimensions_scanned d.bounds well.1)

  limits_inside : (l : LimitsTree) → IsWellLimits l → PassesInside low f (spell_limits l)
  limits_inside l well =
      both_inside (spell_expr l.first) (44 ∷ (spell_expr l.last ++ spell_step l.step)) (inside_too (spell_expr l.first) (expression_scanned l.first well.0))
      (comma_inside (spell_expr l.last ++ spell_step l.step) (both_inside (spell_expr l.last) (spell_step l.step) (inside_too (spell_expr l.last) (expression_scanned l.last well.1.0)) (at_step l.step well.1.1)))
    where
      at_step : (o : Option ExprTree) → IsWellStep o → PassesInside low f (spell_step o)
      at_step None well = inside_too [] nothing_scanned
      at_step (Some e) well = comma_inside (spell_expr e) (inside_too (spell_expr e) (expression_scanned e well))

  mutual
    pub item_scanned : (least : ℕ) (x : ListItemTree) → IsWellItem least x → Passes f (spell_item x)
    item_scanned least (value_item e) well = expression_scanned e well.0
    item_scanned least (loop_item xs v l) well =
        parentheses_scanned (spell_items xs ++ (44 ∷ (v ++ (61 ∷ spell_limits l))))
        (both_inside (spell_items xs) (44 ∷ (v ++ (61 ∷ spell_limits l))) (items_scanned least xs well.1.0) (comma_inside (v ++ (61 ∷ spell_limits l)) (both_inside v (61 ∷ spell_limits l) (inside_too v (name_scanned v well.1.1.0)) (equals_inside (spell_limits l) (limits_inside l well.1.1.1)))))

    items_scanned : (least : ℕ) (xs : ListItemsTree) → AreWellItems least xs → PassesInside low f (spell_items xs)
    items_scanned least no_items well = inside_too [] nothing_scanned
    items_scanned least (more_items x xs) well = both_inside (spell_item x) (spell_items_behind xs) (inside_too (spell_item x) (item_scanned least x well.0)) (items_behind_scanned least xs well.1)

    items_behind_scanned : (least : ℕ) (xs : ListItemsTree) → AreWellItems least xs → PassesInside low f (spell_items_behind xs)
    items_behind_scanned least no_items well = inside_too [] nothing_scanned
    items_behind_scanned least (more_items x xs) well =
        comma_inside (spell_item x ++ spell_items_behind xs) (both_inside (spell_item x) (spell_items_behind xs) (inside_too (spell_item x) (item_scanned least x well.0)) (items_behind_scanned least xs well.1))

  letters_scanned : (l : LettersTree) → IsWellLetters l → Passes f (spell_letters l)
  letters_scanned l well = both_scanned (l.first_letter ∷ []) (spell_last l.last_letter) (letter_scanned l.first_letter well.0) (at_last l.last_letter well.1)
    where
      letter_is_plain : (c : ℕ) → is_letter c ≡ true → is_plain c ≡ true
      letter_is_plain c letter = grind (arith, nat_tests)

      letter_scanned : (c : ℕ) → is_letter c ≡ true → Passes f (c ∷ [])
      letter_scanned c letter = characters_scanned (c ∷ []) (rw (letter_is_plain c letter) refl)

      at_last : (o : Option ℕ) → IsWellLast o → Passes f (spell_last o)
      at_last None well = nothing_scanned
      at_last (Some c) well = both_scanned (45 ∷ []) (c ∷ []) (characters_scanned (45 ∷ []) refl) (letter_scanned c well)

  type_scanned : (k : DataType) → Passes f (type_text k)
  type_scanned types.Integer = characters_scanned (codes "INTEGER") refl
  type_scanned types.Logical = characters_scanned (codes "LOGICAL") refl

  pub implicit_scanned : (p : ImplicitTree) → IsWellImplicit p → Passes f (spell_implicit p)
  implicit_scanned p well =
      both_scanned (type_text p.data_type) (40 ∷ (joined spell_letters p.letters ++ 41 ∷ [])) (type_scanned p.data_type)
      (parentheses_scanned (joined spell_letters p.letters) (joined_inside LettersTree spell_letters IsWellLetters (λ l well. inside_too (spell_letters l) (letters_scanned l well)) p.letters well.1))

  pub constant_inside : (c : ConstantTree) → IsWellConstant c → PassesInside low f (spell_constant c)
  constant_inside c well =
      both_inside c.name (61 ∷ spell_expr c.value) (inside_too c.name (name_scanned c.name well.0)) (equals_inside (spell_expr c.value) (inside_too (spell_expr c.value) (expression_scanned c.value well.1)))

-- ---- the scan for marks

abbrev pub marks : ℕ → Text → Text
marks depth t = marks_at depth false t

deep_is : (depth : ℕ) → 1 ≤ depth → eqb depth 0 ≡ false
deep_is depth deep = ne_eqb depth 0 (λ e. omega arith)

plain_marks : (c depth : ℕ) (rest : Text) → is_plain c ≡ true → marks_at depth false (c ∷ rest) ≡ marks_at depth false rest
unfolding marks_at
plain_marks c depth rest plain = grind arith

pub marks_scan : Scans 1 marks
unfolding marks_at
marks_scan = record {
  low_is = omega arith;
  plain = plain_marks;
  opens = λ depth rest. refl;
  closes = λ depth rest. let same : depth + 1 - 1 ≡ depth = omega arith in rw (deep_is (depth + 1) (omega arith), same) refl;
  comma = λ depth rest deep. rw (deep_is depth deep) refl;
  equals = λ depth rest deep. rw (deep_is depth deep) refl;
}

-- ---- the scan for what stands behind a closing parenthesis

abbrev pub closing : ℕ → Text → Text
closing depth t = behind_closing depth false t

plain_closing : (c depth : ℕ) (rest : Text) → is_plain c ≡ true → behind_closing depth false (c ∷ rest) ≡ behind_closing depth false rest
unfolding behind_closing
plain_closing c depth rest plain = grind arith

pub closing_scan : Scans 0 closing
unfolding behind_closing
closing_scan = record {
  low_is = omega arith;
  plain = plain_closing;
  opens = λ depth rest. refl;
  closes = λ depth rest. let same : depth + 1 - 1 ≡ depth = omega arith in rw (deep_is (depth + 1) (omega arith), same) refl;
  comma = λ depth rest deep. refl;
  equals = λ depth rest deep. refl;
}

-- ---- marks of the parts of statements

both_pass : (a b : Text) → Passes marks a → Passes marks b → Passes marks (a ++ b)
both_pass a b p q = both_scanned 1 marks marks_scan a b p q

characters_pass : (t : Text) → list_all is_plain t ≡ true → Passes marks t
characters_pass t h = characters_scanned 1 marks marks_scan t h

pub name_passes : (n : Text) → is_name n ≡ true → Passes marks n
name_passes n h = name_scanned 1 marks marks_scan n h

label_passes : (l : Text) → is_label l ≡ true → Passes marks l
label_passes l h = label_scanned 1 marks marks_scan l h

pub expression_passes : (e : ExprTree) → IsWellExpr e → Passes marks (spell_expr e)
expression_passes e well = expression_scanned 1 marks marks_scan e well

subscripts_pass : (es : ExprsTree) → AreWellSubscripts es → Passes marks (spell_subscripts es)
subscripts_pass es well = subscripts_scanned 1 marks marks_scan es well

pub unit_passes : (u : UnitTree) → IsWellUnit u → Passes marks (spell_unit u)
unit_passes u well = unit_scanned 1 marks marks_scan u well

-- ---- lists of expressions have commas alone

abbrev has_mark : List ℕ → Bool
has_mark marks = list_any (λ c. eqb c 61) marks

pub item_passes : (least : ℕ) (x : ListItemTree) → IsWellItem least x → Passes marks (spell_item x)
item_passes least x well = item_scanned 1 marks marks_scan least x well

-- behind items the same equals signs are seen
items_behind_keep : (least : ℕ) (xs : ListItemsTree) (rest : Text) → AreWellItems least xs → has_equals (spell_items_behind xs ++ rest) ≡ has_equals rest
unfolding marks_at
items_behind_keep least no_items rest well = refl
items_behind_keep least (more_items x xs) rest well =
    ap has_equals (append_assoc (spell_item x) (spell_items_behind xs) rest) ∙ ap has_mark (item_passes least x well.0 0 (spell_items_behind xs ++ rest)) ∙ items_behind_keep least xs rest well.1

pub items_keep : (least : ℕ) (xs : ListItemsTree) (rest : Text) → AreWellItems least xs → has_equals (spell_items xs ++ rest) ≡ has_equals rest
items_keep least no_items rest well = refl
items_keep least (more_items x xs) rest well =
    ap has_equals (append_assoc (spell_item x) (spell_items_behind xs) rest) ∙ ap has_mark (item_passes least x well.0 0 (spell_items_behind xs ++ rest)) ∙ items_behind_keep least xs rest well.1

nothing_has_none : has_equals [] ≡ false
unfolding marks_at
nothing_has_none = refl

-- the first mark is an equals sign
abbrev pub head_is_equals : List ℕ → Bool
head_is_equals [] = false
head_is_equals (c ∷ cs) = eqb c 61

-- a text without an equals sign among its marks
pub no_head : (m : List ℕ) → has_mark m ≡ false → head_is_equals m ≡ false
no_head [] none = refl
no_head (c ∷ m) none =
    elim (cases_Bool (eqb c 61)) [
      | inl equals ↦ let no : true ≡ false = rw equals at none in absurd cc
      | inr other ↦ other
    ]

equals_marks : (r : Text) → begins r (codes "=") ≡ true → head_is_equals (marks_at 0 false r) ≡ true
unfolding marks_at
equals_marks [] h = absurd cc
equals_marks (c ∷ r) h =
    let same : 61 ≡ c = eqb-true 61 c (and_parts _ _ h).0 in
    rw (← same) refl

-- a text whose first mark is no equals sign doesn't begin with a name and an equals sign
pub no_control : (t : Text) → head_is_equals (marks_at 0 false t) ≡ false → begins_control t ≡ false
unfolding begins_control
no_control t h = at_control (begins_control t) refl
  where
    at_control : (b : Bool) → begins_control t ≡ b → begins_control t ≡ false
    at_control false is = is
    at_control true is =
        let both = and_parts (is_name (run is_alphanumeric t).0) (begins (run is_alphanumeric t).1 (codes "=")) is in
        let same : marks_at 0 false t ≡ marks_at 0 false (run is_alphanumeric t).1 = ap (marks 0) (run_takes is_alphanumeric t) ∙ name_passes (run is_alphanumeric t).0 both.0 0 (run is_alphanumeric t).1 in
        let equals : head_is_equals (marks_at 0 false t) ≡ true = ap head_is_equals same ∙ equals_marks (run is_alphanumeric t).1 both.1 in
        absurd (true≢false (sym equals ∙ h))

-- ---- some with commas between have commas alone

joined_more_keep : (A : Type 0) (spelling : A → Text) (IsWellOne : A → Type 0) → ((x : A) → IsWellOne x → Passes marks (spelling x)) → (xs : List A) (rest : Text) → AllByRecursion IsWellOne xs → has_equals (joined_more spelling xs ++ rest) ≡ has_equals rest
unfolding marks_at
joined_more_keep A spelling IsWellOne passes [] rest well = refl
joined_more_keep A spelling IsWellOne passes (x ∷ xs) rest well =
    ap has_equals (append_assoc (spelling x) (joined_more spelling xs) rest) ∙ ap has_mark (passes x well.0 0 (joined_more spelling xs ++ rest)) ∙ joined_more_keep A spelling IsWellOne passes xs rest well.1

joined_keep : (A : Type 0) (spelling : A → Text) (IsWellOne : A → Type 0) → ((x : A) → IsWellOne x → Passes marks (spelling x)) → (xs : List A) (rest : Text) → AllByRecursion IsWellOne xs → has_equals (joined spelling xs ++ rest) ≡ has_equals rest
joined_keep A spelling IsWellOne passes [] rest well = refl
joined_keep A spelling IsWellOne passes (x ∷ xs) rest well =
    ap has_equals (append_assoc (spelling x) (joined_more spelling xs) rest) ∙ ap has_mark (passes x well.0 0 (joined_more spelling xs ++ rest)) ∙ joined_more_keep A spelling IsWellOne passes xs rest well.1

joined_has_none : (A : Type 0) (spelling : A → Text) (IsWellOne : A → Type 0) → ((x : A) → IsWellOne x → Passes marks (spelling x)) → (xs : List A) → AllByRecursion IsWellOne xs → has_equals (joined spelling xs) ≡ false
joined_has_none A spelling IsWellOne passes xs well = ap has_equals (sym (append-nil (joined spelling xs))) ∙ joined_keep A spelling IsWellOne passes xs [] well ∙ nothing_has_none

declarators_have_none : (ds : List DeclaratorTree) → AllByRecursion IsWellDeclarator ds → has_equals (spell_declarators ds) ≡ false
declarators_have_none ds well =
    ap has_equals (joined_declarators ds) ∙ joined_has_none DeclaratorTree spell_declarator IsWellDeclarator (λ d well. declarator_scanned 1 marks marks_scan d well) ds well

-- what passes has no mark
passing_has_none : (t : Text) → Passes marks t → has_equals t ≡ false
unfolding marks_at
passing_has_none t p = ap has_mark (ap (marks 0) (sym (append-nil t)) ∙ p 0 [])

-- ---- kinds

-- an expression has no mark
expression_marks : (e : ExprTree) → IsWellExpr e → marks_at 0 false (spell_expr e) ≡ []
unfolding marks_at
expression_marks e well = ap (marks_at 0 false) (sym (append-nil (spell_expr e))) ∙ expression_passes e well 0 []

-- an assignment has an equals sign alone
assignment_marks : (n : Text) (es : ExprsTree) (e : ExprTree) → IsWell (assignment n es e) → marks_at 0 false (spell (assignment n es e)) ≡ 61 ∷ []
unfolding marks_at
assignment_marks n es e well =
    name_passes n well.0 0 (spell_subscripts es ++ (61 ∷ spell_expr e)) ∙ subscripts_pass es well.1.0 0 (61 ∷ spell_expr e) ∙ ap (λ m. 61 ∷ m) (expression_marks e well.1.1)

-- and so has a statement function without dummies
definition_marks : (n : Text) (e : ExprTree) → IsWell (definition n e) → marks_at 0 false (spell (definition n e)) ≡ 61 ∷ []
unfolding marks_at
definition_marks n e well = name_passes n well.0 0 (codes "()=" ++ spell_expr e) ∙ ap (λ m. 61 ∷ m) (expression_marks e well.1)

outside_if_by : (t : Text) → marks_at 0 false t ≡ 61 ∷ [] → kind_outside_if t ≡ kinds.Assignment
unfolding kind_outside_if has_limits
outside_if_by t e = rw e refl

-- a text that doesn't begin with IF( , or has an equals sign behind its parentheses
kind_by_if : (t : Text) (k : Kind) → kind_outside_if t ≡ k → (begins t (codes "IF(") ≡ false) ⊎ (begins (behind_closing 0 false (drop 3 t)) (codes "=") ≡ true) → kind_of t ≡ k
unfolding kind_of kind_behind_if
kind_by_if t k e (inl other) = rw other e
kind_by_if t k e (inr behind) =
    elim (cases_Bool (begins t (codes "IF("))) [
      | inl is ↦ rw (is, behind) e
      | inr other ↦ rw other e
    ]

second_false : (a c : Bool) → (a && (false && c)) ≡ false
second_false true c = refl
second_false false c = refl

third_false : (a b c d : Bool) → c ≡ false → (a && (b && (c && d))) ≡ false
third_false true true c d e = rw e refl
third_false true false c d e = refl
third_false false b c d e = refl

not_opening : (c : ℕ) → is_alphanumeric c ≡ true → eqb 40 c ≡ false
not_opening c h = ne_eqb 40 c (λ e. let no : false ≡ true = rw (← e) at h in absurd cc)

-- a name and an equals sign aren't IF(
no_if : (n v : Text) → list_all is_alphanumeric n ≡ true → begins (n ++ (61 ∷ v)) (codes "IF(") ≡ false
no_if [] v h = refl
no_if (c ∷ []) v h = second_false (eqb 73 c) true
no_if (c ∷ d ∷ []) v h = third_false (eqb 73 c) (eqb 70 d) false true refl
no_if (c ∷ d ∷ e ∷ n) v h =
    let third : is_alphanumeric e ≡ true = (and_parts _ _ (and_parts _ _ (and_parts _ _ h).1).1).0 in
    third_false (eqb 73 c) (eqb 70 d) (eqb 40 e) _ (not_opening e third)

-- a name and a parenthesis aren't, or the name has two letters
if_name : (n w : Text) → list_all is_alphanumeric n ≡ true → (begins (n ++ (40 ∷ w)) (codes "IF(") ≡ false) ⊎ (drop 3 (n ++ (40 ∷ w)) ≡ w)
if_name [] w h = inl refl
if_name (c ∷ []) w h = inl (second_false (eqb 73 c) true)
if_name (c ∷ d ∷ []) w h = inr refl
if_name (c ∷ d ∷ e ∷ n) w h =
    let third : is_alphanumeric e ≡ true = (and_parts _ _ (and_parts _ _ (and_parts _ _ h).1).1).0 in
    inl (third_false (eqb 73 c) (eqb 70 d) (eqb 40 e) _ (not_opening e third))

-- a name and parentheses with an equals sign behind them
target_kind : (n w v : Text) → is_name n ≡ true → marks_at 0 false (n ++ (40 ∷ w)) ≡ 61 ∷ [] → behind_closing 0 false w ≡ 61 ∷ v → kind_of (n ++ (40 ∷ w)) ≡ kinds.Assignment
target_kind n w v named e closes = kind_by_if (n ++ (40 ∷ w)) kinds.Assignment (outside_if_by (n ++ (40 ∷ w)) e) (at_if (if_name n w (letters_and_digits n named)))
  where
    at_if : (begins (n ++ (40 ∷ w)) (codes "IF(") ≡ false) ⊎ (drop 3 (n ++ (40 ∷ w)) ≡ w)
        → (begins (n ++ (40 ∷ w)) (codes "IF(") ≡ false) ⊎ (begins (behind_closing 0 false (drop 3 (n ++ (40 ∷ w)))) (codes "=") ≡ true)
    at_if (inl other) = inl other
    at_if (inr same) = inr (rw (same, closes) refl)

assignment_kind : (n : Text) (es : ExprsTree) (e : ExprTree) → IsWell (assignment n es e) → kind_of (spell (assignment n es e)) ≡ kinds.Assignment
unfolding behind_closing
assignment_kind n no_exprs e well =
    kind_by_if (n ++ (61 ∷ spell_expr e)) kinds.Assignment (outside_if_by (n ++ (61 ∷ spell_expr e)) (assignment_marks n no_exprs e well)) (inl (no_if n (spell_expr e) (letters_and_digits n well.0)))
assignment_kind n (exprs d es) e well =
    let s = spell_exprs (exprs d es) in
    let v = spell_expr e in
    let w = (s ++ 41 ∷ []) ++ (61 ∷ v) in
    let closes : behind_closing 0 false w ≡ 61 ∷ v = ap (closing 0) (append_assoc s (41 ∷ []) (61 ∷ v)) ∙ exprs_scanned 0 closing closing_scan (exprs d es) well.1.0 0 (41 ∷ (61 ∷ v)) (omega arith) in
    target_kind n w v well.0 (assignment_marks n (exprs d es) e well) closes

definition_kind : (n : Text) (e : ExprTree) → IsWell (definition n e) → kind_of (spell (definition n e)) ≡ kinds.Assignment
unfolding behind_closing
definition_kind n e well = target_kind n (codes ")=" ++ spell_expr e) (spell_expr e) well.0 (definition_marks n e well) refl

-- limits have a comma behind the first of them
limits_marks : (l : LimitsTree) → IsWellLimits l → marks_at 0 false (spell_limits l) ≡ 44 ∷ marks_at 0 false (spell_expr l.last ++ spell_step l.step)
unfolding marks_at
limits_marks l well = expression_passes l.first well.0 0 (44 ∷ (spell_expr l.last ++ spell_step l.step))

-- a DO statement has a comma before its equals sign or none, and one behind it
variable_marks : (v : Text) (l : LimitsTree) → is_name v ≡ true → IsWellLimits l
    → marks_at 0 false (v ++ (61 ∷ spell_limits l)) ≡ 61 ∷ (44 ∷ marks_at 0 false (spell_expr l.last ++ spell_step l.step))
unfolding marks_at
variable_marks v l named well = name_passes v named 0 (61 ∷ spell_limits l) ∙ ap (λ m. 61 ∷ m) (limits_marks l well)

comma_marks : (comma : Bool) (t : Text) → marks_at 0 false (spell_comma comma ++ t) ≡ spell_comma comma ++ marks_at 0 false t
unfolding marks_at
comma_marks true t = refl
comma_marks false t = refl

range_label_marks : (l : Option Text) (comma : Bool) (t : Text) → IsWellRangeLabel l comma → marks_at 0 false (spell_range_label l comma ++ t) ≡ spell_comma comma ++ marks_at 0 false t
range_label_marks None true t well = absurd cc
range_label_marks None false t well = refl
range_label_marks (Some l) comma t well =
    ap (marks 0) (append_assoc l (spell_comma comma) t) ∙ label_passes l well 0 (spell_comma comma ++ t) ∙ comma_marks comma t

doing_marks : (l : Option Text) (comma : Bool) (v : Text) (limits : LimitsTree) → IsWell (doing l comma v limits)
    → marks_at 0 false (spell (doing l comma v limits)) ≡ spell_comma comma ++ (61 ∷ (44 ∷ marks_at 0 false (spell_expr limits.last ++ spell_step limits.step)))
doing_marks l comma v limits well =
    let behind = v ++ (61 ∷ spell_limits limits) in
    characters_pass (codes "DO") refl 0 (spell_range_label l comma ++ behind) ∙ range_label_marks l comma behind well.0 ∙ ap (λ m. spell_comma comma ++ m) (variable_marks v limits well.1.0 well.1.1)

-- with such marks a text can be a DO statement alone
doing_by : (comma : Bool) (t more : Text) → marks_at 0 false t ≡ spell_comma comma ++ (61 ∷ (44 ∷ more)) → kind_outside_if t ≡ kinds.Do
unfolding kind_outside_if has_limits
doing_by true t more e = rw e refl
doing_by false t more e = rw e refl

doing_kind : (l : Option Text) (comma : Bool) (v : Text) (limits : LimitsTree) → IsWell (doing l comma v limits) → kind_of (spell (doing l comma v limits)) ≡ kinds.Do
doing_kind l comma v limits well =
    kind_by_if (spell (doing l comma v limits)) kinds.Do (doing_by comma (spell (doing l comma v limits)) _ (doing_marks l comma v limits well)) (inl refl)

-- a DO WHILE statement has a comma alone outside its parentheses, or nothing
comma_alone : (comma : Bool) → has_mark (spell_comma comma ++ []) ≡ false
comma_alone true = refl
comma_alone false = refl

condition_marks : (e : ExprTree) → IsWellExpr e → marks_at 0 false (codes "WHILE(" ++ (spell_expr e ++ 41 ∷ [])) ≡ []
unfolding marks_at
condition_marks e well = expression_passes e well 1 (41 ∷ [])

doing_while_kind : (l : Option Text) (comma : Bool) (e : ExprTree) → IsWell (doing_while l comma e) → has_equals (spell (doing_while l comma e)) ≡ false
doing_while_kind l comma e well =
    let behind = codes "WHILE(" ++ (spell_expr e ++ 41 ∷ []) in
    ap has_mark (characters_pass (codes "DO") refl 0 (spell_range_label l comma ++ behind) ∙ range_label_marks l comma behind well.0 ∙ ap (λ m. spell_comma comma ++ m) (condition_marks e well.1)) ∙ comma_alone comma

-- WHILE is found behind a label and a comma
digits_behind : (l t : Text) → list_all is_digit l ≡ true → stops_at is_digit t → behind_digits (l ++ t) ≡ t
unfolding behind_digits
digits_behind [] [] digits stops = refl
digits_behind [] (c ∷ t) digits stops = rw stops refl
digits_behind (c ∷ l) t digits stops =
    let both = and_parts (is_digit c) (list_all is_digit l) digits in rw both.0 (digits_behind l t both.1 stops)

no_digit_here : (comma : Bool) (t : Text) → stops_at is_digit (spell_comma comma ++ (codes "WHILE(" ++ t))
no_digit_here true t = refl
no_digit_here false t = refl

comma_behind : (comma : Bool) (t : Text) → behind_comma (spell_comma comma ++ (codes "WHILE(" ++ t)) ≡ codes "WHILE(" ++ t
comma_behind true t = refl
comma_behind false t = refl

while_behind : (l : Option Text) (comma : Bool) (t : Text) → IsWellRangeLabel l comma → behind_comma (behind_digits (spell_range_label l comma ++ (codes "WHILE(" ++ t))) ≡ codes "WHILE(" ++ t
while_behind None true t well = absurd cc
while_behind None false t well = ap behind_comma (digits_behind [] (codes "WHILE(" ++ t) refl refl)
while_behind (Some l) comma t well =
    let digits : list_all is_digit l ≡ true = (and_parts _ _ (and_parts _ _ (and_parts _ _ well).0).0).1 in
    ap (λ u. behind_comma (behind_digits u)) (append_assoc l (spell_comma comma) (codes "WHILE(" ++ t)) ∙ ap behind_comma (digits_behind l (spell_comma comma ++ (codes "WHILE(" ++ t)) digits (no_digit_here comma t)) ∙ comma_behind comma t

end_do_kind : has_equals (codes "ENDDO") ≡ false
unfolding marks_at
end_do_kind = refl

implicit_none_kind : has_equals (codes "IMPLICITNONE") ≡ false
unfolding marks_at
implicit_none_kind = refl

-- a data type doesn't begin with NONE
not_none : (ps : List ImplicitTree) → ltb 0 (length ps) ≡ true → begins (codes "IMPLICIT" ++ joined spell_implicit ps) (codes "IMPLICITNONE") ≡ false
not_none [] some = absurd cc
not_none (p ∷ ps) some = by p.data_type refl
  where
    by : (k : DataType) → p.data_type ≡ k → begins (codes "IMPLICIT" ++ joined spell_implicit (p ∷ ps)) (codes "IMPLICITNONE") ≡ false
    by types.Integer e = rw e refl
    by types.Logical e = rw e refl

-- an apostrophe leads out of a character constant, another character doesn't
inside_step : (depth c : ℕ) (t : Text) (b : Bool) → eqb c 39 ≡ b → marks_at depth true (c ∷ t) ≡ marks_at depth (not b) t
unfolding marks_at
inside_step depth c t b e = ap (λ b. marks_at depth (not b) t) e

-- and one leads into it
quote_step : (depth d : ℕ) (t : Text) → eqb d 39 ≡ true → marks_at depth false (d ∷ t) ≡ marks_at depth true t
unfolding marks_at
quote_step depth d t e = rw e refl

-- a text between apostrophes has no mark
pub paired_marks : (depth : ℕ) (t rest : Text) → is_paired t ≡ true → marks_at depth true (t ++ (39 ∷ rest)) ≡ marks_at depth false rest
paired_marks depth [] rest h = inside_step depth 39 rest true refl
paired_marks depth (c ∷ []) rest h =
    elim (cases_Bool (eqb c 39)) [
      | inl quote ↦ let unpaired : false ≡ true = rw quote at h in absurd cc
      | inr other ↦ inside_step depth c (39 ∷ rest) false other ∙ inside_step depth 39 rest true refl
    ]
paired_marks depth (c ∷ d ∷ t) rest h =
    elim (cases_Bool (eqb c 39)) [
      | inl quote ↦
          let both = and_parts (eqb d 39) (is_paired t) (rw quote at h) in
          inside_step depth c (d ∷ (t ++ (39 ∷ rest))) true quote ∙ quote_step depth d (t ++ (39 ∷ rest)) both.0 ∙ paired_marks depth t rest both.1
      | inr other ↦ inside_step depth c (d ∷ (t ++ (39 ∷ rest))) false other ∙ paired_marks depth (d ∷ t) rest (rw other at h)
    ]

paired_pass : (t : Text) → is_paired t ≡ true → Passes marks (spell_quoted t)
unfolding marks_at
paired_pass t paired depth rest = ap (marks_at depth true) (append_assoc t (39 ∷ []) rest) ∙ paired_marks depth t rest paired

source_passes : (f : FormatTree) → IsWellSource f → Passes marks (spell_source f)
source_passes (format_label l) well = label_passes l well
source_passes (format_constant t) well = paired_pass t well

-- inside parentheses the equals signs of keywords are no marks
control_inside : (order : ControlOrder) (u : UnitTree) (f : FormatTree) → IsWellUnit u → IsWellSource f → (rest : Text) → marks_at 1 false (spell_control_by order u f ++ rest) ≡ marks_at 1 false rest
unfolding marks_at
control_inside orders.Plain u f well well' rest =
    ap (marks 1) (append_assoc (spell_unit u) (44 ∷ spell_source f) rest) ∙ unit_passes u well 1 (44 ∷ (spell_source f ++ rest)) ∙ source_passes f well' 1 rest
control_inside orders.FormatNamed u f well well' rest =
    ap (marks 1) (append_assoc (spell_unit u) (codes ",FMT=" ++ spell_source f) rest) ∙ unit_passes u well 1 (codes ",FMT=" ++ (spell_source f ++ rest)) ∙ source_passes f well' 1 rest
control_inside orders.UnitFirst u f well well' rest =
    ap (marks 1) (append_assoc (spell_unit u) (codes ",FMT=" ++ spell_source f) rest) ∙ unit_passes u well 1 (codes ",FMT=" ++ (spell_source f ++ rest)) ∙ source_passes f well' 1 rest
control_inside orders.FormatFirst u f well well' rest =
    ap (marks 1) (append_assoc (spell_source f) (codes ",UNIT=" ++ spell_unit u) rest) ∙ source_passes f well' 1 (codes ",UNIT=" ++ (spell_unit u ++ rest)) ∙ unit_passes u well 1 rest

writing_kind : (c : ControlTree) (xs : ListItemsTree) → IsWell (writing c xs) → has_equals (spell (writing c xs)) ≡ false
unfolding marks_at
writing_kind c xs well =
    ap has_mark (control_inside c.order c.unit c.source well.0.0 well.0.1 (41 ∷ spell_items xs)) ∙ ap has_equals (sym (append-nil (spell_items xs))) ∙ items_keep 0 xs [] well.1

printing_kind : (f : FormatTree) (xs : ListItemsTree) → IsWell (printing f xs) → has_equals (spell (printing f xs)) ≡ false
unfolding marks_at
printing_kind f xs well =
    ap has_mark (source_passes f well.0 0 (spell_items_behind xs)) ∙ ap has_equals (sym (append-nil (spell_items_behind xs))) ∙ items_behind_keep 0 xs [] well.1

-- a text that is balanced has no mark inside one more parenthesis
balanced_has_none : (depth : ℕ) (inside : Bool) (t : Text) → balanced depth inside t ≡ true → has_mark (marks_at (depth + 1) inside (t ++ 41 ∷ [])) ≡ false
unfolding marks_at balanced
balanced_has_none depth true [] h = absurd cc
balanced_has_none depth false [] h = rw (ne_eqb (depth + 1) 0 (λ e. omega arith)) refl
balanced_has_none depth true (c ∷ t) h = balanced_has_none depth (not (eqb c 39)) t h
balanced_has_none depth false (c ∷ t) h =
    elim (cases_Bool (eqb c 39)) [
      | inl quote ↦ rw quote (balanced_has_none depth true t (rw quote at h))
      | inr other ↦ elim (cases_Bool (eqb c 40)) [
        | inl opens ↦ rw (other, opens) (balanced_has_none (depth + 1) false t (rw (other, opens) at h))
        | inr none ↦ elim (cases_Bool (eqb c 41)) [
          | inl closes ↦
              let both = and_parts (ltb 0 depth) (balanced (depth - 1) false t) (rw (other, none, closes) at h) in
              let deep : 0 < depth = ltb-true 0 depth both.0 in
              let same : depth - 1 + 1 ≡ depth + 1 - 1 = omega arith in
              let nested : eqb (depth + 1) 0 ≡ false = ne_eqb (depth + 1) 0 (λ e. omega arith) in
              rw (other, none, closes, nested, ← same) (balanced_has_none (depth - 1) false t both.1)
          | inr plain ↦
              let deep : eqb (depth + 1) 0 ≡ false = ne_eqb (depth + 1) 0 (λ e. omega arith) in
              rw (other, none, plain, deep) (balanced_has_none depth false t (rw (other, none, plain) at h))
        ]
      ]
    ]

format_kind : (t : Text) → balanced 0 false t ≡ true → has_equals (spell (format t)) ≡ false
unfolding marks_at
format_kind t h = balanced_has_none 0 false t h

continuing_kind : has_equals (codes "CONTINUE") ≡ false
unfolding marks_at
continuing_kind = refl

declaring_kind : (word : Text) (ds : List DeclaratorTree) → list_all is_plain word ≡ true → AllByRecursion IsWellDeclarator ds → has_equals (word ++ spell_declarators ds) ≡ false
declaring_kind word ds plain well = ap has_mark (characters_pass word plain 0 (spell_declarators ds)) ∙ declarators_have_none ds well

pub bounded_too : (ds : List DeclaratorTree) → AllByRecursion IsWellArray ds → AllByRecursion IsWellDeclarator ds
bounded_too [] well = tt
bounded_too (d ∷ ds) well = (well.0.1, bounded_too ds well.1)

ending_kind : has_equals (codes "END") ≡ false
unfolding marks_at
ending_kind = refl

otherwise_kind : has_equals (codes "ELSE") ≡ false
unfolding marks_at
otherwise_kind = refl

end_if_kind : has_equals (codes "ENDIF") ≡ false
unfolding marks_at
end_if_kind = refl

naming_kind : (n : Text) → is_name n ≡ true → has_equals (codes "PROGRAM" ++ n) ≡ false
naming_kind n well = passing_has_none (codes "PROGRAM" ++ n) (both_pass (codes "PROGRAM") n (characters_pass (codes "PROGRAM") refl) (name_passes n well))

implying_kind : (ps : List ImplicitTree) → AllByRecursion IsWellImplicit ps → has_equals (codes "IMPLICIT" ++ joined spell_implicit ps) ≡ false
implying_kind ps well =
    ap has_mark (characters_pass (codes "IMPLICIT") refl 0 (joined spell_implicit ps)) ∙ joined_has_none ImplicitTree spell_implicit IsWellImplicit (λ p well. implicit_scanned 1 marks marks_scan p well) ps well

parameter_kind : (cs : List ConstantTree) → AllByRecursion IsWellConstant cs → has_equals (codes "PARAMETER(" ++ (joined spell_constant cs ++ 41 ∷ [])) ≡ false
unfolding marks_at
parameter_kind cs well =
    ap has_mark (joined_inside 1 marks marks_scan ConstantTree spell_constant IsWellConstant (λ c well. constant_inside 1 marks marks_scan c well) cs well 1 (41 ∷ []) (omega arith))

-- ---- DATA statements

number_passes : (n : Text) → is_number n ≡ true → Passes marks n
number_passes n h = number_scanned 1 marks marks_scan n h

sign_passes : (o : Option Sign) → Passes marks (spell_sign o)
sign_passes None = nothing_scanned 1 marks marks_scan
sign_passes (Some s) = sign_scanned 1 marks marks_scan s

data_constant_passes : (c : DataConstantTree) → IsWellDataConstant c → Passes marks (spell_data_constant c)
data_constant_passes (data_number o digits) well = both_pass (spell_sign o) digits (sign_passes o) (number_passes digits well)
data_constant_passes (data_truth value) well = truth_scanned 1 marks marks_scan value
data_constant_passes (data_name letters) well = name_passes letters well

repeat_passes : (o : Option RepeatTree) → IsWellRepeat o → Passes marks (spell_repeat o)
repeat_passes None well = nothing_scanned 1 marks marks_scan
repeat_passes (Some (repeat_number digits)) well = both_pass digits (codes "*") (number_passes digits well) (characters_pass (codes "*") refl)
repeat_passes (Some (repeat_name letters)) well = both_pass letters (codes "*") (name_passes letters well) (characters_pass (codes "*") refl)

data_value_passes : (v : DataValueTree) → IsWellDataValue v → Passes marks (spell_data_value v)
data_value_passes v well = both_pass (spell_repeat v.repeat_count) (spell_data_constant v.constant) (repeat_passes v.repeat_count well.0) (data_constant_passes v.constant well.1)

comma_keeps : (comma : Bool) (t : Text) → has_equals (spell_comma comma ++ t) ≡ has_equals t
unfolding marks_at
comma_keeps true t = refl
comma_keeps false t = refl

-- behind constants between slashes the same equals signs are seen
pub values_keep : (vs : List DataValueTree) (rest : Text) → AllByRecursion IsWellDataValue vs → has_equals (47 ∷ (joined spell_data_value vs ++ (47 ∷ rest))) ≡ has_equals rest
unfolding marks_at
values_keep vs rest well = joined_keep DataValueTree spell_data_value IsWellDataValue data_value_passes vs (47 ∷ rest) well

set_keeps : (s : DataSetTree) (rest : Text) → IsWellDataSet s → has_equals (spell_data_set s ++ rest) ≡ has_equals rest
set_keeps s rest well =
    let behind = 47 ∷ (joined spell_data_value s.values ++ (47 ∷ rest)) in
    ap has_equals (set_regrouped (spell_comma s.comma) (spell_items s.list) (joined spell_data_value s.values) rest) ∙ comma_keeps s.comma (spell_items s.list ++ behind) ∙ items_keep 8 s.list behind well.1.0 ∙ values_keep s.values rest well.1.1.1.1

pub sets_have_none : (ss : List DataSetTree) → AllByRecursion IsWellDataSet ss → has_equals (spell_data_sets ss) ≡ false
sets_have_none [] well = nothing_has_none
sets_have_none (s ∷ ss) well = set_keeps s (spell_data_sets ss) well.0 ∙ sets_have_none ss well.1

initializing_kind : (ss : List DataSetTree) → AllByRecursion IsWellDataSet ss → has_equals (codes "DATA" ++ spell_data_sets ss) ≡ false
initializing_kind ss well = ap has_mark (characters_pass (codes "DATA") refl 0 (spell_data_sets ss)) ∙ sets_have_none ss well

going_kind : (l : Text) → is_label l ≡ true → has_equals (codes "GOTO" ++ l) ≡ false
going_kind l well = passing_has_none (codes "GOTO" ++ l) (both_pass (codes "GOTO") l (characters_pass (codes "GOTO") refl) (label_passes l well))

-- a label doesn't begin with a parenthesis
label_unopened : (l : Text) → is_label l ≡ true → begins l (codes "(") ≡ false
label_unopened [] well = absurd cc
label_unopened (c ∷ l) well =
    let digits : list_all is_digit (c ∷ l) ≡ true = (and_parts _ _ (and_parts _ _ (and_parts _ _ well).0).0).1 in
    let digit : is_digit c ≡ true = (and_parts _ _ digits).0 in
    rw (not_opening c (or_right (is_letter c) (is_digit c) digit)) refl

comma_value_has_none : (comma : Bool) (e : ExprTree) → IsWellExpr e → has_equals (spell_comma comma ++ spell_expr e) ≡ false
unfolding marks_at
comma_value_has_none true e well = passing_has_none (spell_expr e) (expression_passes e well)
comma_value_has_none false e well = passing_has_none (spell_expr e) (expression_passes e well)

computed_going_kind : (ls : List Text) (comma : Bool) (e : ExprTree) → AllByRecursion IsWellLabel ls → IsWellExpr e → has_equals (codes "GOTO(" ++ (joined spell_label ls ++ (41 ∷ (spell_comma comma ++ spell_expr e)))) ≡ false
unfolding marks_at
computed_going_kind ls comma e well well_e =
    ap has_mark (joined_inside 1 marks marks_scan Text spell_label IsWellLabel (λ l well. inside_too 1 marks marks_scan l (label_passes l well)) ls well 1 (41 ∷ (spell_comma comma ++ spell_expr e)) (omega arith)) ∙ comma_value_has_none comma e well_e

else_if_kind : (e : ExprTree) → IsWellExpr e → has_equals (spell (else_if e)) ≡ false
unfolding marks_at
else_if_kind e well = ap has_mark (expression_passes e well 1 (codes ")THEN"))

stopping_kind : (s : StopTree) → IsWellStop s → has_equals (codes "STOP" ++ spell_stop s) ≡ false
unfolding marks_at
stopping_kind stop_silent well = refl
stopping_kind (stop_digits digits) well =
    passing_has_none (codes "STOP" ++ digits) (both_pass (codes "STOP") digits (characters_pass (codes "STOP") refl) (number_scanned 1 marks marks_scan digits (and_parts _ _ well).0))
stopping_kind (stop_text text) well = ap has_mark (paired_marks 0 text [] well)

-- ---- IF statements

closing_of : (e : ExprTree) (rest : Text) → IsWellExpr e → behind_closing 0 false (spell_expr e ++ (41 ∷ rest)) ≡ rest
unfolding behind_closing
closing_of e rest well = expression_scanned 0 closing closing_scan e well 0 (41 ∷ rest)

if_is : (e : ExprTree) (rest : Text) (k : Kind) → IsWellExpr e → kind_behind_if (codes "IF(" ++ (spell_expr e ++ (41 ∷ rest))) rest ≡ k → kind_of (codes "IF(" ++ (spell_expr e ++ (41 ∷ rest))) ≡ k
unfolding kind_of
if_is e rest k well is = rw (closing_of e rest well) is

digit_is_no_equals : (c : ℕ) → is_digit c ≡ true → eqb 61 c ≡ false
digit_is_no_equals c h = grind (arith, nat_tests)

letter_is_no_equals : (c : ℕ) → is_letter c ≡ true → eqb 61 c ≡ false
letter_is_no_equals c h = grind (arith, nat_tests)

letter_no_digit : (c : ℕ) → is_letter c ≡ true → is_digit c ≡ false
letter_no_digit c h = grind (arith, nat_tests)

label_behind : (text l rest : Text) → is_label l ≡ true → kind_behind_if text (l ++ rest) ≡ kinds.ArithmeticIf
unfolding kind_behind_if
label_behind text [] rest well = absurd cc
label_behind text (c ∷ l) rest well =
    let digits : list_all is_digit (c ∷ l) ≡ true = (and_parts _ _ (and_parts _ _ (and_parts _ _ well).0).0).1 in
    let digit : is_digit c ≡ true = (and_parts _ _ digits).0 in
    rw (digit_is_no_equals c digit, digit) refl

pub and_false : (b : Bool) → (b && false) ≡ false
and_false true = refl
and_false false = refl

name_behind : (text n rest : Text) → is_name n ≡ true → has_equals (n ++ rest) ≡ true → kind_behind_if text (n ++ rest) ≡ kinds.LogicalIf
unfolding kind_behind_if
name_behind text [] rest well equals = absurd cc
name_behind text (c ∷ n) rest well equals =
    let letter : is_letter c ≡ true = (and_parts _ _ (and_parts _ _ well).0).0 in
    rw (letter_is_no_equals c letter, letter_no_digit c letter, equals, and_false (begins (c ∷ (n ++ rest)) (codes "THEN"))) refl

block_behind : (text : Text) → kind_behind_if text (codes "THEN") ≡ kinds.IfThen
unfolding kind_behind_if marks_at
block_behind text = refl

simple_behind : (text : Text) (s : ShapeTree) → is_simple s ≡ true → IsWell s → kind_behind_if text (spell s) ≡ kinds.LogicalIf
unfolding kind_behind_if
simple_behind text (assignment n es e) simple well =
    name_behind text n (spell_subscripts es ++ (61 ∷ spell_expr e)) well.0 (ap has_mark (assignment_marks n es e well))
simple_behind text (definition n e) simple well = name_behind text n (codes "()=" ++ spell_expr e) well.0 (ap has_mark (definition_marks n e well))
simple_behind text (going l) simple well = refl
simple_behind text (computed_going ls comma e) simple well = refl
simple_behind text (arithmetic_if e n z p) simple well = refl
simple_behind text continuing simple well = refl
simple_behind text (stopping t) simple well = refl
simple_behind text (writing c xs) simple well = refl
simple_behind text (printing f xs) simple well = refl
simple_behind text s simple well = absurd cc

pub shape_kind : (s : ShapeTree) → IsWell s → kind_of (spell s) ≡ kind_of_shape s
unfolding kind_of kind_outside_if kind_by_keyword kind_by_control_keyword
shape_kind (assignment n es e) well = assignment_kind n es e well
shape_kind (writing c xs) well = rw (writing_kind c xs well) refl
shape_kind (printing f xs) well = rw (printing_kind f xs well) refl
shape_kind (format t) well = rw (format_kind t well) refl
shape_kind (doing l comma v limits) well = doing_kind l comma v limits well
shape_kind continuing well = rw continuing_kind refl
shape_kind (typing ds) well = rw (declaring_kind (codes "INTEGER") ds refl well.1) refl
shape_kind ending well = rw ending_kind refl
shape_kind (naming n) well = rw (naming_kind n well) refl
shape_kind (implying ps) well = rw (implying_kind ps well.1, not_none ps well.0) refl
shape_kind (logical_typing ds) well = rw (declaring_kind (codes "LOGICAL") ds refl well.1) refl
shape_kind (dimensioning ds) well = rw (declaring_kind (codes "DIMENSION") ds refl (bounded_too ds well.1)) refl
shape_kind (parameter cs) well = rw (parameter_kind cs well.1) refl
shape_kind (initializing ss) well = rw (initializing_kind ss well.1) refl
shape_kind (definition n e) well = definition_kind n e well
shape_kind (going l) well = rw (going_kind l well, label_unopened l well) refl
shape_kind (computed_going ls comma e) well = rw (computed_going_kind ls comma e well.0.1 well.1) refl
shape_kind (arithmetic_if e n z p) well = if_is e (n ++ (44 ∷ (z ++ (44 ∷ p)))) kinds.ArithmeticIf well.0 (label_behind _ n (44 ∷ (z ++ (44 ∷ p))) well.1.0)
shape_kind (logical_if e s) well = if_is e (spell s) kinds.LogicalIf well.0 (simple_behind _ s well.1.0 well.1.1)
shape_kind (block_if e) well = if_is e (codes "THEN") kinds.IfThen well (block_behind _)
shape_kind (else_if e) well = rw (else_if_kind e well) refl
shape_kind otherwise well = rw otherwise_kind refl
shape_kind end_if well = rw end_if_kind refl
shape_kind (stopping t) well = rw (stopping_kind t well) refl
shape_kind (doing_while l comma e) well = rw (doing_while_kind l comma e well, while_behind l comma (spell_expr e ++ 41 ∷ []) well.0) refl
shape_kind end_do well = rw end_do_kind refl
shape_kind implicit_none well = rw implicit_none_kind refl

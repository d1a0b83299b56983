-- An expression that is well formed reads as it was spelled.
use Rattle.std.proofs.Common.{◌≡◌, ℕ, zero, suc, ◌+◌, ◌-◌, ◌≤◌, ◌<◌, Bool, true, false, leb, eqb, [], ◌∷◌, ◌++◌, length, Option, Some, None, inl, inr, ◌||◌, refl, sym, ap, subst, ◌∙◌, append_assoc, length-append, arith}
use Rattle.std.specs.List.{list_all}
use Rattle.std.specs.Prelude.{codes}
use Rattle.std.proofs.Math.Numerals.{one-add}
use Rattle.std.proofs.lemmas.Bool.{true≢false, cases_Bool, and_parts, leb-true, le-leb, lt-leb, ne_eqb, cond-true, or_left, or_right, and_left, and_from}
use Rattle.std.proofs.lemmas.Bool.Decides.{nat_tests}
use Rattle.std.proofs.lemmas.Option.{same_Some, none-some}
use Rattle.std.proofs.lemmas.List.{append-nil}
use Rattle.meaning.specs.declared.syntax.Sign.{Sign}
use Rattle.meaning.specs.declared.syntax.Sign.TheVariants as signs
use Rattle.meaning.specs.declared.syntax.Operator.{Operator}
use Rattle.meaning.specs.declared.syntax.Operator.TheVariants as operators
use Rattle.meaning.specs.Characters.{is_digit, is_letter, is_alphanumeric, is_name, is_number, is_label}
use Rattle.meaning.specs.Syntax.{ExprTree, number, truth, name, signed, negated, binary, paren, element, call, ExprsTree, no_exprs, exprs}
use Rattle.meaning.specs.Spelling.{sign_byte, operator_text, truth_text, spell_expr, spell_exprs, spell_behind, level, left_least, right_least, level_of, is_more, IsWellExpr, AreWellSubscripts, spell_subscripts}
use Rattle.meaning.specs.Reading.{Text, Reader, ◌>>=◌, when, either, sign_at, first_operator_at, operator_at, truth_at, name_at, label_at, paren_at, exprs_at, subscripts_at, named_by, name_or_element_at, primary_at, negation_at, front_at, may_follow, operations_at, expression_at, whole_expression_at, after}
use Rattle.form_laws.proofs.Words.{stops_at, run_again}
use Rattle.form_laws.proofs.Marks.{letters_and_digits}

-- ---- what may follow an expression

-- the rest begins neither with a letter nor with a digit, nor with an opening parenthesis, nor with an operator of this
-- level or a stronger one
pub record Follows (limit : ℕ) (rest : Text) : Type 0 where
  pub ends : stops_at is_alphanumeric rest
  pub unopened : after (40 ∷ []) rest ≡ None
  pub weak : (o : Operator) (u : Text) → operator_at rest ≡ Some (o, u) → level o < limit

-- an operator that follows an expression binds less strongly than this
pub outer : ExprTree → ℕ
outer (number digits) = 9
outer (truth value) = 9
outer (name letters) = 9
outer (signed s e) = 6
outer (negated e) = 4
outer (binary o a b) = right_least (level o)
outer (paren e) = 9
outer (element letters es) = 9
outer (call letters) = 9

-- the levels of an operator
levels_of : (k : ℕ) → (k ≤ left_least k) × (k ≤ right_least k) × (right_least k ≤ suc k)
levels_of k = (grind (arith, nat_tests), grind (arith, nat_tests), grind (arith, nat_tests))

-- what may have such an expression on its left binds less strongly than what may follow it
above_of : (k l : ℕ) → left_least k ≤ l → k < right_least l
above_of k l le = grind (arith, nat_tests)

outer_above : (e : ExprTree) → level_of e ≤ outer e
unfolding outer
outer_above (number digits) = omega arith
outer_above (truth value) = omega arith
outer_above (name letters) = omega arith
outer_above (signed s e) = omega arith
outer_above (negated e) = omega arith
outer_above (binary o a b) = (levels_of (level o)).1
outer_above (paren e) = omega arith
outer_above (element letters es) = omega arith
outer_above (call letters) = omega arith

pub level_most : (o : Operator) → level o ≤ 7
level_most operators.Power = omega arith
level_most operators.Multiply = omega arith
level_most operators.Divide = omega arith
level_most operators.Add = omega arith
level_most operators.Subtract = omega arith
level_most operators.And = omega arith
level_most operators.Or = omega arith
level_most operators.Equivalent = omega arith
level_most operators.NotEquivalent = omega arith
level_most _ = omega arith

outer_over : (o : Operator) (e : ExprTree) → left_least (level o) ≤ level_of e → level o < outer e
unfolding outer
outer_over o (number digits) le = let most = level_most o in omega arith
outer_over o (truth value) le = let most = level_most o in omega arith
outer_over o (name letters) le = let most = level_most o in omega arith
outer_over o (signed s e) le = let low = (levels_of (level o)).0 in omega arith
outer_over o (negated e) le = let low = (levels_of (level o)).0 in omega arith
outer_over o (binary p a b) le = above_of (level o) (level p) le
outer_over o (paren e) le = let most = level_most o in omega arith
outer_over o (element letters es) le = let most = level_most o in omega arith
outer_over o (call letters) le = let most = level_most o in omega arith

pub Follows_weaker : (m n : ℕ) (rest : Text) → m ≤ n → Follows m rest → Follows n rest
Follows_weaker m n rest le f = record { ends = f.ends; unopened = f.unopened; weak = λ o u e. let lt : level o < m = f.weak o u e in omega arith }

nothing_follows : (c : ℕ) (t : Text) → stops_at is_alphanumeric (c ∷ t) → after (40 ∷ []) (c ∷ t) ≡ None → operator_at (c ∷ t) ≡ None → Follows 0 (c ∷ t)
nothing_follows c t ends unopened none = record { ends = ends; unopened = unopened; weak = λ o u e. absurd (none-some (o, u) (sym none ∙ e)) }

pub end_follows : Follows 0 []
unfolding operator_at first_operator_at either after
end_follows = record { ends = tt; unopened = refl; weak = λ o u e. absurd (none-some (o, u) e) }

pub comma_follows : (t : Text) → Follows 0 (44 ∷ t)
unfolding operator_at first_operator_at either after when
comma_follows t = nothing_follows 44 t refl refl refl

pub colon_follows : (t : Text) → Follows 0 (58 ∷ t)
unfolding operator_at first_operator_at either after when
colon_follows t = nothing_follows 58 t refl refl refl

pub parenthesis_follows : (t : Text) → Follows 0 (41 ∷ t)
unfolding operator_at first_operator_at either after when
parenthesis_follows t = nothing_follows 41 t refl refl refl

-- ---- tokens

-- * stands alone where no other follows
operator_again : (o : Operator) (rest : Text) → after (42 ∷ []) rest ≡ None → operator_at (operator_text o ++ rest) ≡ Some (o, rest)
unfolding operator_at first_operator_at either after when
operator_again operators.Multiply rest none = rw none refl
operator_again _ rest none = refl

pub truth_again : (value : Bool) (rest : Text) → truth_at (truth_text value ++ rest) ≡ Some (value, rest)
unfolding truth_at either after when
truth_again true rest = refl
truth_again false rest = refl

pub sign_again : (s : Sign) (rest : Text) → sign_at (sign_byte s ∷ rest) ≡ Some (s, rest)
unfolding sign_at
sign_again signs.Plus rest = refl
sign_again signs.Minus rest = refl

-- an operator ends what stands before it
operator_ends : (o : Operator) (rest : Text) → stops_at is_alphanumeric (operator_text o ++ rest)
operator_ends operators.Add rest = refl
operator_ends _ rest = refl

-- and opens no parenthesis
operator_unopened : (o : Operator) (rest : Text) → after (40 ∷ []) (operator_text o ++ rest) ≡ None
unfolding after when
operator_unopened operators.Add rest = refl
operator_unopened _ rest = refl

pub stops_weaker : (t : Text) → stops_at is_alphanumeric t → stops_at is_digit t
stops_weaker [] h = tt
stops_weaker (c ∷ t) h = grind (arith, nat_tests)

pub name_again : (n rest : Text) → is_name n ≡ true → stops_at is_alphanumeric rest → name_at (n ++ rest) ≡ Some (n, rest)
unfolding name_at
name_again n rest well stops = rw (run_again is_alphanumeric n rest (letters_and_digits n well) stops, well) refl

pub label_again : (l rest : Text) → is_label l ≡ true → stops_at is_digit rest → label_at (l ++ rest) ≡ Some (l, rest)
unfolding label_at
label_again l rest well stops =
    let digits : list_all is_digit l ≡ true = (and_parts _ _ (and_parts _ _ (and_parts _ _ well).0).0).1 in
    rw (run_again is_digit l rest digits stops) (cond-true (is_label l) (Some (l, rest)) None well)

-- ---- the front of an expression

-- a character with which an expression begins
abbrev pub is_first : ℕ → Bool
is_first c = is_alphanumeric c || (eqb c 43 || (eqb c 45 || (eqb c 40 || eqb c 46)))

-- a text that begins with such a character
abbrev pub Starts : (ℕ → Bool) → Text → Type 0
Starts test [] = ⊥
Starts test (c ∷ t) = test c ≡ true

-- another word doesn't stand there
pub no_word : (test : ℕ → Bool) (w : ℕ) (ws t : Text) → test w ≡ false → Starts test t → after (w ∷ ws) t ≡ None
unfolding after when
no_word test w ws [] other starts = absurd starts
no_word test w ws (c ∷ t) other starts = rw (ne_eqb w c (λ e. let no : test w ≡ true = rw e starts in true≢false (sym no ∙ other))) refl

pub name_starts : (n rest : Text) → is_name n ≡ true → Starts is_alphanumeric (n ++ rest)
name_starts [] rest well = absurd cc
name_starts (c ∷ n) rest well = or_left (is_letter c) (is_digit c) (and_parts _ _ (and_parts _ _ well).0).0

first_weaker : (t : Text) → Starts is_alphanumeric t → Starts is_first t
first_weaker [] h = absurd h
first_weaker (c ∷ t) h = or_left (is_alphanumeric c) _ h

pub starts_some : (test : ℕ → Bool) (t : Text) → Starts test t → 0 < length t
starts_some test [] h = absurd h
starts_some test (c ∷ t) h = omega arith

-- an expression begins with a letter, a digit, a sign, a parenthesis or a dot
pub expression_starts : (e : ExprTree) (rest : Text) → IsWellExpr e → Starts is_first (spell_expr e ++ rest)
expression_starts (number []) rest well = absurd cc
expression_starts (number (c ∷ digits)) rest well =
    let all : list_all is_digit (c ∷ digits) ≡ true = (and_parts _ _ well).1 in
    let digit : is_digit c ≡ true = (and_parts _ _ all).0 in
    or_left (is_alphanumeric c) _ (or_right (is_letter c) (is_digit c) digit)
expression_starts (truth true) rest well = refl
expression_starts (truth false) rest well = refl
expression_starts (name letters) rest well = first_weaker (letters ++ rest) (name_starts letters rest well)
expression_starts (signed signs.Plus e) rest well = refl
expression_starts (signed signs.Minus e) rest well = refl
expression_starts (negated e) rest well = refl
expression_starts (binary o a b) rest well =
    subst (λ t. Starts is_first t) (sym (append_assoc (spell_expr a) (operator_text o ++ spell_expr b) rest)) (expression_starts a ((operator_text o ++ spell_expr b) ++ rest) well.0)
expression_starts (paren e) rest well = refl
expression_starts (element letters es) rest well =
    let t = 40 ∷ (spell_exprs es ++ 41 ∷ []) in
    subst (λ t. Starts is_first t) (sym (append_assoc letters t rest)) (first_weaker (letters ++ (t ++ rest)) (name_starts letters (t ++ rest) well.0))
expression_starts (call letters) rest well =
    subst (λ t. Starts is_first t) (sym (append_assoc letters (codes "()") rest)) (first_weaker (letters ++ (codes "()" ++ rest)) (name_starts letters (codes "()" ++ rest) well))

-- a letter or a digit is no sign
pub no_sign : (c : ℕ) (t : Text) → is_alphanumeric c ≡ true → sign_at (c ∷ t) ≡ None
unfolding sign_at
no_sign c t h = rw (ne_eqb c 43 (λ e. absurd (plus_is_none c h e)), ne_eqb c 45 (λ e. absurd (minus_is_none c h e))) refl
  where
    plus_is_none : (c : ℕ) → is_alphanumeric c ≡ true → c ≡ 43 → ⊥
    plus_is_none c h e = let no : false ≡ true = rw e at h in absurd cc

    minus_is_none : (c : ℕ) → is_alphanumeric c ≡ true → c ≡ 45 → ⊥
    minus_is_none c h e = let no : false ≡ true = rw e at h in absurd cc

pub letter_is_no_digit : (c : ℕ) → is_letter c ≡ true → is_digit c ≡ false
letter_is_no_digit c h = grind (arith, nat_tests)

letter_opens_nothing : (c : ℕ) → is_letter c ≡ true → eqb c 40 ≡ false
letter_opens_nothing c h = grind (arith, nat_tests)

pub letter_is_no_dot : (c : ℕ) → is_letter c ≡ true → eqb c 46 ≡ false
letter_is_no_dot c h = grind (arith, nat_tests)

-- a primary is read at the front
record Fronts (rec : ℕ → Reader ExprTree) (t : Text) (x : ExprTree × Text) : Type 0 where
  unsigned : sign_at t ≡ None
  affirmed : after (codes ".NOT.") t ≡ None
  front : primary_at rec t ≡ Some x

number_again : (rec : ℕ → Reader ExprTree) (digits rest : Text) → is_number digits ≡ true → stops_at is_digit rest → Fronts rec (digits ++ rest) (number digits, rest)
unfolding primary_at
number_again rec [] rest well stops = absurd cc
number_again rec (c ∷ digits) rest well stops =
    let all : list_all is_digit (c ∷ digits) ≡ true = (and_parts _ _ well).1 in
    let digit : is_digit c ≡ true = (and_parts _ _ all).0 in
    record {
      unsigned = no_sign c (digits ++ rest) (or_right (is_letter c) (is_digit c) digit);
      affirmed = no_word is_alphanumeric 46 _ (c ∷ (digits ++ rest)) refl (or_right (is_letter c) (is_digit c) digit);
      front = rw (digit, run_again is_digit (c ∷ digits) rest all stops) refl;
    }

-- ---- subscripts

-- a reader of expressions reads each of them before anything that may follow, if all is no longer than this
abbrev pub AllAgain : (ℕ → Reader ExprTree) → ℕ → ExprsTree → Type 0
AllAgain rec k no_exprs = Unit {0}
AllAgain rec k (exprs e es) = ((rest : Text) → Follows 0 rest → length (spell_expr e ++ rest) ≤ k → rec 0 (spell_expr e ++ rest) ≡ Some (e, rest)) × AllAgain rec k es

-- the last one, and one that others follow
last_again : (rec : ℕ → Reader ExprTree) (n : ℕ) (e : ExprTree) (t rest : Text) → rec 0 t ≡ Some (e, 41 ∷ rest) → exprs_at rec (suc n) t ≡ Some (exprs e no_exprs, 41 ∷ rest)
unfolding exprs_at ◌>>=◌ either after when
last_again rec n e t rest read = rw read refl

next_again : (rec : ℕ → Reader ExprTree) (n : ℕ) (e : ExprTree) (es : ExprsTree) (t u rest : Text) → rec 0 t ≡ Some (e, 44 ∷ u) → exprs_at rec n u ≡ Some (es, rest) → exprs_at rec (suc n) t ≡ Some (exprs e es, rest)
unfolding exprs_at ◌>>=◌ either after when
next_again rec n e es t u rest read others = rw (read, others) refl

exprs_again : (rec : ℕ → Reader ExprTree) (k n : ℕ) (es : ExprsTree) (rest : Text) → AllAgain rec k es → is_more es ≡ true → length (spell_exprs es ++ (41 ∷ rest)) ≤ k → length (spell_exprs es ++ (41 ∷ rest)) ≤ n
    → exprs_at rec n (spell_exprs es ++ (41 ∷ rest)) ≡ Some (es, 41 ∷ rest)
exprs_again rec k n no_exprs rest all more short enough = absurd cc
exprs_again rec k zero (exprs e es) rest all more short enough = absurd (omega (arith, length-append (spell_exprs (exprs e es)) (41 ∷ rest)))
exprs_again rec k (suc n) (exprs e no_exprs) rest all more short enough =
    let same : spell_exprs (exprs e no_exprs) ++ (41 ∷ rest) ≡ spell_expr e ++ (41 ∷ rest) = ap (λ t. t ++ (41 ∷ rest)) (append-nil (spell_expr e)) in
    ap (exprs_at rec (suc n)) same ∙ last_again rec n e (spell_expr e ++ (41 ∷ rest)) rest (all.0 (41 ∷ rest) (parenthesis_follows rest) (subst (λ t. length t ≤ k) same short))
exprs_again rec k (suc n) (exprs e (exprs d es)) rest all more short enough =
    let behind = spell_exprs (exprs d es) ++ (41 ∷ rest) in
    let same : spell_exprs (exprs e (exprs d es)) ++ (41 ∷ rest) ≡ spell_expr e ++ (44 ∷ behind) = append_assoc (spell_expr e) (spell_behind (exprs d es)) (41 ∷ rest) in
    let short' : length (spell_expr e ++ (44 ∷ behind)) ≤ k = subst (λ t. length t ≤ k) same short in
    let enough' : length (spell_expr e ++ (44 ∷ behind)) ≤ suc n = subst (λ t. length t ≤ suc n) same enough in
    let long = length-append (spell_expr e) (44 ∷ behind) in
    ap (exprs_at rec (suc n)) same ∙ next_again rec n e (exprs d es) (spell_expr e ++ (44 ∷ behind)) behind (41 ∷ rest)
    (all.0 (44 ∷ behind) (comma_follows behind) short')
    (exprs_again rec k n (exprs d es) rest all.1 refl (omega (arith, long)) (omega (arith, long)))

enclosed_again : (rec : ℕ → Reader ExprTree) (k : ℕ) (es : ExprsTree) (rest : Text) → AllAgain rec k es → is_more es ≡ true → length (spell_exprs es ++ (41 ∷ rest)) ≤ k
    → subscripts_at rec (40 ∷ (spell_exprs es ++ (41 ∷ rest))) ≡ Some (es, rest)
unfolding subscripts_at ◌>>=◌ either after when
enclosed_again rec k es rest all more short = rw (exprs_again rec k (suc (length (spell_exprs es ++ (41 ∷ rest)))) es rest all more short (omega arith)) refl

unopened_again : (rec : ℕ → Reader ExprTree) (t : Text) → after (40 ∷ []) t ≡ None → subscripts_at rec t ≡ Some (no_exprs, t)
unfolding subscripts_at either
unopened_again rec t none = rw none refl

pub subscripts_again : (rec : ℕ → Reader ExprTree) (k : ℕ) (es : ExprsTree) (rest : Text) → AllAgain rec k es → after (40 ∷ []) rest ≡ None → length (spell_subscripts es ++ rest) ≤ k → subscripts_at rec (spell_subscripts es ++ rest) ≡ Some (es, rest)
subscripts_again rec k no_exprs rest all none short = unopened_again rec rest none
subscripts_again rec k (exprs e es) rest all none short =
    let same : spell_subscripts (exprs e es) ++ rest ≡ 40 ∷ (spell_exprs (exprs e es) ++ (41 ∷ rest)) = ap (λ t. 40 ∷ t) (append_assoc (spell_exprs (exprs e es)) (41 ∷ []) rest) in
    let short' : length (40 ∷ (spell_exprs (exprs e es) ++ (41 ∷ rest))) ≤ k = subst (λ t. length t ≤ k) same short in
    ap (subscripts_at rec) same ∙ enclosed_again rec k (exprs e es) rest all refl (omega arith)

truth_front : (rec : ℕ → Reader ExprTree) (value : Bool) (rest : Text) → Fronts rec (truth_text value ++ rest) (truth value, rest)
unfolding primary_at ◌>>=◌ sign_at after when
truth_front rec true rest = record { unsigned = refl; affirmed = refl; front = rw (truth_again true rest) refl }
truth_front rec false rest = record { unsigned = refl; affirmed = refl; front = rw (truth_again false rest) refl }

-- a name, and what stands behind it
module _ (rec : ℕ → Reader ExprTree) (c : ℕ) (letters rest : Text) (well : is_name (c ∷ letters) ≡ true) (stops : stops_at is_alphanumeric rest) where
  letter_of : is_letter c ≡ true
  letter_of = (and_parts _ _ (and_parts _ _ well).0).0

  called_again : (x : ExprTree × Text) → name_or_element_at rec ((c ∷ letters) ++ rest) ≡ Some x → Fronts rec ((c ∷ letters) ++ rest) x
  unfolding primary_at
  called_again x read = record {
    unsigned = no_sign c (letters ++ rest) (or_left (is_letter c) (is_digit c) letter_of);
    affirmed = no_word is_alphanumeric 46 _ (c ∷ (letters ++ rest)) refl (or_left (is_letter c) (is_digit c) letter_of);
    front = rw (letter_is_no_digit c letter_of, letter_opens_nothing c letter_of, letter_is_no_dot c letter_of) read;
  }

  named_again : (es : ExprsTree) (t : Text) → after (codes "()") rest ≡ None → subscripts_at rec rest ≡ Some (es, t) → Fronts rec ((c ∷ letters) ++ rest) (named_by (c ∷ letters) es, t)
  unfolding name_or_element_at ◌>>=◌ either
  named_again es t none read = called_again (named_by (c ∷ letters) es, t) (rw (name_again (c ∷ letters) rest well stops, none, read) refl)

-- where no parenthesis opens, none closes behind it
unopened_no_call : (t : Text) → after (40 ∷ []) t ≡ None → after (codes "()") t ≡ None
unfolding after when
unopened_no_call [] none = refl
unopened_no_call (c ∷ t) none =
    elim (cases_Bool (eqb 40 c)) [
      | inl opens ↦ let no : Some t ≡ None = rw opens at none in absurd cc
      | inr other ↦ rw other refl
    ]

variable_again : (rec : ℕ → Reader ExprTree) (letters rest : Text) → is_name letters ≡ true → stops_at is_alphanumeric rest → after (40 ∷ []) rest ≡ None → Fronts rec (letters ++ rest) (name letters, rest)
variable_again rec [] rest well stops none = absurd cc
variable_again rec (c ∷ letters) rest well stops none = named_again rec c letters rest well stops no_exprs rest (unopened_no_call rest none) (unopened_again rec rest none)

pub exprs_start : (e : ExprTree) (es : ExprsTree) (rest : Text) → IsWellExpr e → Starts is_first (spell_exprs (exprs e es) ++ rest)
exprs_start e es rest well =
    subst (λ t. Starts is_first t) (sym (append_assoc (spell_expr e) (spell_behind es) rest)) (expression_starts e (spell_behind es ++ rest) well)

-- subscripts aren't ()
no_call : (t : Text) → Starts is_first t → after (codes "()") (40 ∷ t) ≡ None
unfolding after when
no_call t starts = no_word is_first 41 [] t refl starts

element_again : (rec : ℕ → Reader ExprTree) (k : ℕ) (letters : Text) (es : ExprsTree) (rest : Text) → is_name letters ≡ true → is_more es ≡ true → AreWellSubscripts es → AllAgain rec k es → length (spell_exprs es ++ (41 ∷ rest)) ≤ k
    → Fronts rec (letters ++ (40 ∷ (spell_exprs es ++ (41 ∷ rest)))) (element letters es, rest)
element_again rec k [] es rest well more wells all short = absurd cc
element_again rec k (c ∷ letters) no_exprs rest well more wells all short = absurd cc
element_again rec k (c ∷ letters) (exprs e es) rest well more wells all short =
    named_again rec c letters (40 ∷ (spell_exprs (exprs e es) ++ (41 ∷ rest))) well refl (exprs e es) rest (no_call _ (exprs_start e es (41 ∷ rest) wells.0)) (enclosed_again rec k (exprs e es) rest all refl short)

call_again : (rec : ℕ → Reader ExprTree) (letters rest : Text) → is_name letters ≡ true → Fronts rec (letters ++ (codes "()" ++ rest)) (call letters, rest)
unfolding name_or_element_at ◌>>=◌ either after when
call_again rec [] rest well = absurd cc
call_again rec (c ∷ letters) rest well =
    called_again rec c letters (codes "()" ++ rest) well refl (call (c ∷ letters), rest) (rw (name_again (c ∷ letters) (codes "()" ++ rest) well refl) refl)

paren_again : (rec : ℕ → Reader ExprTree) (e : ExprTree) (rest : Text) → rec 0 (spell_expr e ++ (41 ∷ rest)) ≡ Some (e, 41 ∷ rest) → Fronts rec (40 ∷ ((spell_expr e ++ 41 ∷ []) ++ rest)) (paren e, rest)
unfolding primary_at paren_at sign_at ◌>>=◌ after when
paren_again rec e rest read = record { unsigned = refl; affirmed = refl; front = rw (append_assoc (spell_expr e) (41 ∷ []) rest, read) refl }

-- ---- expressions

abbrev pub level_at : (ℕ → Reader ExprTree) → ℕ → Reader ExprTree
level_at rec least t = front_at rec least t >>= λ e. operations_at rec (length e.1) least e.0 e.1

-- once the expression is spelled, the loop over operators stands behind it
pub record Goes (k least : ℕ) (e : ExprTree) (rest : Text) : Type 0 where
  pub turns : ℕ
  pub enough : length rest ≤ turns
  pub goes : level_at (expression_at k) least (spell_expr e ++ rest) ≡ operations_at (expression_at k) turns least e rest

from_front : (k least : ℕ) (e : ExprTree) (rest : Text) → front_at (expression_at k) least (spell_expr e ++ rest) ≡ Some (e, rest) → Goes k least e rest
unfolding ◌>>=◌
from_front k least e rest front = record { turns = length rest; enough = omega arith; goes = rw front refl }

-- the loop ends where no strong operator follows
pub stops : (rec : ℕ → Reader ExprTree) (n least : ℕ) (e : ExprTree) (rest : Text) → Follows least rest → operations_at rec n least e rest ≡ Some (e, rest)
unfolding operations_at either
stops rec zero least e rest f = refl
stops rec (suc n) least e rest f = at_operator (operator_at rest) refl
  where
    at_operator : (o : Option (Operator × Text)) → operator_at rest ≡ o → operations_at rec (suc n) least e rest ≡ Some (e, rest)
    at_operator None is = rw is refl
    at_operator (Some o) is = rw (is, and_left (leb least (level o.0)) (leb (left_least (level o.0)) (level_of e)) (lt-leb least (level o.0) (f.weak o.0 o.1 is))) refl

pub Again : ExprTree → Type 0
Again e = (k least : ℕ) (rest : Text) → IsWellExpr e → least ≤ level_of e → Follows (outer e) rest → length (spell_expr e ++ rest) ≤ k → Goes k least e rest

-- an expression that nothing strong follows is read whole
pub read_again : (e : ExprTree) → Again e → (k least : ℕ) (rest : Text) → IsWellExpr e → least ≤ level_of e → Follows least rest → length (spell_expr e ++ rest) ≤ k → expression_at (suc k) least (spell_expr e ++ rest) ≡ Some (e, rest)
unfolding expression_at Again
read_again e again k least rest well strong f enough =
    let above = outer_above e in
    let g = again k least rest well strong (Follows_weaker least (outer e) rest (omega arith) f) enough in
    g.goes ∙ stops (expression_at k) g.turns least e rest f

operator_long : (o : Operator) (t : Text) → length t < length (operator_text o ++ t)
operator_long operators.Add t = omega arith
operator_long _ t = omega arith

regrouped : (o : Operator) (a b rest : Text) → (a ++ (operator_text o ++ b)) ++ rest ≡ a ++ (operator_text o ++ (b ++ rest))
regrouped o a b rest = append_assoc a (operator_text o ++ b) rest ∙ ap (λ t. a ++ t) (append_assoc (operator_text o) b rest)

regrouped_long : (o : Operator) (a b rest : Text) → length a + length (b ++ rest) < length ((a ++ (operator_text o ++ b)) ++ rest)
regrouped_long o a b rest =
    let same : length ((a ++ (operator_text o ++ b)) ++ rest) ≡ length a + length (operator_text o ++ (b ++ rest)) = ap length (regrouped o a b rest) ∙ length-append a (operator_text o ++ (b ++ rest)) in
    let long = operator_long o (b ++ rest) in
    omega arith

-- the operator behind an operand ends it
behind_operand : (a : ExprTree) (o : Operator) (t : Text) → left_least (level o) ≤ level_of a → after (42 ∷ []) t ≡ None → Follows (outer a) (operator_text o ++ t)
behind_operand a o t le none = record {
  ends = operator_ends o t;
  unopened = operator_unopened o t;
  weak = λ p u e.
      let over = outer_over o a le in
      let same : (o, t) ≡ (p, u) = same_Some (o, t) (p, u) (sym (operator_again o t none) ∙ e) in
      let level_same : level o ≡ level p = ap (λ x. level x.0) same in
      omega arith;
}

one_turn : (rec : ℕ → Reader ExprTree) (n m least : ℕ) (a : ExprTree) (o : Operator) (b : ExprTree) (rest : Text) → n ≡ suc m → may_follow least a o ≡ true → after (42 ∷ []) (spell_expr b ++ rest) ≡ None
    → rec (right_least (level o)) (spell_expr b ++ rest) ≡ Some (b, rest) → operations_at rec n least a (operator_text o ++ (spell_expr b ++ rest)) ≡ operations_at rec m least (binary o a b) rest
unfolding operations_at either ◌>>=◌
one_turn rec n m least a o b rest one_more follows none read = rw (one_more, operator_again o (spell_expr b ++ rest) none, follows, read) refl

signed_front : (rec : ℕ → Reader ExprTree) (least : ℕ) (s : Sign) (e : ExprTree) (rest : Text) → least ≤ 5 → rec 6 (spell_expr e ++ rest) ≡ Some (e, rest) → front_at rec least (sign_byte s ∷ (spell_expr e ++ rest)) ≡ Some (signed s e, rest)
unfolding front_at either when ◌>>=◌
signed_front rec least s e rest low read = rw (sign_again s (spell_expr e ++ rest), le-leb least 5 low, read) refl

negated_front : (rec : ℕ → Reader ExprTree) (least : ℕ) (e : ExprTree) (rest : Text) → least ≤ 3 → rec 4 (spell_expr e ++ rest) ≡ Some (e, rest) → front_at rec least (codes ".NOT." ++ (spell_expr e ++ rest)) ≡ Some (negated e, rest)
unfolding front_at negation_at sign_at either when ◌>>=◌ after
negated_front rec least e rest low read = rw (le-leb least 3 low, read) refl

primary_front : (rec : ℕ → Reader ExprTree) (least : ℕ) (t : Text) (x : ExprTree × Text) → Fronts rec t x → front_at rec least t ≡ Some x
unfolding front_at negation_at either
primary_front rec least t x f = rw (f.unsigned, f.affirmed, f.front) refl

enclosed_long : (t rest : Text) → length ((t ++ 41 ∷ []) ++ rest) ≡ length (t ++ (41 ∷ rest))
enclosed_long t rest = ap length (append_assoc t (41 ∷ []) rest)

element_regrouped : (a b rest : Text) → (a ++ (40 ∷ (b ++ 41 ∷ []))) ++ rest ≡ a ++ (40 ∷ (b ++ (41 ∷ rest)))
element_regrouped a b rest = append_assoc a (40 ∷ (b ++ 41 ∷ [])) rest ∙ ap (λ t. a ++ (40 ∷ t)) (append_assoc b (41 ∷ []) rest)

element_long : (a b rest : Text) → length ((a ++ (40 ∷ (b ++ 41 ∷ []))) ++ rest) ≡ length a + (1 + length (b ++ (41 ∷ rest)))
element_long a b rest = ap length (element_regrouped a b rest) ∙ length-append a (40 ∷ (b ++ (41 ∷ rest))) ∙ ap (λ n. length a + n) (sym (one-add (length (b ++ (41 ∷ rest)))))

mutual
  unfolding Again outer

  pub again : (e : ExprTree) → Again e
  again (number digits) k least rest well strong f enough =
      from_front k least (number digits) rest (primary_front (expression_at k) least (digits ++ rest) (number digits, rest) (number_again (expression_at k) digits rest well (stops_weaker rest f.ends)))
  again (truth value) k least rest well strong f enough =
      from_front k least (truth value) rest (primary_front (expression_at k) least (truth_text value ++ rest) (truth value, rest) (truth_front (expression_at k) value rest))
  again (name letters) k least rest well strong f enough =
      from_front k least (name letters) rest (primary_front (expression_at k) least (letters ++ rest) (name letters, rest) (variable_again (expression_at k) letters rest well f.ends f.unopened))
  again (signed s e) zero least rest well strong f enough = absurd (omega arith)
  again (signed s e) (suc k) least rest well strong f enough =
      from_front (suc k) least (signed s e) rest
      (signed_front (expression_at (suc k)) least s e rest strong (read_again e (again e) k 6 rest well.0 (leb-true 6 (level_of e) well.1) f (omega arith)))
  again (negated e) zero least rest well strong f enough = absurd (omega arith)
  again (negated e) (suc k) least rest well strong f enough =
      from_front (suc k) least (negated e) rest
      (negated_front (expression_at (suc k)) least e rest strong (read_again e (again e) k 4 rest well.0 (leb-true 4 (level_of e) well.1) f (omega arith)))
  again (binary o a b) zero least rest well strong f enough = absurd (omega (arith, regrouped_long o (spell_expr a) (spell_expr b) rest))
  again (binary o a b) (suc k) least rest well strong f enough =
      let left : left_least (level o) ≤ level_of a = leb-true (left_least (level o)) (level_of a) well.1.1.0 in
      let right : right_least (level o) ≤ level_of b = leb-true (right_least (level o)) (level_of b) well.1.1.1 in
      let low : level o ≤ left_least (level o) = (levels_of (level o)).0 in
      let none = no_word is_first 42 [] (spell_expr b ++ rest) refl (expression_starts b rest well.1.0) in
      let long = regrouped_long o (spell_expr a) (spell_expr b) rest in
      let behind = operator_text o ++ (spell_expr b ++ rest) in
      let g = again a (suc k) least behind well.0 (omega arith) (behind_operand a o (spell_expr b ++ rest) left none) (subst (λ t. length t ≤ suc k) (regrouped o (spell_expr a) (spell_expr b) rest) enough) in
      let read = read_again b (again b) k (right_least (level o)) rest well.1.0 right f (omega (arith, long)) in
      let follows : may_follow least a o ≡ true = and_from _ _ (le-leb least (level o) strong) well.1.1.0 in
      let turns : length behind ≤ g.turns = g.enough in
      let behind_long : length (spell_expr b ++ rest) < length behind = operator_long o (spell_expr b ++ rest) in
      let rest_long = length-append (spell_expr b) rest in
      record {
        turns = g.turns - 1;
        enough = omega arith;
        goes = ap (level_at (expression_at (suc k)) least) (regrouped o (spell_expr a) (spell_expr b) rest) ∙ g.goes ∙ one_turn (expression_at (suc k)) g.turns (g.turns - 1) least a o b rest (omega arith) follows none read;
      }
  again (paren e) zero least rest well strong f enough = absurd (omega arith)
  again (paren e) (suc k) least rest well strong f enough =
      let long = enclosed_long (spell_expr e) rest in
      let read = read_again e (again e) k 0 (41 ∷ rest) well (omega arith) (parenthesis_follows rest) (omega (arith, long)) in
      from_front (suc k) least (paren e) rest (primary_front (expression_at (suc k)) least (40 ∷ ((spell_expr e ++ 41 ∷ []) ++ rest)) (paren e, rest) (paren_again (expression_at (suc k)) e rest read))
  again (element letters es) zero least rest well strong f enough = absurd (omega (arith, element_long letters (spell_exprs es) rest))
  again (element letters es) (suc k) least rest well strong f enough =
      let long = element_long letters (spell_exprs es) rest in
      let short : length (spell_exprs es ++ (41 ∷ rest)) ≤ k = omega (arith, long) in
      let front = primary_front (expression_at (suc k)) least (letters ++ (40 ∷ (spell_exprs es ++ (41 ∷ rest)))) (element letters es, rest) (element_again (expression_at (suc k)) k letters es rest well.0 well.1.0 well.1.1 (all_again es k well.1.1) short) in
      from_front (suc k) least (element letters es) rest (subst (λ t. front_at (expression_at (suc k)) least t ≡ Some (element letters es, rest)) (sym (element_regrouped letters (spell_exprs es) rest)) front)
  again (call letters) k least rest well strong f enough =
      from_front k least (call letters) rest
      (subst (λ t. front_at (expression_at k) least t ≡ Some (call letters, rest)) (sym (append_assoc letters (codes "()") rest))
      (primary_front (expression_at k) least (letters ++ (codes "()" ++ rest)) (call letters, rest) (call_again (expression_at k) letters rest well)))

  all_again : (es : ExprsTree) (k : ℕ) → AreWellSubscripts es → AllAgain (expression_at (suc k)) k es
  all_again no_exprs k well = tt
  all_again (exprs e es) k well = (λ rest f enough. read_again e (again e) k 0 rest well.0 (omega arith) f enough, all_again es k well.1)

pub whole_again : (e : ExprTree) (rest : Text) → IsWellExpr e → Follows 0 rest → whole_expression_at (spell_expr e ++ rest) ≡ Some (e, rest)
unfolding whole_expression_at
whole_again e rest well f = read_again e (again e) (length (spell_expr e ++ rest)) 0 rest well (omega arith) f (omega arith)

pub all_whole : (es : ExprsTree) (k : ℕ) → AreWellSubscripts es → AllAgain (λ least rest. whole_expression_at rest) k es
all_whole no_exprs k well = tt
all_whole (exprs e es) k well = (λ rest f enough. whole_again e rest well.0 f, all_whole es k well.1)

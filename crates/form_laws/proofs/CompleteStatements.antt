-- Assignments, output, DO, type, PROGRAM, IMPLICIT, PARAMETER and GO TO statements that are well formed read as they were spelled.
use Rattle.std.proofs.Common.{◌≡◌, ℕ, zero, suc, ◌<◌, Bool, true, false, ltb, eqb, List, [], ◌∷◌, ◌++◌, length, Option, Some, None, inl, inr, refl, sym, ap, subst, ◌∙◌, append_assoc, length-append, arith}
use Rattle.std.specs.List.{list_all, AllByRecursion}
use Rattle.std.specs.Prelude.{codes}
use Rattle.std.proofs.lemmas.Bool.{eqb-true, true≢false, cases_Bool, and_parts, and_from}
use Rattle.std.proofs.lemmas.List.{append-nil}
use Rattle.meaning.specs.Characters.{is_digit, is_letter, is_alphanumeric, is_name, is_label}
use Rattle.meaning.specs.Syntax.{ExprTree, ExprsTree, no_exprs, exprs, BoundsTree, DeclaratorTree, UnitTree, LimitsTree, ListItemsTree, no_items, more_items, FormatTree, format_label, format_constant, ControlTree, LettersTree, ImplicitTree, ConstantTree, ShapeTree, assignment, writing, printing, format, doing, doing_while, end_do, implicit_none, continuing, typing, ending, naming, implying, logical_typing, dimensioning, parameter, definition, going, computed_going, otherwise, end_if}
use Rattle.meaning.specs.Spelling.{spell_expr, spell_exprs, IsWellExpr, AreWellSubscripts, spell_unit, IsWellUnit, IsWellStep, spell_limits, spell_comma, spell_subscripts, spell_lower, spell_bounds, spell_dimensions, spell_declarator, IsWellBounds, IsWellDeclarator, spell, IsWell, spell_range_label, IsWellRangeLabel}
use Rattle.meaning.specs.Reading.{Text, Reader, ◌>>=◌, when, either, name_at, label_at, subscripts_at, whole_expression_at, list_of, source_at, format_first_at, unit_first_at, behind_unit_at, control_at, printing_of, unit_at, at_end, after, value_of, target_of, assignment_of, writing_of, format_of, alone_of, limits_at, comma_at, RangeLabel, range_label_at, doing_of, doing_while_of, bounds_at, separated_at, dimensions_at, declarator_at, declarators_of, typing_of, logical_typing_of, has_bounds, dimensioning_of, naming_of, letter_at, letters_at, type_at, implicit_at, implying_of, constant_at, parameter_of, going_of, computed_going_of, quoted_at}
use Rattle.meaning.specs.declared.syntax.DataType.{DataType}
use Rattle.meaning.specs.declared.syntax.DataType.TheVariants as types
use Rattle.meaning.specs.Spelling.{joined_more, joined, AreWell, spell_letters, IsWellLast, IsWellLetters, type_text, spell_implicit, IsWellImplicit, spell_quoted, spell_item, spell_items, spell_items_behind, spell_source, IsWellSource, spell_control_by, spell_control, spell_constant, IsWellConstant, IsWellArray, spell_label, IsWellLabel, is_paired, spell_last, spell_declarators}
use Rattle.meaning.specs.declared.syntax.ControlOrder.{ControlOrder}
use Rattle.meaning.specs.declared.syntax.ControlOrder.TheVariants as orders
use Rattle.meaning.specs.Kinds.{marks_at, begins_with_digit}
use Rattle.form_laws.proofs.Joined.{has_some, joined_bounds, joined_declarators}
use Rattle.form_laws.proofs.Words.{after_again, after_takes, before_again, stops_at}
use Rattle.form_laws.proofs.Marks.{bounded_too, head_is_equals, marks, unit_passes}
use Rattle.form_laws.proofs.CompleteExpressions.{again, no_word, is_first, Starts, exprs_start, name_again, subscripts_again, all_whole, Follows, label_again, parenthesis_follows, comma_follows, whole_again, colon_follows, end_follows, expression_starts}
use Rattle.form_laws.proofs.CompleteLists.{ends_again, digits_start, unit_again, list_again, list_behind_again, comma_again, comma_ends, limits_again, no_comma_behind}

-- ---- statements

-- subscripts, or the equals sign, end a name
subscripts_end : (es : ExprsTree) (t : Text) → stops_at is_alphanumeric (spell_subscripts es ++ (61 ∷ t))
subscripts_end no_exprs t = refl
subscripts_end (exprs e es) t = refl

equals_unopened : (t : Text) → after (40 ∷ []) (61 ∷ t) ≡ None
unfolding after when
equals_unopened t = refl

equals_again : (t : Text) → after (61 ∷ []) (61 ∷ t) ≡ Some t
unfolding after when
equals_again t = refl

value_again : (e : ExprTree) → IsWellExpr e → value_of (spell_expr e) ≡ Some e
unfolding value_of ◌>>=◌
value_again e well = rw (ends_again e well) refl

-- what stands behind the name on the left is read where its parts are
target_is : (n t : Text) (es : ExprsTree × Text) (rest : Text) (e : ExprTree) → subscripts_at (λ least rest. whole_expression_at rest) t ≡ Some es → after (61 ∷ []) es.1 ≡ Some rest → value_of rest ≡ Some e → target_of n t ≡ Some (assignment n es.0 e)
unfolding target_of ◌>>=◌
target_is n t es rest e a b c = rw (a, b, c) refl

assignment_is : (t : Text) (n : Text × Text) (s : ShapeTree) → name_at t ≡ Some n → after (codes "()=") n.1 ≡ None → target_of n.0 n.1 ≡ Some s → assignment_of t ≡ Some s
unfolding assignment_of ◌>>=◌ either
assignment_is t n s a b c = rw (a, b, c) refl

-- subscripts, or an equals sign alone, aren't ()=
no_definition : (es : ExprsTree) (t : Text) → AreWellSubscripts es → after (codes "()=") (spell_subscripts es ++ (61 ∷ t)) ≡ None
unfolding after when
no_definition no_exprs t well = refl
no_definition (exprs e es) t well =
    let same : (spell_exprs (exprs e es) ++ 41 ∷ []) ++ (61 ∷ t) ≡ spell_exprs (exprs e es) ++ (41 ∷ (61 ∷ t)) = append_assoc (spell_exprs (exprs e es)) (41 ∷ []) (61 ∷ t) in
    no_word is_first 41 (61 ∷ []) ((spell_exprs (exprs e es) ++ 41 ∷ []) ++ (61 ∷ t)) refl (subst (λ t. Starts is_first t) (sym same) (exprs_start e es (41 ∷ (61 ∷ t)) well.0))

pub assignment_again : (n : Text) (es : ExprsTree) (e : ExprTree) → IsWell (assignment n es e) → assignment_of (spell (assignment n es e)) ≡ Some (assignment n es e)
assignment_again n es e well =
    let behind = spell_subscripts es ++ (61 ∷ spell_expr e) in
    assignment_is (spell (assignment n es e)) (n, behind) (assignment n es e) (name_again n behind well.0 (subscripts_end es (spell_expr e))) (no_definition es (spell_expr e) well.1.0)
    (target_is n behind (es, 61 ∷ spell_expr e) (spell_expr e) e
    (subscripts_again (λ least rest. whole_expression_at rest) (length behind) es (61 ∷ spell_expr e) (all_whole es (length behind) well.1.0) (equals_unopened (spell_expr e)) (omega arith))
    (equals_again (spell_expr e)) (value_again e well.1.1))

definition_is : (t n rest : Text) (e : ExprTree) → name_at t ≡ Some (n, codes "()=" ++ rest) → value_of rest ≡ Some e → assignment_of t ≡ Some (definition n e)
unfolding assignment_of ◌>>=◌ either after when
definition_is t n rest e a b = rw (a, b) refl

pub definition_again : (n : Text) (e : ExprTree) → IsWell (definition n e) → assignment_of (spell (definition n e)) ≡ Some (definition n e)
definition_again n e well = definition_is (spell (definition n e)) n (spell_expr e) e (name_again n (codes "()=" ++ spell_expr e) well.0 refl) (value_again e well.1)

two_quotes : (n : ℕ) (read u : Text) → quoted_at (suc n) read (39 ∷ (39 ∷ u)) ≡ quoted_at n (read ++ (39 ∷ (39 ∷ []))) u
unfolding quoted_at either after when
two_quotes n read u = refl

pub quoted_again : (n : ℕ) (read t rest : Text) → is_paired t ≡ true → after (39 ∷ []) rest ≡ None → length (t ++ (39 ∷ rest)) < n → quoted_at n read (t ++ (39 ∷ rest)) ≡ Some (read ++ t, rest)
unfolding quoted_at either
quoted_again zero read t rest paired none enough = absurd (omega arith)
quoted_again (suc n) read [] rest paired none enough = rw none (ap (λ r. Some (r, rest)) (sym (append-nil read)))
quoted_again (suc n) read (c ∷ []) rest paired none enough =
    elim (cases_Bool (eqb c 39)) [
      | inl quote ↦ let no : false ≡ true = rw quote at paired in absurd cc
      | inr other ↦ rw other (quoted_again n (read ++ (c ∷ [])) [] rest refl none (omega arith) ∙ ap (λ r. Some (r, rest)) (append_assoc read (c ∷ []) []))
    ]
quoted_again (suc n) read (c ∷ d ∷ t) rest paired none enough =
    elim (cases_Bool (eqb c 39)) [
      | inl quote ↦
          let both = and_parts (eqb d 39) (is_paired t) (rw quote at paired) in
          let c_is : c ≡ 39 = eqb-true c 39 quote in
          let d_is : d ≡ 39 = eqb-true d 39 both.0 in
          let two : quoted_at (suc n) read (39 ∷ (39 ∷ (t ++ (39 ∷ rest)))) ≡ Some (read ++ (39 ∷ (39 ∷ t)), rest) =
          two_quotes n read (t ++ (39 ∷ rest)) ∙ quoted_again n (read ++ (39 ∷ (39 ∷ []))) t rest both.1 none (omega arith) ∙ ap (λ r. Some (r, rest)) (append_assoc read (39 ∷ (39 ∷ [])) t) in
          rw (c_is, d_is) two
      | inr other ↦ rw other (quoted_again n (read ++ (c ∷ [])) (d ∷ t) rest (rw other at paired) none (omega arith) ∙ ap (λ r. Some (r, rest)) (append_assoc read (c ∷ []) (d ∷ t)))
    ]

-- what may follow a format
pub record FollowsSource (rest : Text) : Type 0 where
  pub ends : stops_at is_digit rest
  pub unquoted : after (39 ∷ []) rest ≡ None

label_source : (t : Text) (l : Text × Text) → after (39 ∷ []) t ≡ None → label_at t ≡ Some l → source_at t ≡ Some (format_label l.0, l.1)
unfolding source_at either ◌>>=◌
label_source t l none read = rw (none, read) refl

constant_source : (u : Text) (x : Text × Text) → quoted_at (suc (length u)) [] u ≡ Some x → source_at (39 ∷ u) ≡ Some (format_constant x.0, x.1)
unfolding source_at either ◌>>=◌ after when
constant_source u x read = rw read refl

label_starts : (l rest : Text) → is_label l ≡ true → Starts is_alphanumeric (l ++ rest)
label_starts l rest well = digits_start l rest (and_parts _ _ (and_parts _ _ well).0).0

source_again : (f : FormatTree) (rest : Text) → IsWellSource f → FollowsSource rest → source_at (spell_source f ++ rest) ≡ Some (f, rest)
source_again (format_label l) rest well f =
    label_source (l ++ rest) (l, rest) (no_word is_alphanumeric 39 [] (l ++ rest) refl (label_starts l rest well)) (label_again l rest well f.ends)
source_again (format_constant t) rest well f =
    let u = t ++ (39 ∷ rest) in
    let same : spell_quoted t ++ rest ≡ 39 ∷ u = ap (λ u. 39 ∷ u) (append_assoc t (39 ∷ []) rest) in
    ap source_at same ∙ constant_source u (t, rest) (quoted_again (suc (length u)) [] t rest well f.unquoted (omega arith))

parenthesis_follows_source : (t : Text) → FollowsSource (41 ∷ t)
unfolding after when
parenthesis_follows_source t = record { ends = refl; unquoted = refl }

comma_follows_source : (t : Text) → FollowsSource (44 ∷ t)
unfolding after when
comma_follows_source t = record { ends = refl; unquoted = refl }

items_follow_source : (xs : ListItemsTree) → FollowsSource (spell_items_behind xs)
unfolding after when
items_follow_source no_items = record { ends = tt; unquoted = refl }
items_follow_source (more_items x xs) = comma_follows_source (spell_item x ++ spell_items_behind xs)

-- a unit without a keyword and a comma behind it don't begin with a keyword
module _ (word : Text) (marked : (r : Text) → head_is_equals (marks_at 0 false (word ++ r)) ≡ true) where
  no_keyword : (u : UnitTree) (t : Text) → IsWellUnit u → after word (spell_unit u ++ (44 ∷ t)) ≡ None
  unfolding marks_at
  no_keyword u t well = at_word (after word (spell_unit u ++ (44 ∷ t))) refl
    where
      at_word : (o : Option Text) → after word (spell_unit u ++ (44 ∷ t)) ≡ o → after word (spell_unit u ++ (44 ∷ t)) ≡ None
      at_word None is = is
      at_word (Some r) is =
          let same : marks_at 0 false (word ++ r) ≡ 44 ∷ marks_at 0 false t = ap (marks 0) (sym (after_takes word (spell_unit u ++ (44 ∷ t)) r is)) ∙ unit_passes u well 0 (44 ∷ t) in
          let no : false ≡ true = sym (ap head_is_equals same) ∙ marked r in
          absurd (true≢false (sym no))

fmt_marked : (r : Text) → head_is_equals (marks_at 0 false (codes "FMT=" ++ r)) ≡ true
unfolding marks_at
fmt_marked r = refl

unit_marked : (r : Text) → head_is_equals (marks_at 0 false (codes "UNIT=" ++ r)) ≡ true
unfolding marks_at
unit_marked r = refl

format_first_is : (u : UnitTree) (f : FormatTree) (m behind rest : Text) → source_at m ≡ Some (f, codes ",UNIT=" ++ behind) → unit_at behind ≡ Some (u, rest) → control_at (codes "FMT=" ++ m) ≡ Some (record { order = orders.FormatFirst; unit = u; source = f }, rest)
unfolding control_at format_first_at either ◌>>=◌ after when
format_first_is u f m behind rest a b = rw (a, b) refl

unit_first_is : (u : UnitTree) (f : FormatTree) (m behind rest : Text) → unit_at m ≡ Some (u, codes ",FMT=" ++ behind) → source_at behind ≡ Some (f, rest) → control_at (codes "UNIT=" ++ m) ≡ Some (record { order = orders.UnitFirst; unit = u; source = f }, rest)
unfolding control_at unit_first_at either ◌>>=◌ after when
unit_first_is u f m behind rest a b = rw (a, b) refl

unnamed_is : (t behind : Text) (u : UnitTree) (x : ControlTree × Text) → after (codes "FMT=") t ≡ None → after (codes "UNIT=") t ≡ None → unit_at t ≡ Some (u, behind) → behind_unit_at u behind ≡ Some x → control_at t ≡ Some x
unfolding control_at either ◌>>=◌
unnamed_is t behind u x a b c d = rw (a, b, c) d

named_behind : (u : UnitTree) (f : FormatTree) (m rest : Text) → source_at m ≡ Some (f, rest) → behind_unit_at u (codes ",FMT=" ++ m) ≡ Some (record { order = orders.FormatNamed; unit = u; source = f }, rest)
unfolding behind_unit_at either ◌>>=◌ after when
named_behind u f m rest a = rw a refl

plain_behind : (u : UnitTree) (f : FormatTree) (m rest : Text) → after (codes ",FMT=") (44 ∷ m) ≡ None → source_at m ≡ Some (f, rest) → behind_unit_at u (44 ∷ m) ≡ Some (record { order = orders.Plain; unit = u; source = f }, rest)
unfolding behind_unit_at either ◌>>=◌
plain_behind u f m rest none a = rw (none, after_again (44 ∷ []) m, a) refl

-- a format doesn't begin with FMT=
source_unnamed : (f : FormatTree) (rest : Text) → IsWellSource f → after (codes ",FMT=") (44 ∷ (spell_source f ++ rest)) ≡ None
unfolding after when
source_unnamed (format_label []) rest well = absurd cc
source_unnamed (format_label (c ∷ l)) rest well =
    let digits : list_all is_digit (c ∷ l) ≡ true = (and_parts _ _ (and_parts _ _ (and_parts _ _ well).0).0).1 in
    no_word is_digit 70 (codes "MT=") (c ∷ (l ++ rest)) refl (and_parts _ _ digits).0
source_unnamed (format_constant t) rest well = refl

control_by_again : (order : ControlOrder) (u : UnitTree) (f : FormatTree) (t : Text) → IsWellUnit u → IsWellSource f → control_at (spell_control_by order u f ++ (41 ∷ t)) ≡ Some (record { order = order; unit = u; source = f }, 41 ∷ t)
control_by_again orders.Plain u f t well_u well_f =
    let m = spell_source f ++ (41 ∷ t) in
    let same : (spell_unit u ++ (44 ∷ spell_source f)) ++ (41 ∷ t) ≡ spell_unit u ++ (44 ∷ m) = append_assoc (spell_unit u) (44 ∷ spell_source f) (41 ∷ t) in
    ap control_at same ∙ unnamed_is (spell_unit u ++ (44 ∷ m)) (44 ∷ m) u (record { order = orders.Plain; unit = u; source = f }, 41 ∷ t)
    (no_keyword (codes "FMT=") fmt_marked u m well_u) (no_keyword (codes "UNIT=") unit_marked u m well_u) (unit_again u (44 ∷ m) well_u (comma_follows m))
    (plain_behind u f m (41 ∷ t) (source_unnamed f (41 ∷ t) well_f) (source_again f (41 ∷ t) well_f (parenthesis_follows_source t)))
control_by_again orders.FormatNamed u f t well_u well_f =
    let m = spell_source f ++ (41 ∷ t) in
    let same : (spell_unit u ++ (codes ",FMT=" ++ spell_source f)) ++ (41 ∷ t) ≡ spell_unit u ++ (codes ",FMT=" ++ m) = append_assoc (spell_unit u) (codes ",FMT=" ++ spell_source f) (41 ∷ t) in
    ap control_at same ∙ unnamed_is (spell_unit u ++ (codes ",FMT=" ++ m)) (codes ",FMT=" ++ m) u (record { order = orders.FormatNamed; unit = u; source = f }, 41 ∷ t)
    (no_keyword (codes "FMT=") fmt_marked u (codes "FMT=" ++ m) well_u) (no_keyword (codes "UNIT=") unit_marked u (codes "FMT=" ++ m) well_u) (unit_again u (codes ",FMT=" ++ m) well_u (comma_follows (codes "FMT=" ++ m)))
    (named_behind u f m (41 ∷ t) (source_again f (41 ∷ t) well_f (parenthesis_follows_source t)))
control_by_again orders.UnitFirst u f t well_u well_f =
    let m = spell_source f ++ (41 ∷ t) in
    let same : (spell_unit u ++ (codes ",FMT=" ++ spell_source f)) ++ (41 ∷ t) ≡ spell_unit u ++ (codes ",FMT=" ++ m) = append_assoc (spell_unit u) (codes ",FMT=" ++ spell_source f) (41 ∷ t) in
    ap (λ s. control_at (codes "UNIT=" ++ s)) same ∙ unit_first_is u f (spell_unit u ++ (codes ",FMT=" ++ m)) m (41 ∷ t) (unit_again u (codes ",FMT=" ++ m) well_u (comma_follows (codes "FMT=" ++ m))) (source_again f (41 ∷ t) well_f (parenthesis_follows_source t))
control_by_again orders.FormatFirst u f t well_u well_f =
    let m = spell_unit u ++ (41 ∷ t) in
    let same : (spell_source f ++ (codes ",UNIT=" ++ spell_unit u)) ++ (41 ∷ t) ≡ spell_source f ++ (codes ",UNIT=" ++ m) = append_assoc (spell_source f) (codes ",UNIT=" ++ spell_unit u) (41 ∷ t) in
    ap (λ s. control_at (codes "FMT=" ++ s)) same ∙ format_first_is u f (spell_source f ++ (codes ",UNIT=" ++ m)) m (41 ∷ t) (source_again f (codes ",UNIT=" ++ m) well_f (comma_follows_source (codes "UNIT=" ++ m))) (unit_again u (41 ∷ t) well_u (parenthesis_follows t))

writing_is : (c : ControlTree) (m : Text) (xs : ListItemsTree) (list : Text) → control_at m ≡ Some (c, 41 ∷ list) → list_of list ≡ Some xs → writing_of (codes "WRITE(" ++ m) ≡ Some (writing c xs)
unfolding writing_of ◌>>=◌ after when
writing_is c m xs list a b = rw (a, b) refl

pub writing_again : (c : ControlTree) (xs : ListItemsTree) → IsWell (writing c xs) → writing_of (spell (writing c xs)) ≡ Some (writing c xs)
writing_again c xs well =
    writing_is c (spell_control c ++ (41 ∷ spell_items xs)) xs (spell_items xs) (control_by_again c.order c.unit c.source (spell_items xs) well.0.0 well.0.1) (list_again xs well.1)

pub printing_again : (f : FormatTree) (xs : ListItemsTree) → IsWell (printing f xs) → printing_of (spell (printing f xs)) ≡ Some (printing f xs)
unfolding printing_of ◌>>=◌ after when
printing_again f xs well = rw (source_again f (spell_items_behind xs) well.0 (items_follow_source xs), list_behind_again xs well.1) refl

pub format_again : (t : Text) → IsWell (format t) → format_of (spell (format t)) ≡ Some (format t)
unfolding format_of ◌>>=◌ after when
format_again t well = rw (before_again t, well) refl

-- a DO statement is read where its parts are, if the text ends behind them
-- a label with a comma or none, or neither, before a name
digits_begin : (l t : Text) → is_label l ≡ true → begins_with_digit (l ++ t) ≡ true
digits_begin [] t well = absurd cc
digits_begin (c ∷ l) t well =
    let digits : list_all is_digit (c ∷ l) ≡ true = (and_parts _ _ (and_parts _ _ (and_parts _ _ well).0).0).1 in (and_parts _ _ digits).0

name_begins : (v t : Text) → is_name v ≡ true → begins_with_digit (v ++ t) ≡ false
name_begins [] t well = absurd cc
name_begins (c ∷ v) t well = comma_ends false (c ∷ v) t well

label_is : (t : Text) (l : Text × Text) (c : Bool × Text) → begins_with_digit t ≡ true → label_at t ≡ Some l → comma_at l.1 ≡ c → range_label_at t ≡ Some ((Some l.0, c.0), c.1)
unfolding range_label_at ◌>>=◌
label_is t l c a b d = rw (a, b, d) refl

no_label_is : (t : Text) → begins_with_digit t ≡ false → range_label_at t ≡ Some ((None, false), t)
unfolding range_label_at
no_label_is t a = rw a refl

range_label_again : (label : Option Text) (comma : Bool) (v t : Text) → IsWellRangeLabel label comma → is_name v ≡ true → range_label_at (spell_range_label label comma ++ (v ++ t)) ≡ Some ((label, comma), v ++ t)
range_label_again None true v t well named = absurd cc
range_label_again None false v t well named = no_label_is (v ++ t) (name_begins v t named)
range_label_again (Some l) comma v t well named =
    let behind = spell_comma comma ++ (v ++ t) in
    ap range_label_at (append_assoc l (spell_comma comma) (v ++ t)) ∙ label_is (l ++ behind) (l, behind) (comma, v ++ t) (digits_begin l behind well) (label_again l behind well (comma_ends comma v t named)) (comma_again comma v t named)

doing_is : (t rest : Text) (l : RangeLabel × Text) (v : Text × Text) (behind : Text) (limits : LimitsTree × Text) → after (codes "DO") t ≡ Some rest → range_label_at rest ≡ Some l → name_at l.1 ≡ Some v
    → after (61 ∷ []) v.1 ≡ Some behind → limits_at behind ≡ Some limits → doing_of t ≡ at_end (doing l.0.0 l.0.1 v.0 limits.0, limits.1)
unfolding doing_of ◌>>=◌
doing_is t rest l v behind limits a b c d e = rw (a, b, c, d, e) refl

pub doing_again : (l : Option Text) (comma : Bool) (v : Text) (m : LimitsTree) → IsWell (doing l comma v m) → doing_of (spell (doing l comma v m)) ≡ Some (doing l comma v m)
unfolding after when
doing_again l comma v m well =
    let limits = spell_limits m in
    let behind = v ++ (61 ∷ limits) in
    doing_is (spell (doing l comma v m)) (spell_range_label l comma ++ behind) ((l, comma), behind) (v, 61 ∷ limits) limits (m, []) refl
    (range_label_again l comma v (61 ∷ limits) well.0 well.1.0) (name_again v (61 ∷ limits) well.1.0 refl) refl
    (limits_again m.first m.last m.step well.1.1.0 well.1.1.1.0 well.1.1.1.1)

while_is : (t rest : Text) (l : RangeLabel × Text) (opened : Text) (e : ExprTree × Text) (behind : Text) → after (codes "DO") t ≡ Some rest → range_label_at rest ≡ Some l → after (codes "WHILE(") l.1 ≡ Some opened
    → whole_expression_at opened ≡ Some e → after (41 ∷ []) e.1 ≡ Some behind → doing_while_of t ≡ at_end (doing_while l.0.0 l.0.1 e.0, behind)
unfolding doing_while_of ◌>>=◌
while_is t rest l opened e behind a b c d f = rw (a, b, c, d, f) refl

pub doing_while_again : (l : Option Text) (comma : Bool) (e : ExprTree) → IsWell (doing_while l comma e) → doing_while_of (spell (doing_while l comma e)) ≡ Some (doing_while l comma e)
unfolding after when
doing_while_again l comma e well =
    let opened = spell_expr e ++ 41 ∷ [] in
    while_is (spell (doing_while l comma e)) (spell_range_label l comma ++ (codes "WHILE(" ++ opened)) ((l, comma), codes "WHILE(" ++ opened) opened (e, 41 ∷ []) [] refl
    (range_label_again l comma (codes "WHILE") (40 ∷ opened) well.0 refl) refl (whole_again e (41 ∷ []) well.1 (parenthesis_follows [])) refl

pub end_do_again : alone_of (codes "ENDDO") end_do (codes "ENDDO") ≡ Some end_do
unfolding alone_of ◌>>=◌ after when
end_do_again = refl

pub implicit_none_again : alone_of (codes "IMPLICITNONE") implicit_none (codes "IMPLICITNONE") ≡ Some implicit_none
unfolding alone_of ◌>>=◌ after when
implicit_none_again = refl

pub continuing_again : alone_of (codes "CONTINUE") continuing (codes "CONTINUE") ≡ Some continuing
unfolding alone_of ◌>>=◌ after when
continuing_again = refl

pub ending_again : alone_of (codes "END") ending (codes "END") ≡ Some ending
unfolding alone_of ◌>>=◌ after when
ending_again = refl

pub otherwise_again : alone_of (codes "ELSE") otherwise (codes "ELSE") ≡ Some otherwise
unfolding alone_of ◌>>=◌ after when
otherwise_again = refl

pub end_if_again : alone_of (codes "ENDIF") end_if (codes "ENDIF") ≡ Some end_if
unfolding alone_of ◌>>=◌ after when
end_if_again = refl

-- ---- type statements

-- what may follow bounds
pub record FollowsBounds (t : Text) : Type 0 where
  pub follows : Follows 0 t
  pub no_colon : after (58 ∷ []) t ≡ None

bounds_alone : (t rest : Text) (u : ExprTree) → whole_expression_at t ≡ Some (u, rest) → after (58 ∷ []) rest ≡ None → bounds_at t ≡ Some (record { lower = None; upper = u }, rest)
unfolding bounds_at ◌>>=◌ either
bounds_alone t rest u read none = rw (read, none) refl

bounds_both : (t v rest : Text) (e u : ExprTree) → whole_expression_at t ≡ Some (e, 58 ∷ v) → whole_expression_at v ≡ Some (u, rest) → bounds_at t ≡ Some (record { lower = Some e; upper = u }, rest)
unfolding bounds_at ◌>>=◌ either after when
bounds_both t v rest e u read read' = rw (read, read') refl

bounds_by : (o : Option ExprTree) (u : ExprTree) (rest : Text) → IsWellStep o → IsWellExpr u → FollowsBounds rest → bounds_at ((spell_lower o ++ spell_expr u) ++ rest) ≡ Some (record { lower = o; upper = u }, rest)
bounds_by None u rest lower upper f = bounds_alone (spell_expr u ++ rest) rest u (whole_again u rest upper f.follows) f.no_colon
bounds_by (Some e) u rest lower upper f =
    let behind = spell_expr u ++ rest in
    let same : ((spell_expr e ++ 58 ∷ []) ++ spell_expr u) ++ rest ≡ spell_expr e ++ (58 ∷ behind) = append_assoc (spell_expr e ++ 58 ∷ []) (spell_expr u) rest ∙ append_assoc (spell_expr e) (58 ∷ []) behind in
    ap bounds_at same ∙ bounds_both (spell_expr e ++ (58 ∷ behind)) behind rest e u (whole_again e (58 ∷ behind) lower (colon_follows behind)) (whole_again u rest upper f.follows)

bounds_again : (b : BoundsTree) (rest : Text) → IsWellBounds b → FollowsBounds rest → bounds_at (spell_bounds b ++ rest) ≡ Some (b, rest)
bounds_again b rest well f = bounds_by b.lower b.upper rest well.0 well.1 f

no_comma_at_end : after (44 ∷ []) [] ≡ None
unfolding after
no_comma_at_end = refl

module _ (A : Type 0) (one : Reader A) (spelling : A → Text) (IsWellOne : A → Type 0) (MayFollow : Text → Type 0) where
  last_read : (n : ℕ) (x : A) (t rest : Text) → one t ≡ Some (x, rest) → after (44 ∷ []) rest ≡ None → separated_at one (suc n) t ≡ Some (x ∷ [], rest)
  unfolding separated_at ◌>>=◌ either
  last_read n x t rest read no_comma = rw (read, no_comma) refl

  next_read : (n : ℕ) (x : A) (xs : List A) (t u rest : Text) → one t ≡ Some (x, 44 ∷ u) → separated_at one n u ≡ Some (xs, rest) → separated_at one (suc n) t ≡ Some (x ∷ xs, rest)
  unfolding separated_at ◌>>=◌ either after when
  next_read n x xs t u rest read others = rw (read, others) refl

  separated_again : ((x : A) (rest : Text) → IsWellOne x → MayFollow rest → one (spelling x ++ rest) ≡ Some (x, rest)) → ((t : Text) → MayFollow (44 ∷ t)) → (n : ℕ) (x : A) (xs : List A) (rest : Text) → AllByRecursion IsWellOne (x ∷ xs) → MayFollow rest → after (44 ∷ []) rest ≡ None
      → length (joined spelling (x ∷ xs) ++ rest) < n → separated_at one n (joined spelling (x ∷ xs) ++ rest) ≡ Some (x ∷ xs, rest)
  separated_again again comma zero x xs rest well f no_comma enough = absurd (omega arith)
  separated_again again comma (suc n) x [] rest well f no_comma enough =
      let same : joined spelling (x ∷ []) ++ rest ≡ spelling x ++ rest = ap (λ t. t ++ rest) (append-nil (spelling x)) in
      ap (separated_at one (suc n)) same ∙ last_read n x (spelling x ++ rest) rest (again x rest well.0 f) no_comma
  separated_again again comma (suc n) x (y ∷ ys) rest well f no_comma enough =
      let behind = joined spelling (y ∷ ys) ++ rest in
      let same : joined spelling (x ∷ y ∷ ys) ++ rest ≡ spelling x ++ (44 ∷ behind) = append_assoc (spelling x) (joined_more spelling (y ∷ ys)) rest in
      let enough' : length (spelling x ++ (44 ∷ behind)) < suc n = subst (λ t. length t < suc n) same enough in
      let long = length-append (spelling x) (44 ∷ behind) in
      ap (separated_at one (suc n)) same ∙ next_read n x (y ∷ ys) (spelling x ++ (44 ∷ behind)) behind rest (again x (44 ∷ behind) well.0 (comma behind)) (separated_again again comma n y ys rest well.1 f no_comma (omega (arith, long)))

  -- up to what may stand behind them
  pub many_again : ((x : A) (rest : Text) → IsWellOne x → MayFollow rest → one (spelling x ++ rest) ≡ Some (x, rest)) → ((t : Text) → MayFollow (44 ∷ t)) → (xs : List A) (rest : Text) → AreWell IsWellOne xs → MayFollow rest → after (44 ∷ []) rest ≡ None
      → separated_at one (suc (length (joined spelling xs ++ rest))) (joined spelling xs ++ rest) ≡ Some (xs, rest)
  many_again again comma [] rest well f no_comma = let some : ltb 0 (length {A = A} []) ≡ true = well.0 in absurd cc
  many_again again comma (x ∷ xs) rest well f no_comma = separated_again again comma (suc (length (joined spelling (x ∷ xs) ++ rest))) x xs rest well.1 f no_comma (omega arith)

  -- up to a closing parenthesis
  closed_again : ((x : A) (rest : Text) → IsWellOne x → MayFollow rest → one (spelling x ++ rest) ≡ Some (x, rest)) → ((t : Text) → MayFollow (44 ∷ t)) → ((t : Text) → MayFollow (41 ∷ t)) → (xs : List A) (rest : Text) → AreWell IsWellOne xs
      → separated_at one (suc (length (joined spelling xs ++ (41 ∷ rest)))) (joined spelling xs ++ (41 ∷ rest)) ≡ Some (xs, 41 ∷ rest)
  closed_again again comma parenthesis xs rest well = many_again again comma xs (41 ∷ rest) well (parenthesis rest) (no_comma_behind rest)

  -- up to the end
  ended_again : ((x : A) (rest : Text) → IsWellOne x → MayFollow rest → one (spelling x ++ rest) ≡ Some (x, rest)) → ((t : Text) → MayFollow (44 ∷ t)) → MayFollow [] → (xs : List A) → AreWell IsWellOne xs
      → separated_at one (suc (length (joined spelling xs))) (joined spelling xs) ≡ Some (xs, [])
  ended_again again comma end [] well = let some : ltb 0 (length {A = A} []) ≡ true = well.0 in absurd cc
  ended_again again comma end (x ∷ xs) well =
      subst (λ t. separated_at one (suc (length t)) t ≡ Some (x ∷ xs, [])) (append-nil (joined spelling (x ∷ xs)))
      (separated_again again comma (suc (length (joined spelling (x ∷ xs) ++ []))) x xs [] well.1 end no_comma_at_end (omega arith))

comma_follows_bounds : (t : Text) → FollowsBounds (44 ∷ t)
unfolding after when
comma_follows_bounds t = record { follows = comma_follows t; no_colon = refl }

parenthesis_follows_bounds : (t : Text) → FollowsBounds (41 ∷ t)
unfolding after when
parenthesis_follows_bounds t = record { follows = parenthesis_follows t; no_colon = refl }

no_dimensions : (t : Text) → after (40 ∷ []) t ≡ None → dimensions_at t ≡ Some ([], t)
unfolding dimensions_at either
no_dimensions t none = rw none refl

some_dimensions : (bs : List BoundsTree) (t rest : Text) → separated_at bounds_at (suc (length t)) t ≡ Some (bs, 41 ∷ rest) → dimensions_at (40 ∷ t) ≡ Some (bs, rest)
unfolding dimensions_at either ◌>>=◌ after when
some_dimensions bs t rest read = rw read refl

dimensions_again : (bs : List BoundsTree) (rest : Text) → AllByRecursion IsWellBounds bs → Follows 0 rest → dimensions_at (spell_dimensions bs ++ rest) ≡ Some (bs, rest)
dimensions_again [] rest well f = no_dimensions rest f.unopened
dimensions_again (b ∷ bs) rest well f =
    let inner = joined spell_bounds (b ∷ bs) ++ (41 ∷ rest) in
    let same : spell_dimensions (b ∷ bs) ++ rest ≡ 40 ∷ inner = ap (λ t. t ++ rest) (joined_bounds (b ∷ bs) (has_some b bs)) ∙ ap (λ t. 40 ∷ t) (append_assoc (joined spell_bounds (b ∷ bs)) (41 ∷ []) rest) in
    ap dimensions_at same ∙ some_dimensions (b ∷ bs) inner rest
    (separated_again BoundsTree bounds_at spell_bounds IsWellBounds FollowsBounds bounds_again comma_follows_bounds (suc (length inner)) b bs (41 ∷ rest) well (parenthesis_follows_bounds rest) (no_comma_behind rest) (omega arith))

dimensions_end : (bs : List BoundsTree) (rest : Text) → Follows 0 rest → stops_at is_alphanumeric (spell_dimensions bs ++ rest)
dimensions_end [] rest f = f.ends
dimensions_end (b ∷ bs) rest f = refl

declarator_is : (t : Text) (n : Text × Text) (bs : List BoundsTree × Text) → name_at t ≡ Some n → dimensions_at n.1 ≡ Some bs → declarator_at t ≡ Some (record { name = n.0; bounds = bs.0 }, bs.1)
unfolding declarator_at ◌>>=◌
declarator_is t n bs a b = rw (a, b) refl

declarator_again : (d : DeclaratorTree) (rest : Text) → IsWellDeclarator d → Follows 0 rest → declarator_at (spell_declarator d ++ rest) ≡ Some (d, rest)
declarator_again d rest well f =
    let behind = spell_dimensions d.bounds ++ rest in
    ap declarator_at (append_assoc d.name (spell_dimensions d.bounds) rest) ∙ declarator_is (d.name ++ behind) (d.name, behind) (d.bounds, rest) (name_again d.name behind well.0 (dimensions_end d.bounds rest f)) (dimensions_again d.bounds rest well.1 f)

declarators_is : (word t : Text) (ds : List DeclaratorTree) → separated_at declarator_at (suc (length t)) t ≡ Some (ds, []) → declarators_of word (word ++ t) ≡ Some ds
unfolding declarators_of ◌>>=◌
declarators_is word t ds read = rw (after_again word t, read) refl

declaring_again : (word : Text) (ds : List DeclaratorTree) → AreWell IsWellDeclarator ds → declarators_of word (word ++ spell_declarators ds) ≡ Some ds
declaring_again word ds well =
    ap (λ t. declarators_of word (word ++ t)) (joined_declarators ds) ∙ declarators_is word (joined spell_declarator ds) ds
    (ended_again DeclaratorTree declarator_at spell_declarator IsWellDeclarator (Follows 0) declarator_again comma_follows end_follows ds well)

pub typing_again : (ds : List DeclaratorTree) → IsWell (typing ds) → typing_of (spell (typing ds)) ≡ Some (typing ds)
unfolding typing_of ◌>>=◌
typing_again ds well = rw (declaring_again (codes "INTEGER") ds well) refl

pub logical_typing_again : (ds : List DeclaratorTree) → IsWell (logical_typing ds) → logical_typing_of (spell (logical_typing ds)) ≡ Some (logical_typing ds)
unfolding logical_typing_of ◌>>=◌
logical_typing_again ds well = rw (declaring_again (codes "LOGICAL") ds well) refl

all_bounded : (ds : List DeclaratorTree) → AllByRecursion IsWellArray ds → list_all has_bounds ds ≡ true
all_bounded [] well = refl
all_bounded (d ∷ ds) well = and_from _ _ well.0.0 (all_bounded ds well.1)

pub dimensioning_again : (ds : List DeclaratorTree) → IsWell (dimensioning ds) → dimensioning_of (spell (dimensioning ds)) ≡ Some (dimensioning ds)
unfolding dimensioning_of ◌>>=◌ when
dimensioning_again ds well = rw (declaring_again (codes "DIMENSION") ds (well.0, bounded_too ds well.1), all_bounded ds well.1) refl

-- ---- PROGRAM, IMPLICIT and PARAMETER statements

name_ends : (n : Text) → is_name n ≡ true → name_at n ≡ Some (n, [])
name_ends n well = subst (λ t. name_at t ≡ Some (n, [])) (append-nil n) (name_again n [] well tt)

pub label_ends : (l : Text) → is_label l ≡ true → label_at l ≡ Some (l, [])
label_ends l well = subst (λ t. label_at t ≡ Some (l, [])) (append-nil l) (label_again l [] well tt)

pub naming_again : (n : Text) → IsWell (naming n) → naming_of (spell (naming n)) ≡ Some (naming n)
unfolding naming_of ◌>>=◌ after when
naming_again n well = rw (name_ends n well) refl

letter_again : (c : ℕ) (rest : Text) → is_letter c ≡ true → letter_at (c ∷ rest) ≡ Some (c, rest)
unfolding letter_at when
letter_again c rest well = rw well refl

-- what may follow letters
abbrev pub FollowsLetters : Text → Type 0
FollowsLetters t = after (45 ∷ []) t ≡ None

one_letter : (a : ℕ) (rest : Text) → letter_at (a ∷ rest) ≡ Some (a, rest) → after (45 ∷ []) rest ≡ None → letters_at (a ∷ rest) ≡ Some (record { first_letter = a; last_letter = None }, rest)
unfolding letters_at ◌>>=◌ either
one_letter a rest read none = rw (read, none) refl

two_letters : (a b : ℕ) (rest : Text) → letter_at (a ∷ (45 ∷ (b ∷ rest))) ≡ Some (a, 45 ∷ (b ∷ rest)) → letter_at (b ∷ rest) ≡ Some (b, rest) → letters_at (a ∷ (45 ∷ (b ∷ rest))) ≡ Some (record { first_letter = a; last_letter = Some b }, rest)
unfolding letters_at ◌>>=◌ either after when
two_letters a b rest read read' = rw (read, read') refl

letters_by : (a : ℕ) (o : Option ℕ) (rest : Text) → is_letter a ≡ true → IsWellLast o → FollowsLetters rest → letters_at (a ∷ (spell_last o ++ rest)) ≡ Some (record { first_letter = a; last_letter = o }, rest)
letters_by a None rest well last f = one_letter a rest (letter_again a rest well) f
letters_by a (Some b) rest well last f = two_letters a b rest (letter_again a (45 ∷ (b ∷ rest)) well) (letter_again b rest last)

letters_again : (l : LettersTree) (rest : Text) → IsWellLetters l → FollowsLetters rest → letters_at (spell_letters l ++ rest) ≡ Some (l, rest)
letters_again l rest well f = letters_by l.first_letter l.last_letter rest well.0 well.1 f

comma_follows_letters : (t : Text) → FollowsLetters (44 ∷ t)
unfolding after when
comma_follows_letters t = refl

parenthesis_follows_letters : (t : Text) → FollowsLetters (41 ∷ t)
unfolding after when
parenthesis_follows_letters t = refl

type_again : (k : DataType) (rest : Text) → type_at (type_text k ++ rest) ≡ Some (k, rest)
unfolding type_at either after when
type_again types.Integer rest = refl
type_again types.Logical rest = refl

implicit_is : (t : Text) (k : DataType × Text) (rest : Text) (ls : List LettersTree × Text) (behind : Text) → type_at t ≡ Some k → after (40 ∷ []) k.1 ≡ Some rest → separated_at letters_at (suc (length rest)) rest ≡ Some ls → after (41 ∷ []) ls.1 ≡ Some behind
    → implicit_at t ≡ Some (record { data_type = k.0; letters = ls.0 }, behind)
unfolding implicit_at ◌>>=◌
implicit_is t k rest ls behind a b c d = rw (a, b, c, d) refl

implicit_by : (k : DataType) (ls : List LettersTree) (rest : Text) → AreWell IsWellLetters ls → implicit_at ((type_text k ++ (40 ∷ (joined spell_letters ls ++ 41 ∷ []))) ++ rest) ≡ Some (record { data_type = k; letters = ls }, rest)
implicit_by k ls rest well =
    let inner = joined spell_letters ls ++ (41 ∷ rest) in
    let same : (type_text k ++ (40 ∷ (joined spell_letters ls ++ 41 ∷ []))) ++ rest ≡ type_text k ++ (40 ∷ inner) =
    append_assoc (type_text k) (40 ∷ (joined spell_letters ls ++ 41 ∷ [])) rest ∙ ap (λ t. type_text k ++ (40 ∷ t)) (append_assoc (joined spell_letters ls) (41 ∷ []) rest) in
    ap implicit_at same ∙ implicit_is (type_text k ++ (40 ∷ inner)) (k, 40 ∷ inner) inner (ls, 41 ∷ rest) rest (type_again k (40 ∷ inner)) (after_again (40 ∷ []) inner)
    (closed_again LettersTree letters_at spell_letters IsWellLetters FollowsLetters letters_again comma_follows_letters parenthesis_follows_letters ls rest well) (after_again (41 ∷ []) rest)

implicit_again : (p : ImplicitTree) (rest : Text) → IsWellImplicit p → Unit {0} → implicit_at (spell_implicit p ++ rest) ≡ Some (p, rest)
implicit_again p rest well any = implicit_by p.data_type p.letters rest well

pub implying_again : (ps : List ImplicitTree) → IsWell (implying ps) → implying_of (spell (implying ps)) ≡ Some (implying ps)
unfolding implying_of ◌>>=◌ after when
implying_again ps well = rw (ended_again ImplicitTree implicit_at spell_implicit IsWellImplicit (λ t. Unit {0}) implicit_again (λ t. tt) tt ps well) refl

constant_is : (t : Text) (n : Text × Text) (rest : Text) (e : ExprTree × Text) → name_at t ≡ Some n → after (61 ∷ []) n.1 ≡ Some rest → whole_expression_at rest ≡ Some e → constant_at t ≡ Some (record { name = n.0; value = e.0 }, e.1)
unfolding constant_at ◌>>=◌
constant_is t n rest e a b c = rw (a, b, c) refl

constant_again : (c : ConstantTree) (rest : Text) → IsWellConstant c → Follows 0 rest → constant_at (spell_constant c ++ rest) ≡ Some (c, rest)
constant_again c rest well f =
    let behind = spell_expr c.value ++ rest in
    ap constant_at (append_assoc c.name (61 ∷ spell_expr c.value) rest) ∙ constant_is (c.name ++ (61 ∷ behind)) (c.name, 61 ∷ behind) behind (c.value, rest) (name_again c.name (61 ∷ behind) well.0 refl) (equals_again behind) (whole_again c.value rest well.1 f)

pub parameter_again : (cs : List ConstantTree) → IsWell (parameter cs) → parameter_of (spell (parameter cs)) ≡ Some (parameter cs)
unfolding parameter_of ◌>>=◌ after when
parameter_again cs well = rw (closed_again ConstantTree constant_at spell_constant IsWellConstant (Follows 0) constant_again comma_follows parenthesis_follows cs [] well) refl

-- ---- GO TO statements

pub going_again : (l : Text) → IsWell (going l) → going_of (spell (going l)) ≡ Some (going l)
unfolding going_of ◌>>=◌ after when
going_again l well = rw (label_ends l well) refl

no_comma_at : (t : Text) → after (44 ∷ []) t ≡ None → comma_at t ≡ (false, t)
unfolding comma_at either
no_comma_at t none = rw none refl

a_comma_at : (t : Text) → comma_at (44 ∷ t) ≡ (true, t)
unfolding comma_at either after when
a_comma_at t = refl

pub comma_starts : (comma : Bool) (t : Text) → Starts is_first t → comma_at (spell_comma comma ++ t) ≡ (comma, t)
comma_starts true t starts = a_comma_at t
comma_starts false t starts = no_comma_at t (no_word is_first 44 [] t refl starts)

comma_follows_label : (t : Text) → stops_at is_digit (44 ∷ t)
comma_follows_label t = refl

parenthesis_follows_label : (t : Text) → stops_at is_digit (41 ∷ t)
parenthesis_follows_label t = refl

computed_is : (t rest : Text) (ls : List Text × Text) (behind : Text) (e : ExprTree) → after (codes "GOTO(") t ≡ Some rest → separated_at label_at (suc (length rest)) rest ≡ Some ls → after (41 ∷ []) ls.1 ≡ Some behind → value_of (comma_at behind).1 ≡ Some e
    → computed_going_of t ≡ Some (computed_going ls.0 (comma_at behind).0 e)
unfolding computed_going_of ◌>>=◌
computed_is t rest ls behind e a b c d = rw (a, b, c, d) refl

pub computed_going_again : (ls : List Text) (comma : Bool) (e : ExprTree) → IsWell (computed_going ls comma e) → computed_going_of (spell (computed_going ls comma e)) ≡ Some (computed_going ls comma e)
computed_going_again ls comma e well =
    let v = spell_expr e in
    let behind = spell_comma comma ++ v in
    let starts : Starts is_first v = subst (λ t. Starts is_first t) (append-nil v) (expression_starts e [] well.1) in
    let comma_is = comma_starts comma v starts in
    computed_is (spell (computed_going ls comma e)) (joined spell_label ls ++ (41 ∷ behind)) (ls, 41 ∷ behind) behind e (after_again (codes "GOTO(") (joined spell_label ls ++ (41 ∷ behind)))
    (closed_again Text label_at spell_label IsWellLabel (stops_at is_digit) label_again comma_follows_label parenthesis_follows_label ls behind well.0) (after_again (41 ∷ []) behind) (ap (λ c. value_of c.1) comma_is ∙ value_again e well.1)
    ∙ ap (λ c. Some (computed_going ls c.0 e)) comma_is

-- Each form that is well formed reads as it was spelled.
use Rattle.std.proofs.Common.{◌≡◌, ℕ, suc, true, false, eqb, [], ◌∷◌, ◌++◌, length, Some, None, refl, arith}
use Rattle.std.specs.List.{list_all}
use Rattle.std.specs.Prelude.{codes}
use Rattle.std.proofs.lemmas.Bool.{and_parts}
use Rattle.std.proofs.lemmas.Bool.Decides.{nat_tests}
use Rattle.meaning.specs.Characters.{is_digit}
use Rattle.meaning.specs.Syntax.{ExprTree, StopTree, stop_silent, stop_digits, stop_text, ShapeTree, assignment, writing, printing, format, doing, continuing, typing, ending, naming, implying, logical_typing, dimensioning, parameter, initializing, definition, going, computed_going, arithmetic_if, logical_if, block_if, else_if, otherwise, end_if, stopping, doing_while, end_do, implicit_none}
use Rattle.meaning.specs.Spelling.{spell_expr, IsWellExpr, spell, IsWell}
use Rattle.meaning.specs.Reading.{Text, ◌>>=◌, when, after, condition_at, arithmetic_if_of, block_if_of, else_if_of, stop_of, stopping_of, simple_by, logical_if_of, shape_by, shape_of}
use Rattle.meaning.specs.Spelling.{spell_stop, IsWellStop, is_simple}
use Rattle.meaning.specs.Kinds.{kind_of_shape}
use Rattle.form_laws.proofs.Words.{after_again}
use Rattle.form_laws.proofs.Marks.{shape_kind}
use Rattle.form_laws.proofs.CompleteExpressions.{whole_again, parenthesis_follows, label_again}
use Rattle.form_laws.proofs.CompleteStatements.{label_ends, quoted_again, assignment_again, definition_again, going_again, computed_going_again, continuing_again, writing_again, printing_again, format_again, doing_again, doing_while_again, end_do_again, implicit_none_again, typing_again, ending_again, naming_again, implying_again, logical_typing_again, dimensioning_again, parameter_again, otherwise_again, end_if_again}
use Rattle.form_laws.proofs.CompleteData.{initializing_again}

-- ---- IF and STOP statements

condition_again : (word : Text) (e : ExprTree) (behind : Text) → IsWellExpr e → condition_at word (word ++ (spell_expr e ++ (41 ∷ behind))) ≡ Some (e, behind)
unfolding condition_at ◌>>=◌
condition_again word e behind well = rw (after_again word (spell_expr e ++ (41 ∷ behind)), whole_again e (41 ∷ behind) well (parenthesis_follows behind), after_again (41 ∷ []) behind) refl

arithmetic_if_again : (e : ExprTree) (n z p : Text) → IsWell (arithmetic_if e n z p) → arithmetic_if_of (spell (arithmetic_if e n z p)) ≡ Some (arithmetic_if e n z p)
unfolding arithmetic_if_of ◌>>=◌ after when
arithmetic_if_again e n z p well =
    rw (condition_again (codes "IF(") e (n ++ (44 ∷ (z ++ (44 ∷ p)))) well.0, label_again n (44 ∷ (z ++ (44 ∷ p))) well.1.0 refl, label_again z (44 ∷ p) well.1.1.0 refl, label_ends p well.1.1.1) refl

block_if_again : (e : ExprTree) → IsWell (block_if e) → block_if_of (spell (block_if e)) ≡ Some (block_if e)
unfolding block_if_of ◌>>=◌ after when
block_if_again e well = rw (condition_again (codes "IF(") e (codes "THEN") well) refl

else_if_again : (e : ExprTree) → IsWell (else_if e) → else_if_of (spell (else_if e)) ≡ Some (else_if e)
unfolding else_if_of ◌>>=◌ after when
else_if_again e well = rw (condition_again (codes "ELSEIF(") e (codes "THEN") well) refl

no_quote_at_end : after (39 ∷ []) [] ≡ None
unfolding after
no_quote_at_end = refl

digit_is_no_quote : (c : ℕ) → is_digit c ≡ true → eqb c 39 ≡ false
digit_is_no_quote c h = grind (arith, nat_tests)

stop_again : (s : StopTree) → IsWellStop s → stop_of (spell_stop s) ≡ Some s
unfolding stop_of ◌>>=◌ when
stop_again stop_silent well = refl
stop_again (stop_digits []) well = absurd cc
stop_again (stop_digits (c ∷ digits)) well =
    let all : list_all is_digit (c ∷ digits) ≡ true = (and_parts _ _ (and_parts _ _ well).0).1 in
    rw (digit_is_no_quote c (and_parts _ _ all).0, well) refl
stop_again (stop_text t) well = rw (quoted_again (suc (length (t ++ 39 ∷ []))) [] t [] well no_quote_at_end (omega arith)) refl

stopping_again : (s : StopTree) → IsWell (stopping s) → stopping_of (spell (stopping s)) ≡ Some (stopping s)
unfolding stopping_of ◌>>=◌ after when
stopping_again s well = rw (stop_again s well) refl

-- ---- by kinds

simple_again : (s : ShapeTree) → is_simple s ≡ true → IsWell s → simple_by (kind_of_shape s) (spell s) ≡ Some s
unfolding simple_by
simple_again (assignment n es e) simple well = assignment_again n es e well
simple_again (definition n e) simple well = definition_again n e well
simple_again (going l) simple well = going_again l well
simple_again (computed_going ls comma e) simple well = computed_going_again ls comma e well
simple_again (arithmetic_if e n z p) simple well = arithmetic_if_again e n z p well
simple_again continuing simple well = continuing_again
simple_again (stopping t) simple well = stopping_again t well
simple_again (writing c xs) simple well = writing_again c xs well
simple_again (printing f xs) simple well = printing_again f xs well
simple_again s simple well = absurd cc

logical_if_again : (e : ExprTree) (s : ShapeTree) → IsWell (logical_if e s) → logical_if_of (spell (logical_if e s)) ≡ Some (logical_if e s)
unfolding logical_if_of ◌>>=◌
logical_if_again e s well = rw (condition_again (codes "IF(") e (spell s) well.0, shape_kind s well.1.1, simple_again s well.1.0 well.1.1) refl

kind_again : (s : ShapeTree) → IsWell s → shape_by (kind_of_shape s) (spell s) ≡ Some s
unfolding shape_by
kind_again (assignment n es e) well = simple_again (assignment n es e) refl well
kind_again (writing c xs) well = simple_again (writing c xs) refl well
kind_again (printing f xs) well = simple_again (printing f xs) refl well
kind_again (format t) well = format_again t well
kind_again (doing l comma v m) well = doing_again l comma v m well
kind_again continuing well = simple_again continuing refl well
kind_again (typing ds) well = typing_again ds well
kind_again ending well = ending_again
kind_again (naming n) well = naming_again n well
kind_again (implying ps) well = implying_again ps well
kind_again (logical_typing ds) well = logical_typing_again ds well
kind_again (dimensioning ds) well = dimensioning_again ds well
kind_again (parameter cs) well = parameter_again cs well
kind_again (initializing ss) well = initializing_again ss well
kind_again (definition n e) well = simple_again (definition n e) refl well
kind_again (going l) well = simple_again (going l) refl well
kind_again (computed_going ls comma e) well = simple_again (computed_going ls comma e) refl well
kind_again (arithmetic_if e n z p) well = simple_again (arithmetic_if e n z p) refl well
kind_again (logical_if e s) well = logical_if_again e s well
kind_again (block_if e) well = block_if_again e well
kind_again (else_if e) well = else_if_again e well
kind_again otherwise well = otherwise_again
kind_again end_if well = end_if_again
kind_again (stopping t) well = simple_again (stopping t) refl well
kind_again (doing_while l comma e) well = doing_while_again l comma e well
kind_again end_do well = end_do_again
kind_again implicit_none well = implicit_none_again

pub shape_again : (s : ShapeTree) → IsWell s → shape_of (spell s) ≡ Some s
unfolding shape_of
shape_again s well = rw (shape_kind s well) (kind_again s well)

-- What is read as a form is spelled so, and well formed.
use Rattle.std.proofs.Common.{◌≡◌, suc, true, eqb, [], ◌∷◌, ◌++◌, length, Some, inl, inr, refl, sym, ap, subst, ◌∙◌}
use Rattle.std.specs.Prelude.{codes}
use Rattle.std.proofs.lemmas.Bool.{cases_Bool, eqb-true}
use Rattle.std.proofs.lemmas.List.{append-nil}
use Rattle.meaning.specs.Syntax.{ExprTree, StopTree, stop_silent, stop_digits, stop_text, ShapeTree, continuing, end_do, implicit_none, ending, going, computed_going, arithmetic_if, logical_if, block_if, else_if, otherwise, end_if, stopping}
use Rattle.meaning.specs.Spelling.{spell_expr, IsWellExpr, spell_comma, Reads}
use Rattle.meaning.specs.declared.syntax.Kind.{Kind}
use Rattle.meaning.specs.declared.syntax.Kind.TheVariants as kinds
use Rattle.meaning.specs.Kinds.{kind_of}
use Rattle.meaning.specs.Reading.{Text, label_at, at_end, alone_of, comma_at, going_of, computed_going_of, condition_at, arithmetic_if_of, block_if_of, else_if_of, quoted_at, stop_of, stopping_of, simple_by, logical_if_of, shape_by, shape_of}
use Rattle.meaning.specs.Spelling.{joined, spell_label, IsWellLabel, is_paired, spell_stop, is_stop_number, IsWellStop}
use Rattle.form_laws.proofs.Words.{after_takes, bind_some, when_some, made_is}
use Rattle.form_laws.proofs.SoundExpressions.{label_takes, whole_takes}
use Rattle.form_laws.proofs.SoundLists.{ends_takes, comma_takes, quoted_takes}
use Rattle.form_laws.proofs.SoundStatements.{SimplyReads, separated_take, value_takes, alone_takes, assignment_takes, writing_takes, printing_takes, format_takes, doing_takes, doing_while_takes, typing_takes, naming_takes, implying_takes, logical_typing_takes, dimensioning_takes, parameter_takes}
use Rattle.form_laws.proofs.SoundData.{initializing_takes}

-- ---- GO TO, IF and STOP statements

going_takes : (t : Text) (s : ShapeTree) → going_of t ≡ Some s → SimplyReads t s
unfolding going_of
going_takes t s e =
    bind_some _ _ s e (λ rest e1 e. bind_some _ _ s e (λ l e2 e.
    let a = after_takes (codes "GOTO") t rest e1 in
    let b = label_takes rest l e2 in
    let d = ends_takes (going l.0, l.1) s e in
    subst (SimplyReads t) d.0 (record { well = b.1; spelled = rw (a, b.0, d.1, append-nil) refl }, refl)))

computed_going_takes : (t : Text) (s : ShapeTree) → computed_going_of t ≡ Some s → SimplyReads t s
unfolding computed_going_of
computed_going_takes t s e =
    bind_some _ _ s e (λ rest e1 e. bind_some _ _ s e (λ ls e2 e. bind_some _ _ s e (λ behind e3 e. bind_some _ _ s e (λ v e4 e.
    let a = after_takes (codes "GOTO(") t rest e1 in
    let b = separated_take Text label_at spell_label IsWellLabel label_takes (suc (length rest)) rest ls e2 in
    let c = after_takes (41 ∷ []) ls.1 behind e3 in
    let d = comma_takes behind in
    let f = value_takes (comma_at behind).1 v e4 in
    made_is (SimplyReads t) (computed_going ls.0 (comma_at behind).0 v) s e (
      record {
        well = ((b.some, b.well), f.1);
        spelled = computed_whole t rest (joined spell_label ls.0) ls.1 behind (spell_comma (comma_at behind).0) (comma_at behind).1 (spell_expr v) a b.whole c d f.0;
      },
      refl,
    )))))
  where
    computed_whole : (t rest ls ls1 behind comma c1 v : Text) → t ≡ codes "GOTO(" ++ rest → rest ≡ ls ++ ls1 → ls1 ≡ 41 ∷ behind → behind ≡ comma ++ c1 → c1 ≡ v → codes "GOTO(" ++ (ls ++ (41 ∷ (comma ++ v))) ≡ t
    computed_whole t rest ls ls1 behind comma c1 v a b c d f = rw (a, b, c, d, f) refl

condition_takes : (word t : Text) (x : ExprTree × Text) → condition_at word t ≡ Some x → (t ≡ word ++ (spell_expr x.0 ++ (41 ∷ x.1))) × IsWellExpr x.0
unfolding condition_at
condition_takes word t x e =
    bind_some _ _ x e (λ rest e1 e. bind_some _ _ x e (λ v e2 e. bind_some _ _ x e (λ behind e3 e.
    let a = after_takes word t rest e1 in
    let b = whole_takes rest v e2 in
    let c = after_takes (41 ∷ []) v.1 behind e3 in
    made_is (λ (x : ExprTree × Text). (t ≡ word ++ (spell_expr x.0 ++ (41 ∷ x.1))) × IsWellExpr x.0) (v.0, behind) x e
    (a ∙ ap (λ u. word ++ u) (b.whole ∙ ap (λ u. spell_expr v.0 ++ u) c), b.well))))

arithmetic_if_takes : (t : Text) (s : ShapeTree) → arithmetic_if_of t ≡ Some s → SimplyReads t s
unfolding arithmetic_if_of
arithmetic_if_takes t s e =
    bind_some _ _ s e (λ v e1 e. bind_some _ _ s e (λ n e2 e. bind_some _ _ s e (λ rest e3 e. bind_some _ _ s e (λ z e4 e. bind_some _ _ s e (λ behind e5 e. bind_some _ _ s e (λ p e6 e.
    let a = condition_takes (codes "IF(") t v e1 in
    let b = label_takes v.1 n e2 in
    let c = after_takes (44 ∷ []) n.1 rest e3 in
    let d = label_takes rest z e4 in
    let f = after_takes (44 ∷ []) z.1 behind e5 in
    let g = label_takes behind p e6 in
    let h = ends_takes (arithmetic_if v.0 n.0 z.0 p.0, p.1) s e in
    subst (SimplyReads t) h.0 (
      record {
        well = (a.1, (b.1, (d.1, g.1)));
        spelled = arithmetic_whole t (spell_expr v.0) v.1 n.0 n.1 rest z.0 z.1 behind p.0 p.1 a.0 b.0 c d.0 f g.0 h.1;
      },
      refl,
    )))))))
  where
    arithmetic_whole : (t v v1 n n1 rest z z1 behind p p1 : Text) → t ≡ codes "IF(" ++ (v ++ (41 ∷ v1)) → v1 ≡ n ++ n1 → n1 ≡ 44 ∷ rest → rest ≡ z ++ z1 → z1 ≡ 44 ∷ behind → behind ≡ p ++ p1 → p1 ≡ []
        → codes "IF(" ++ (v ++ (41 ∷ (n ++ (44 ∷ (z ++ (44 ∷ p)))))) ≡ t
    arithmetic_whole t v v1 n n1 rest z z1 behind p p1 a b c d f g h = rw (a, b, c, d, f, g, h, append-nil) refl

block_if_takes : (t : Text) (s : ShapeTree) → block_if_of t ≡ Some s → Reads t s
unfolding block_if_of
block_if_takes t s e =
    bind_some _ _ s e (λ v e1 e. bind_some _ _ s e (λ rest e2 e.
    let a = condition_takes (codes "IF(") t v e1 in
    let b = after_takes (codes "THEN") v.1 rest e2 in
    let d = ends_takes (block_if v.0, rest) s e in
    subst (Reads t) d.0 (record { well = a.1; spelled = rw (a.0, b, d.1) refl })))

else_if_takes : (t : Text) (s : ShapeTree) → else_if_of t ≡ Some s → Reads t s
unfolding else_if_of
else_if_takes t s e =
    bind_some _ _ s e (λ v e1 e. bind_some _ _ s e (λ rest e2 e.
    let a = condition_takes (codes "ELSEIF(") t v e1 in
    let b = after_takes (codes "THEN") v.1 rest e2 in
    let d = ends_takes (else_if v.0, rest) s e in
    subst (Reads t) d.0 (record { well = a.1; spelled = rw (a.0, b, d.1) refl })))

stop_takes : (t : Text) (s : StopTree) → stop_of t ≡ Some s → (t ≡ spell_stop s) × IsWellStop s
unfolding stop_of
stop_takes [] s e = made_is (λ s. ([] ≡ spell_stop s) × IsWellStop s) stop_silent s e (refl, tt)
stop_takes (c ∷ t) s e =
    elim (cases_Bool (eqb c 39)) [
      | inr other ↦ when_some (is_stop_number (c ∷ t)) (Some (stop_digits (c ∷ t))) s (rw other at e) (λ number e1.
          made_is (λ s. (c ∷ t ≡ spell_stop s) × IsWellStop s) (stop_digits (c ∷ t)) s e1 (refl, number))
      | inl quote ↦ bind_some (quoted_at (suc (length t)) [] t) (λ x. at_end (stop_text x.0, x.1)) s (rw quote at e) (λ x e1 e2.
          let q = quoted_takes (suc (length t)) [] t x e1 in
          let d = ends_takes (stop_text x.0, x.1) s e2 in
          let same : x.0 ≡ q.text = q.taken in
          let whole : t ≡ x.0 ++ 39 ∷ [] = q.whole ∙ ap (λ u. q.text ++ (39 ∷ u)) d.1 ∙ ap (λ u. u ++ 39 ∷ []) (sym same) in
          let first : c ∷ t ≡ 39 ∷ (x.0 ++ 39 ∷ []) = rw (eqb-true c 39 quote) (ap (λ u. 39 ∷ u) whole) in
          let paired : is_paired x.0 ≡ true = rw same q.paired in
          subst (λ s. (c ∷ t ≡ spell_stop s) × IsWellStop s) d.0 (first, paired))
    ]

stopping_takes : (t : Text) (s : ShapeTree) → stopping_of t ≡ Some s → SimplyReads t s
unfolding stopping_of
stopping_takes t s e =
    bind_some _ _ s e (λ rest e1 e. bind_some _ _ s e (λ x e2 e.
    let a = after_takes (codes "STOP") t rest e1 in
    let b = stop_takes rest x e2 in
    made_is (SimplyReads t) (stopping x) s e (record { well = b.1; spelled = rw (a, b.0) refl }, refl)))

-- ---- by kinds

continuing_takes : (t : Text) (s : ShapeTree) → alone_of (codes "CONTINUE") continuing t ≡ Some s → SimplyReads t s
continuing_takes t s e =
    let a = alone_takes (codes "CONTINUE") continuing t s refl e in subst (SimplyReads t) a.1 (record { well = tt; spelled = sym a.0 }, refl)

pub simple_takes : (k : Kind) (t : Text) (s : ShapeTree) → simple_by k t ≡ Some s → SimplyReads t s
unfolding simple_by
simple_takes kinds.Assignment t s e = assignment_takes t s e
simple_takes kinds.Write t s e = writing_takes t s e
simple_takes kinds.Continue t s e = continuing_takes t s e
simple_takes kinds.GoTo t s e = going_takes t s e
simple_takes kinds.ComputedGoTo t s e = computed_going_takes t s e
simple_takes kinds.ArithmeticIf t s e = arithmetic_if_takes t s e
simple_takes kinds.Stop t s e = stopping_takes t s e
simple_takes kinds.Print t s e = printing_takes t s e
simple_takes k t s e = absurd cc

logical_if_takes : (t : Text) (s : ShapeTree) → logical_if_of t ≡ Some s → Reads t s
unfolding logical_if_of
logical_if_takes t s e =
    bind_some _ _ s e (λ v e1 e. bind_some _ _ s e (λ x e2 e.
    let a = condition_takes (codes "IF(") t v e1 in
    let b = simple_takes (kind_of v.1) v.1 x e2 in
    made_is (Reads t) (logical_if v.0 x) s e (record { well = (a.1, (b.1, b.0.well)); spelled = rw (a.0, ← b.0.spelled) refl })))

kind_takes : (k : Kind) (t : Text) (s : ShapeTree) → shape_by k t ≡ Some s → Reads t s
unfolding shape_by
kind_takes kinds.Format t s e = format_takes t s e
kind_takes kinds.Do t s e = doing_takes t s e
kind_takes kinds.Integer t s e = typing_takes t s e
kind_takes kinds.End t s e = let a = alone_takes (codes "END") ending t s refl e in subst (Reads t) a.1 (record { well = tt; spelled = sym a.0 })
kind_takes kinds.Program t s e = naming_takes t s e
kind_takes kinds.Implicit t s e = implying_takes t s e
kind_takes kinds.Logical t s e = logical_typing_takes t s e
kind_takes kinds.Dimension t s e = dimensioning_takes t s e
kind_takes kinds.Parameter t s e = parameter_takes t s e
kind_takes kinds.Data t s e = initializing_takes t s e
kind_takes kinds.LogicalIf t s e = logical_if_takes t s e
kind_takes kinds.IfThen t s e = block_if_takes t s e
kind_takes kinds.ElseIf t s e = else_if_takes t s e
kind_takes kinds.Else t s e = let a = alone_takes (codes "ELSE") otherwise t s refl e in subst (Reads t) a.1 (record { well = tt; spelled = sym a.0 })
kind_takes kinds.EndIf t s e = let a = alone_takes (codes "ENDIF") end_if t s refl e in subst (Reads t) a.1 (record { well = tt; spelled = sym a.0 })
kind_takes kinds.DoWhile t s e = doing_while_takes t s e
kind_takes kinds.EndDo t s e = let a = alone_takes (codes "ENDDO") end_do t s refl e in subst (Reads t) a.1 (record { well = tt; spelled = sym a.0 })
kind_takes kinds.ImplicitNone t s e =
    let a = alone_takes (codes "IMPLICITNONE") implicit_none t s refl e in subst (Reads t) a.1 (record { well = tt; spelled = sym a.0 })
kind_takes kinds.Assignment t s e = (simple_takes kinds.Assignment t s e).0
kind_takes kinds.Write t s e = (simple_takes kinds.Write t s e).0
kind_takes kinds.Continue t s e = (simple_takes kinds.Continue t s e).0
kind_takes kinds.GoTo t s e = (simple_takes kinds.GoTo t s e).0
kind_takes kinds.ComputedGoTo t s e = (simple_takes kinds.ComputedGoTo t s e).0
kind_takes kinds.ArithmeticIf t s e = (simple_takes kinds.ArithmeticIf t s e).0
kind_takes kinds.Stop t s e = (simple_takes kinds.Stop t s e).0
kind_takes kinds.Print t s e = (simple_takes kinds.Print t s e).0
kind_takes kinds.Other t s e = (simple_takes kinds.Other t s e).0

pub shape_takes : (t : Text) (s : ShapeTree) → shape_of t ≡ Some s → Reads t s
unfolding shape_of
shape_takes t s e = kind_takes (kind_of t) t s e

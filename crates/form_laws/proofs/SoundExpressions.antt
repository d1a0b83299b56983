-- What is read as an expression is spelled so, and well formed.
use Rattle.std.proofs.Common.{◌≡◌, ℕ, zero, suc, ◌≤◌, true, false, leb, eqb, Bool, List, [], ◌∷◌, ◌++◌, length, Option, Some, None, inl, inr, refl, sym, ap, subst, ◌∙◌, append_assoc, arith}
use Rattle.std.specs.Prelude.{IsTrue, codes}
use Rattle.std.proofs.lemmas.Bool.{cases_Bool, and_parts, eqb-true, leb-true, le-leb}
use Rattle.std.proofs.lemmas.Bool.Decides.{nat_tests}
use Rattle.std.proofs.lemmas.Option.{cond_some}
use Rattle.std.proofs.lemmas.List.{append-nil}
use Rattle.meaning.specs.declared.syntax.Sign.{Sign}
use Rattle.meaning.specs.declared.syntax.Sign.TheVariants as signs
use Rattle.meaning.specs.declared.syntax.Operator.{Operator}
use Rattle.meaning.specs.declared.syntax.Operator.TheVariants as operators
use Rattle.meaning.specs.Characters.{is_digit, is_alphanumeric, is_name, is_number, is_label}
use Rattle.meaning.specs.Syntax.{ExprTree, number, truth, signed, negated, binary, paren, call, ExprsTree, no_exprs, exprs}
use Rattle.meaning.specs.Spelling.{sign_byte, operator_text, truth_text, spell_expr, spell_exprs, spell_behind, level, left_least, right_least, level_of, IsWellExpr, AreWellSubscripts, spell_subscripts}
use Rattle.meaning.specs.Reading.{Text, Reader, ◌>>=◌, either, run, sign_at, first_operator_at, operator_at, truth_at, name_at, label_at, paren_at, exprs_at, subscripts_at, named_by, name_or_element_at, primary_at, negation_at, front_at, may_follow, operations_at, expression_at, whole_expression_at, after}
use Rattle.form_laws.proofs.Words.{after_takes, bind_some, when_some, either_some, made_is, run_takes, run_passes}

-- ---- tokens

pub sign_takes : (t : Text) (x : Sign × Text) → sign_at t ≡ Some x → t ≡ sign_byte x.0 ∷ x.1
unfolding sign_at
sign_takes [] x e = absurd cc
sign_takes (c ∷ t) x e =
    let P : Sign × Text → Type 0 = λ y. c ∷ t ≡ sign_byte y.0 ∷ y.1 in
    elim (cases_Bool (eqb c 43)) [
      | inl plus ↦ made_is P (signs.Plus, t) x (rw plus at e) (rw (eqb-true c 43 plus) refl)
      | inr other ↦ elim (cases_Bool (eqb c 45)) [
        | inl minus ↦ made_is P (signs.Minus, t) x (rw (other, minus) at e) (rw (eqb-true c 45 minus) refl)
        | inr none ↦ let no : None ≡ Some x = rw (other, none) at e in absurd cc
      ]
    ]

first_operator_takes : (os : List Operator) (t : Text) (x : Operator × Text) → first_operator_at os t ≡ Some x → t ≡ operator_text x.0 ++ x.1
unfolding first_operator_at
first_operator_takes [] t x e = absurd cc
first_operator_takes (o ∷ os) t x e =
    either_some (after (operator_text o) t) (first_operator_at os t) (λ rest. Some (o, rest)) x e (λ none e. first_operator_takes os t x e)
    (λ rest is e. made_is (λ y. t ≡ operator_text y.0 ++ y.1) (o, rest) x e (after_takes (operator_text o) t rest is))

pub operator_takes : (t : Text) (x : Operator × Text) → operator_at t ≡ Some x → t ≡ operator_text x.0 ++ x.1
unfolding operator_at
operator_takes t x e = first_operator_takes _ t x e

pub truth_takes : (t : Text) (x : Bool × Text) → truth_at t ≡ Some x → t ≡ truth_text x.0 ++ x.1
unfolding truth_at
truth_takes t x e =
    let P : Bool × Text → Type 0 = λ y. t ≡ truth_text y.0 ++ y.1 in
    either_some (after (codes ".TRUE.") t) (either (after (codes ".FALSE.") t) None (λ rest. Some (false, rest))) (λ rest. Some (true, rest)) x e
    (λ none e. either_some (after (codes ".FALSE.") t) None (λ rest. Some (false, rest)) x e (λ none e. absurd cc) (λ rest is e. made_is P (false, rest) x e (after_takes (codes ".FALSE.") t rest is)))
    (λ rest is e. made_is P (true, rest) x e (after_takes (codes ".TRUE.") t rest is))

pub name_takes : (t : Text) (x : Text × Text) → name_at t ≡ Some x → (t ≡ x.0 ++ x.1) × IsTrue (is_name x.0)
unfolding name_at
name_takes t x e =
    let q = cond_some (is_name (run is_alphanumeric t).0) (run is_alphanumeric t) x e in
    subst (λ (y : Text × Text). (t ≡ y.0 ++ y.1) × IsTrue (is_name y.0)) q.1 (run_takes is_alphanumeric t, q.0)

pub label_takes : (t : Text) (x : Text × Text) → label_at t ≡ Some x → (t ≡ x.0 ++ x.1) × IsTrue (is_label x.0)
unfolding label_at
label_takes t x e =
    let q = cond_some (is_label (run is_digit t).0) (run is_digit t) x e in
    subst (λ (y : Text × Text). (t ≡ y.0 ++ y.1) × IsTrue (is_label y.0)) q.1 (run_takes is_digit t, q.0)

-- ---- expressions

-- the text begins with the spelling of an expression that binds this strongly
pub record Begins (least : ℕ) (t : Text) (x : ExprTree × Text) : Type 0 where
  pub whole : t ≡ spell_expr x.0 ++ x.1
  pub well : IsWellExpr x.0
  pub strong : least ≤ level_of x.0

digits_are : (c : ℕ) (t : Text) → is_digit c ≡ true → is_number (run is_digit (c ∷ t)).0 ≡ true
unfolding run
digits_are c t digit = rw (digit, digit, run_passes is_digit t) (grind (arith, nat_tests))

-- what is read by a reader of expressions
abbrev pub ReadsWell : (ℕ → Reader ExprTree) → Type 0
ReadsWell rec = (least : ℕ) (t : Text) (x : ExprTree × Text) → least ≤ 8 → rec least t ≡ Some x → Begins least t x

-- and what is read at the weakest level
abbrev pub ReadsWhole : (ℕ → Reader ExprTree) → Type 0
ReadsWhole rec = (t : Text) (x : ExprTree × Text) → rec 0 t ≡ Some x → Begins 0 t x

-- ---- subscripts

-- the text begins with the spelling of expressions, one at least
pub record BeginsExprs (t : Text) (x : ExprsTree × Text) : Type 0 where
  pub whole : t ≡ spell_exprs x.0 ++ x.1
  pub well : AreWellSubscripts x.0
  pub has_one : spell_behind x.0 ≡ 44 ∷ spell_exprs x.0
  pub enclosed : spell_subscripts x.0 ≡ 40 ∷ (spell_exprs x.0 ++ 41 ∷ [])

pub record BeginsSubscripts (t : Text) (x : ExprsTree × Text) : Type 0 where
  pub whole : t ≡ spell_subscripts x.0 ++ x.1
  pub well : AreWellSubscripts x.0

module _ (rec : ℕ → Reader ExprTree) (reads_whole : ReadsWhole rec) where
  exprs_take : (n : ℕ) (t : Text) (x : ExprsTree × Text) → exprs_at rec n t ≡ Some x → BeginsExprs t x
  unfolding exprs_at either ◌>>=◌
  exprs_take zero t x e = absurd cc
  exprs_take (suc n) t x e =
      bind_some (rec 0 t) (λ e. either (after (44 ∷ []) e.1) (Some (exprs e.0 no_exprs, e.1)) (λ rest. exprs_at rec n rest >>= λ es. Some (exprs e.0 es.0, es.1))) x e (λ y e1 e2.
      at_comma n t y x (reads_whole t y e1) (after (44 ∷ []) y.1) refl e2 (λ u z e. exprs_take n u z e))
    where
      at_comma : (n : ℕ) (t : Text) (y : ExprTree × Text) (x : ExprsTree × Text) → Begins 0 t y → (o : Option Text) → after (44 ∷ []) y.1 ≡ o
          → either o (Some (exprs y.0 no_exprs, y.1)) (λ rest. exprs_at rec n rest >>= λ es. Some (exprs y.0 es.0, es.1)) ≡ Some x
          → ((u : Text) (z : ExprsTree × Text) → exprs_at rec n u ≡ Some z → BeginsExprs u z) → BeginsExprs t x
      at_comma n t y x b None is e again =
          made_is (BeginsExprs t) (exprs y.0 no_exprs, y.1) x e (record { whole = rw append-nil b.whole; well = (b.well, tt); has_one = refl; enclosed = refl })
      at_comma n t y x b (Some u) is e again =
          bind_some (exprs_at rec n u) (λ es. Some (exprs y.0 es.0, es.1)) x e (λ z e1 e2.
          let m = again u z e1 in
          made_is (BeginsExprs t) (exprs y.0 z.0, z.1) x e2 (record {
            whole = b.whole ∙ ap (λ v. spell_expr y.0 ++ v) (after_takes (44 ∷ []) y.1 u is ∙ ap (λ v. 44 ∷ v) m.whole ∙ ap (λ v. v ++ z.1) (sym m.has_one)) ∙ sym (append_assoc (spell_expr y.0) (spell_behind z.0) z.1);
            well = (b.well, m.well);
            has_one = refl;
            enclosed = refl;
          }))

  pub subscripts_take : (t : Text) (x : ExprsTree × Text) → subscripts_at rec t ≡ Some x → BeginsSubscripts t x
  unfolding subscripts_at either ◌>>=◌
  subscripts_take t x e = at_parenthesis (after (40 ∷ []) t) refl e
    where
      at_parenthesis : (o : Option Text) → after (40 ∷ []) t ≡ o
          → either o (Some (no_exprs, t)) (λ rest. exprs_at rec (suc (length rest)) rest >>= λ es. after (41 ∷ []) es.1 >>= λ behind. Some (es.0, behind)) ≡ Some x → BeginsSubscripts t x
      at_parenthesis None is e = made_is (BeginsSubscripts t) (no_exprs, t) x e (record { whole = refl; well = tt })
      at_parenthesis (Some u) is e =
          bind_some (exprs_at rec (suc (length u)) u) (λ es. after (41 ∷ []) es.1 >>= λ behind. Some (es.0, behind)) x e (λ es e1 e2.
          bind_some (after (41 ∷ []) es.1) (λ behind. Some (es.0, behind)) x e2 (λ behind e3 e4.
          let b = exprs_take (suc (length u)) u es e1 in
          let opens : t ≡ 40 ∷ u = after_takes (40 ∷ []) t u is in
          let closes : es.1 ≡ 41 ∷ behind = after_takes (41 ∷ []) es.1 behind e3 in
          made_is (BeginsSubscripts t) (es.0, behind) x e4 (record {
            whole = opens ∙ ap (λ v. 40 ∷ v) (b.whole ∙ ap (λ v. spell_exprs es.0 ++ v) closes ∙ sym (append_assoc (spell_exprs es.0) (41 ∷ []) behind)) ∙ ap (λ v. v ++ behind) (sym b.enclosed);
            well = b.well;
          })))

named_spelled : (letters : Text) (es : ExprsTree) → spell_expr (named_by letters es) ≡ letters ++ spell_subscripts es
named_spelled letters no_exprs = sym (append-nil letters)
named_spelled letters (exprs e es) = refl

named_well : (letters : Text) (es : ExprsTree) → IsTrue (is_name letters) → AreWellSubscripts es → IsWellExpr (named_by letters es)
named_well letters no_exprs well all = well
named_well letters (exprs e es) well all = (well, (refl, all))

named_strong : (letters : Text) (es : ExprsTree) → level_of (named_by letters es) ≡ 8
named_strong letters no_exprs = refl
named_strong letters (exprs e es) = refl

-- no operator binds so strongly that nothing could stand on its right
level_below : (o : Operator) → right_least (level o) ≤ 8
level_below operators.Power = omega arith
level_below operators.Multiply = omega arith
level_below operators.Divide = omega arith
level_below operators.Add = omega arith
level_below operators.Subtract = omega arith
level_below operators.And = omega arith
level_below operators.Or = omega arith
level_below operators.Equivalent = omega arith
level_below operators.NotEquivalent = omega arith
level_below _ = omega arith

module _ (rec : ℕ → Reader ExprTree) (reads_well : ReadsWell rec) where
  pub paren_takes : (least : ℕ) (t : Text) (x : ExprTree × Text) → least ≤ 8 → paren_at rec t ≡ Some x → Begins least (40 ∷ t) x
  unfolding paren_at ◌>>=◌
  paren_takes least t x low e =
      bind_some (rec 0 t) (λ e. after (41 ∷ []) e.1 >>= λ rest. Some (paren e.0, rest)) x e (λ y e1 e2.
      bind_some (after (41 ∷ []) y.1) (λ rest. Some (paren y.0, rest)) x e2 (λ rest e3 e4.
      let b = reads_well 0 t y (omega arith) e1 in
      let closes : y.1 ≡ 41 ∷ rest = after_takes (41 ∷ []) y.1 rest e3 in
      made_is (Begins least (40 ∷ t)) (paren y.0, rest) x e4 (record {
        whole = ap (λ u. 40 ∷ u) (b.whole ∙ ap (λ u. spell_expr y.0 ++ u) closes ∙ sym (append_assoc (spell_expr y.0) (41 ∷ []) rest));
        well = b.well;
        strong = low;
      })))

  named_takes : (least : ℕ) (t : Text) (x : ExprTree × Text) → least ≤ 8 → name_or_element_at rec t ≡ Some x → Begins least t x
  unfolding name_or_element_at
  named_takes least t x low e =
      bind_some _ _ x e (λ n e1 e.
      let m = name_takes t n e1 in
      either_some _ _ _ x e
      (λ none e. bind_some _ _ x e (λ es e2 e.
      let b = subscripts_take rec (λ t x e. reads_well 0 t x (omega arith) e) n.1 es e2 in
      let strong : level_of (named_by n.0 es.0) ≡ 8 = named_strong n.0 es.0 in
      made_is (Begins least t) (named_by n.0 es.0, es.1) x e (record {
        whole = m.0 ∙ ap (λ u. n.0 ++ u) b.whole ∙ sym (append_assoc n.0 (spell_subscripts es.0) es.1) ∙ ap (λ u. u ++ es.1) (sym (named_spelled n.0 es.0));
        well = named_well n.0 es.0 m.1 b.well;
        strong = subst (λ (n : ℕ). least ≤ n) (sym strong) low;
      })))
      (λ rest is e. made_is (Begins least t) (call n.0, rest) x e (record {
        whole = m.0 ∙ ap (λ u. n.0 ++ u) (after_takes (codes "()") n.1 rest is) ∙ sym (append_assoc n.0 (codes "()") rest);
        well = m.1;
        strong = low;
      })))

  pub primary_takes : (least : ℕ) (t : Text) (x : ExprTree × Text) → least ≤ 8 → primary_at rec t ≡ Some x → Begins least t x
  unfolding primary_at ◌>>=◌
  primary_takes least [] x low e = absurd cc
  primary_takes least (c ∷ t) x low e =
      elim (cases_Bool (is_digit c)) [
        | inl digit ↦ made_is (Begins least (c ∷ t)) (number (run is_digit (c ∷ t)).0, (run is_digit (c ∷ t)).1) x (rw digit at e)
            (record { whole = run_takes is_digit (c ∷ t); well = digits_are c t digit; strong = low })
        | inr other ↦ elim (cases_Bool (eqb c 40)) [
          | inl opens ↦ subst (λ d. Begins least (d ∷ t) x) (sym (eqb-true c 40 opens)) (paren_takes least t x low (rw (other, opens) at e))
          | inr closed ↦ elim (cases_Bool (eqb c 46)) [
            | inl dot ↦ bind_some (truth_at (c ∷ t)) (λ b. Some (truth b.0, b.1)) x (rw (other, closed, dot) at e) (λ b e1 e2.
                made_is (Begins least (c ∷ t)) (truth b.0, b.1) x e2 (record { whole = truth_takes (c ∷ t) b e1; well = tt; strong = low }))
            | inr named ↦ named_takes least (c ∷ t) x low (rw (other, closed, named) at e)
          ]
        ]
      ]

  negation_takes : (least : ℕ) (t : Text) (x : ExprTree × Text) → least ≤ 8 → negation_at rec least t ≡ Some x → Begins least t x
  unfolding negation_at
  negation_takes least t x low e =
      either_some _ _ _ x e (λ none e. primary_takes least t x low e) (λ rest is e.
      when_some _ _ x e (λ lets e. bind_some _ _ x e (λ y e1 e2.
      let b = reads_well 4 rest y (omega arith) e1 in
      made_is (Begins least t) (negated y.0, y.1) x e2 (record {
        whole = after_takes (codes ".NOT.") t rest is ∙ ap (λ u. codes ".NOT." ++ u) b.whole;
        well = (b.well, le-leb 4 (level_of y.0) b.strong);
        strong = leb-true least 3 lets;
      }))))

  pub front_takes : (least : ℕ) (t : Text) (x : ExprTree × Text) → least ≤ 8 → front_at rec least t ≡ Some x → Begins least t x
  unfolding front_at either ◌>>=◌
  front_takes least t x low e = at_sign (sign_at t) refl
    where
      at_sign : (o : Option (Sign × Text)) → sign_at t ≡ o → Begins least t x
      at_sign None is = negation_takes least t x low (rw is at e)
      at_sign (Some s) is =
          when_some (leb least 5) (rec 6 s.1 >>= λ e. Some (signed s.0 e.0, e.1)) x (rw is at e) (λ lets e1.
          bind_some (rec 6 s.1) (λ e. Some (signed s.0 e.0, e.1)) x e1 (λ y e2 e3.
          let b = reads_well 6 s.1 y (omega arith) e2 in
          made_is (Begins least t) (signed s.0 y.0, y.1) x e3 (record {
            whole = sign_takes t s is ∙ ap (λ u. sign_byte s.0 ∷ u) b.whole;
            well = (b.well, le-leb 6 (level_of y.0) b.strong);
            strong = leb-true least 5 lets;
          })))

  pub operations_take : (n least : ℕ) (left : ExprTree) (t : Text) (x : ExprTree × Text) → IsWellExpr left → least ≤ level_of left → operations_at rec n least left t ≡ Some x → Begins least (spell_expr left ++ t) x
  unfolding operations_at either ◌>>=◌
  operations_take zero least left t x well strong e = made_is (Begins least (spell_expr left ++ t)) (left, t) x e (record { whole = refl; well = well; strong = strong })
  operations_take (suc n) least left t x well strong e = at_operator (operator_at t) refl (operations_take n)
    where
      ends : Some (left, t) ≡ Some x → Begins least (spell_expr left ++ t) x
      ends e = made_is (Begins least (spell_expr left ++ t)) (left, t) x e (record { whole = refl; well = well; strong = strong })

      at_operator : (o : Option (Operator × Text)) → operator_at t ≡ o
          → ((least : ℕ) (left : ExprTree) (t : Text) (x : ExprTree × Text) → IsWellExpr left → least ≤ level_of left → operations_at rec n least left t ≡ Some x → Begins least (spell_expr left ++ t) x)
          → Begins least (spell_expr left ++ t) x
      at_operator None is again = ends (rw is at e)
      at_operator (Some o) is again =
          elim (cases_Bool (may_follow least left o.0)) [
            | inr stops ↦ ends (rw (is, stops) at e)
            | inl follows ↦
                bind_some (rec (right_least (level o.0)) o.1) (λ right. operations_at rec n least (binary o.0 left right.0) right.1) x (rw (is, follows) at e) (λ right e1 e2.
                let both = and_parts (leb least (level o.0)) (leb (left_least (level o.0)) (level_of left)) follows in
                let b = reads_well (right_least (level o.0)) o.1 right (level_below o.0) e1 in
                let more = again least (binary o.0 left right.0) right.1 x (well, (b.well, (both.1, le-leb (right_least (level o.0)) (level_of right.0) b.strong))) (leb-true least (level o.0) both.0) e2 in
                rw (operator_takes t o is, b.whole) (simp append_assoc at more))
          ]

pub expression_takes : (n : ℕ) → ReadsWell (expression_at n)
unfolding expression_at ◌>>=◌
expression_takes zero least t x low e = absurd cc
expression_takes (suc n) least t x low e =
    bind_some (front_at (expression_at n) least t) (λ e. operations_at (expression_at n) (length e.1) least e.0 e.1) x e (λ y e1 e2.
    let b = front_takes (expression_at n) (expression_takes n) least t y low e1 in
    rw b.whole (operations_take (expression_at n) (expression_takes n) (length y.1) least y.0 y.1 x b.well b.strong e2))

pub whole_takes : (t : Text) (x : ExprTree × Text) → whole_expression_at t ≡ Some x → Begins 0 t x
unfolding whole_expression_at
whole_takes t x e = expression_takes (suc (length t)) 0 t x (omega arith) e

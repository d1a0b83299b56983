-- What is read as an assignment, or as an output, DO, type, PROGRAM, IMPLICIT or PARAMETER statement is spelled so, and well formed.
use Rattle.std.proofs.Common.{◌≡◌, ℕ, zero, suc, true, List, [], ◌∷◌, ◌++◌, length, Option, Some, None, refl, sym, ap, subst, ◌∙◌, append_assoc, Bool, false, if◌then◌else◌}
use Rattle.std.specs.Prelude.{IsTrue, codes, nat_lt}
use Rattle.std.specs.List.{AllByRecursion, list_all}
use Rattle.std.proofs.lemmas.Bool.{and_parts}
use Rattle.std.proofs.lemmas.List.{append-nil}
use Rattle.meaning.specs.Characters.{is_letter, is_name}
use Rattle.meaning.specs.Syntax.{ExprTree, BoundsTree, DeclaratorTree, UnitTree, FormatTree, format_label, format_constant, ControlTree, LettersTree, ImplicitTree, ConstantTree, ShapeTree, assignment, writing, printing, format, doing, doing_while, typing, naming, implying, logical_typing, dimensioning, parameter, definition}
use Rattle.meaning.specs.Spelling.{spell_expr, IsWellExpr, spell_unit, IsWellUnit, spell_limits, spell_comma, spell_bounds, spell_dimensions, spell_declarator, spell_declarators, IsWellBounds, IsWellDeclarator, Reads, spell_range_label, IsWellRangeLabel}
use Rattle.meaning.specs.Reading.{Text, Reader, ◌>>=◌, either, whole_expression_at, source_at, format_first_at, unit_first_at, behind_unit_at, control_at, printing_of, unit_at, after, value_of, target_of, assignment_of, writing_of, format_of, alone_of, comma_at, label_at, RangeLabel, range_label_at, doing_of, doing_while_of, bounds_at, separated_at, dimensions_at, declarator_at, declarators_of, typing_of, logical_typing_of, has_bounds, dimensioning_of, naming_of, letter_at, letters_at, type_at, implicit_at, implying_of, constant_at, parameter_of}
use Rattle.meaning.specs.declared.syntax.ControlOrder.TheVariants as orders
use Rattle.meaning.specs.declared.syntax.DataType.{DataType}
use Rattle.meaning.specs.declared.syntax.DataType.TheVariants as types
use Rattle.meaning.specs.Spelling.{joined_more, joined, AreWell, spell_letters, IsWellLetters, type_text, spell_implicit, IsWellImplicit, spell_items, spell_items_behind, spell_source, IsWellSource, spell_control, IsWellControl, spell_constant, IsWellConstant, IsWellArray, is_paired, is_simple, spell}
use Rattle.meaning.specs.Kinds.{begins_with_digit}
use Rattle.form_laws.proofs.Joined.{has_some, joined_bounds, joined_declarators}
use Rattle.form_laws.proofs.Words.{after_takes, before_takes, bind_some, when_some, either_some, made_is}
use Rattle.form_laws.proofs.SoundExpressions.{whole_takes, subscripts_take, name_takes, label_takes, Begins}
use Rattle.form_laws.proofs.SoundLists.{ends_takes, quoted_takes, unit_takes, list_takes, list_behind_takes, comma_takes, limits_take}

-- ---- statements

-- the text reads as the form, which may stand under a logical IF
abbrev pub SimplyReads : Text → ShapeTree → Type 0
SimplyReads t s = Reads t s × IsTrue (is_simple s)

pub value_takes : (t : Text) (v : ExprTree) → value_of t ≡ Some v → (t ≡ spell_expr v) × IsWellExpr v
unfolding value_of
value_takes t v e =
    bind_some _ _ v e (λ x e1 e2.
    let b = whole_takes t x e1 in
    let d = ends_takes x v e2 in
    subst (λ v. (t ≡ spell_expr v) × IsWellExpr v) d.0 (b.whole ∙ ap (λ u. spell_expr x.0 ++ u) d.1 ∙ append-nil (spell_expr x.0), b.well))

target_takes : (t : Text) (n n1 : Text) (s : ShapeTree) → t ≡ n ++ n1 → IsTrue (is_name n) → target_of n n1 ≡ Some s → SimplyReads t s
unfolding target_of
target_takes t n n1 s whole named e =
    bind_some _ _ s e (λ es e1 e. bind_some _ _ s e (λ rest e2 e. bind_some _ _ s e (λ v e3 e.
    let f = subscripts_take (λ least rest. whole_expression_at rest) (λ t x e. whole_takes t x e) n1 es e1 in
    let b = after_takes (61 ∷ []) es.1 rest e2 in
    let c = value_takes rest v e3 in
    made_is (SimplyReads t) (assignment n es.0 v) s e (record { well = (named, (f.well, c.1)); spelled = rw (whole, f.whole, b, c.0) refl }, refl))))

pub assignment_takes : (t : Text) (s : ShapeTree) → assignment_of t ≡ Some s → SimplyReads t s
unfolding assignment_of
assignment_takes t s e =
    bind_some _ _ s e (λ n e1 e.
    let a = name_takes t n e1 in
    either_some _ _ _ s e (λ none e. target_takes t n.0 n.1 s a.0 a.1 e) (λ rest is e.
    bind_some _ _ s e (λ v e2 e.
    let b = after_takes (codes "()=") n.1 rest is in
    let c = value_takes rest v e2 in
    made_is (SimplyReads t) (definition n.0 v) s e (record { well = (a.1, c.1); spelled = rw (a.0, b, c.0) refl }, refl))))

abbrev pub TakesSource : Text → FormatTree × Text → Type 0
TakesSource t x = (t ≡ spell_source x.0 ++ x.1) × IsWellSource x.0

source_takes : (t : Text) (x : FormatTree × Text) → source_at t ≡ Some x → TakesSource t x
unfolding source_at
source_takes t x e =
    either_some _ _ _ x e
    (λ none e. bind_some _ _ x e (λ l e1 e. let a = label_takes t l e1 in made_is (TakesSource t) (format_label l.0, l.1) x e (a.0, a.1)))
    (λ rest is e. bind_some _ _ x e (λ y e1 e.
    let q = quoted_takes (suc (length rest)) [] rest y e1 in
    let same : y.0 ≡ q.text = q.taken in
    let opens : t ≡ 39 ∷ rest = after_takes (39 ∷ []) t rest is in
    let whole : t ≡ (39 ∷ (y.0 ++ 39 ∷ [])) ++ y.1 = opens ∙ ap (λ u. 39 ∷ u) (q.whole ∙ ap (λ u. u ++ (39 ∷ y.1)) (sym same) ∙ sym (append_assoc y.0 (39 ∷ []) y.1)) in
    let paired : is_paired y.0 ≡ true = rw same q.paired in
    made_is (TakesSource t) (format_constant y.0, y.1) x e (whole, paired)))

abbrev pub TakesControl : Text → ControlTree × Text → Type 0
TakesControl t x = (t ≡ spell_control x.0 ++ x.1) × IsWellControl x.0

format_first_takes : (t rest : Text) (x : ControlTree × Text) → t ≡ codes "FMT=" ++ rest → format_first_at rest ≡ Some x → TakesControl t x
unfolding format_first_at
format_first_takes t rest x opens e =
    bind_some _ _ x e (λ f e1 e. bind_some _ _ x e (λ behind e2 e. bind_some _ _ x e (λ u e3 e.
    let a = source_takes rest f e1 in
    let b = after_takes (codes ",UNIT=") f.1 behind e2 in
    let c = unit_takes behind u e3 in
    made_is (TakesControl t) (record { order = orders.FormatFirst; unit = u.0; source = f.0 }, u.1) x e
    (first_whole t rest (spell_source f.0) f.1 behind (spell_unit u.0) u.1 opens a.0 b c.0, (c.1, a.1)))))
  where
    first_whole : (t rest f f1 behind u u1 : Text) → t ≡ codes "FMT=" ++ rest → rest ≡ f ++ f1 → f1 ≡ codes ",UNIT=" ++ behind → behind ≡ u ++ u1 → t ≡ (codes "FMT=" ++ (f ++ (codes ",UNIT=" ++ u))) ++ u1
    first_whole t rest f f1 behind u u1 a b c d = rw (a, b, c, d, append_assoc f (codes ",UNIT=" ++ u) u1) refl

unit_first_takes : (t rest : Text) (x : ControlTree × Text) → t ≡ codes "UNIT=" ++ rest → unit_first_at rest ≡ Some x → TakesControl t x
unfolding unit_first_at
unit_first_takes t rest x opens e =
    bind_some _ _ x e (λ u e1 e. bind_some _ _ x e (λ behind e2 e. bind_some _ _ x e (λ f e3 e.
    let a = unit_takes rest u e1 in
    let b = after_takes (codes ",FMT=") u.1 behind e2 in
    let c = source_takes behind f e3 in
    made_is (TakesControl t) (record { order = orders.UnitFirst; unit = u.0; source = f.0 }, f.1) x e
    (second_whole t rest (spell_unit u.0) u.1 behind (spell_source f.0) f.1 opens a.0 b c.0, (a.1, c.1)))))
  where
    second_whole : (t rest u u1 behind f f1 : Text) → t ≡ codes "UNIT=" ++ rest → rest ≡ u ++ u1 → u1 ≡ codes ",FMT=" ++ behind → behind ≡ f ++ f1 → t ≡ (codes "UNIT=" ++ (u ++ (codes ",FMT=" ++ f))) ++ f1
    second_whole t rest u u1 behind f f1 a b c d = rw (a, b, c, d, append_assoc u (codes ",FMT=" ++ f) f1) refl

behind_unit_takes : (t : Text) (u : UnitTree) (rest : Text) (x : ControlTree × Text) → t ≡ spell_unit u ++ rest → IsWellUnit u → behind_unit_at u rest ≡ Some x → TakesControl t x
unfolding behind_unit_at
behind_unit_takes t u rest x opens well e =
    either_some _ _ _ x e
    (λ none e. bind_some _ _ x e (λ behind e1 e. bind_some _ _ x e (λ f e2 e.
    let b = after_takes (44 ∷ []) rest behind e1 in
    let c = source_takes behind f e2 in
    made_is (TakesControl t) (record { order = orders.Plain; unit = u; source = f.0 }, f.1) x e (behind_whole t (spell_unit u) rest (44 ∷ []) behind (spell_source f.0) f.1 opens b c.0, (well, c.1)))))
    (λ behind is e. bind_some _ _ x e (λ f e2 e.
    let b = after_takes (codes ",FMT=") rest behind is in
    let c = source_takes behind f e2 in
    made_is (TakesControl t) (record { order = orders.FormatNamed; unit = u; source = f.0 }, f.1) x e (behind_whole t (spell_unit u) rest (codes ",FMT=") behind (spell_source f.0) f.1 opens b c.0, (well, c.1))))
  where
    behind_whole : (t u rest word behind f f1 : Text) → t ≡ u ++ rest → rest ≡ word ++ behind → behind ≡ f ++ f1 → t ≡ (u ++ (word ++ f)) ++ f1
    behind_whole t u rest word behind f f1 a b c = rw (a, b, c, append_assoc u (word ++ f) f1, append_assoc word f f1) refl

control_takes : (t : Text) (x : ControlTree × Text) → control_at t ≡ Some x → TakesControl t x
unfolding control_at
control_takes t x e =
    either_some (after (codes "FMT=") t) (either (after (codes "UNIT=") t) (unit_at t >>= λ u. behind_unit_at u.0 u.1) (λ rest. unit_first_at rest)) (λ rest. format_first_at rest) x e
    (λ none e. either_some (after (codes "UNIT=") t) (unit_at t >>= λ u. behind_unit_at u.0 u.1) (λ rest. unit_first_at rest) x e
    (λ none e. bind_some (unit_at t) (λ u. behind_unit_at u.0 u.1) x e (λ u e1 e2. let a = unit_takes t u e1 in behind_unit_takes t u.0 u.1 x a.0 a.1 e2))
    (λ rest is e. unit_first_takes t rest x (after_takes (codes "UNIT=") t rest is) e))
    (λ rest is e. format_first_takes t rest x (after_takes (codes "FMT=") t rest is) e)

pub writing_takes : (t : Text) (s : ShapeTree) → writing_of t ≡ Some s → SimplyReads t s
unfolding writing_of
writing_takes t s e =
    bind_some _ _ s e (λ rest e1 e. bind_some _ _ s e (λ c e2 e. bind_some _ _ s e (λ list e3 e. bind_some _ _ s e (λ xs e4 e.
    let a = after_takes (codes "WRITE(") t rest e1 in
    let b = control_takes rest c e2 in
    let d = after_takes (41 ∷ []) c.1 list e3 in
    let f = list_takes list xs e4 in
    made_is (SimplyReads t) (writing c.0 xs) s e (record { well = (b.1, f.1); spelled = writing_whole t rest (spell_control c.0) c.1 list (spell_items xs) a b.0 d f.0 }, refl)))))
  where
    writing_whole : (t rest c c1 list xs : Text) → t ≡ codes "WRITE(" ++ rest → rest ≡ c ++ c1 → c1 ≡ 41 ∷ list → list ≡ xs → codes "WRITE(" ++ (c ++ (41 ∷ xs)) ≡ t
    writing_whole t rest c c1 list xs a b d f = rw (a, b, d, f) refl

pub printing_takes : (t : Text) (s : ShapeTree) → printing_of t ≡ Some s → SimplyReads t s
unfolding printing_of
printing_takes t s e =
    bind_some _ _ s e (λ rest e1 e. bind_some _ _ s e (λ f e2 e. bind_some _ _ s e (λ xs e3 e.
    let a = after_takes (codes "PRINT") t rest e1 in
    let b = source_takes rest f e2 in
    let d = list_behind_takes f.1 xs e3 in
    made_is (SimplyReads t) (printing f.0 xs) s e (record { well = (b.1, d.1); spelled = printing_whole t rest (spell_source f.0) f.1 (spell_items_behind xs) a b.0 d.0 }, refl))))
  where
    printing_whole : (t rest f f1 xs : Text) → t ≡ codes "PRINT" ++ rest → rest ≡ f ++ f1 → f1 ≡ xs → codes "PRINT" ++ (f ++ xs) ≡ t
    printing_whole t rest f f1 xs a b d = rw (a, b, d) refl

pub format_takes : (t : Text) (s : ShapeTree) → format_of t ≡ Some s → Reads t s
unfolding format_of
format_takes t s e =
    bind_some _ _ s e (λ rest e1 e. bind_some _ _ s e (λ text e2 e. when_some _ _ s e (λ is_text e.
    let a = after_takes (codes "FORMAT(") t rest e1 in
    let b = before_takes rest text e2 in
    made_is (Reads t) (format text) s e (record { well = is_text; spelled = rw (a, b) refl }))))

-- a label with a comma or none, or neither
abbrev BeginsRange : Text → RangeLabel × Text → Type 0
BeginsRange t x = (t ≡ spell_range_label x.0.0 x.0.1 ++ x.1) × IsWellRangeLabel x.0.0 x.0.1

range_label_takes : (t : Text) (x : RangeLabel × Text) → range_label_at t ≡ Some x → BeginsRange t x
unfolding range_label_at
range_label_takes t x e = at_digit (begins_with_digit t) e
  where
    label_whole : (t l l1 comma c1 : Text) → t ≡ l ++ l1 → l1 ≡ comma ++ c1 → t ≡ (l ++ comma) ++ c1
    label_whole t l l1 comma c1 a b = rw (a, b, append_assoc l comma c1) refl

    at_digit : (b : Bool) → (if b then label_at t >>= (λ l. Some ((Some l.0, (comma_at l.1).0), (comma_at l.1).1)) else Some ((None, false), t)) ≡ Some x → BeginsRange t x
    at_digit true e =
        bind_some _ _ x e (λ l e1 e.
        let b = label_takes t l e1 in
        made_is (BeginsRange t) ((Some l.0, (comma_at l.1).0), (comma_at l.1).1) x e (label_whole t l.0 l.1 (spell_comma (comma_at l.1).0) (comma_at l.1).1 b.0 (comma_takes l.1), b.1))
    at_digit false e = made_is (BeginsRange t) ((None, false), t) x e (refl, refl)

pub doing_takes : (t : Text) (s : ShapeTree) → doing_of t ≡ Some s → Reads t s
unfolding doing_of
doing_takes t s e =
    bind_some _ _ s e (λ rest e1 e. bind_some _ _ s e (λ l e2 e. bind_some _ _ s e (λ v e3 e. bind_some _ _ s e (λ behind e4 e. bind_some _ _ s e (λ limits e5 e.
    let a = after_takes (codes "DO") t rest e1 in
    let b = range_label_takes rest l e2 in
    let d = name_takes l.1 v e3 in
    let f = after_takes (61 ∷ []) v.1 behind e4 in
    let g = limits_take behind limits e5 in
    let h = ends_takes (doing l.0.0 l.0.1 v.0 limits.0, limits.1) s e in
    subst (Reads t) h.0 (record {
      well = (b.1, (d.1, g.well));
      spelled = doing_whole t rest (spell_range_label l.0.0 l.0.1) l.1 v.0 v.1 behind (spell_limits limits.0) limits.1 a b.0 d.0 f g.whole h.1;
    }))))))
  where
    doing_whole : (t rest l l1 v v1 behind limits end : Text) → t ≡ codes "DO" ++ rest → rest ≡ l ++ l1 → l1 ≡ v ++ v1 → v1 ≡ 61 ∷ behind → behind ≡ limits ++ end → end ≡ []
        → codes "DO" ++ (l ++ (v ++ (61 ∷ limits))) ≡ t
    doing_whole t rest l l1 v v1 behind limits end a b d f g h = rw (a, b, d, f, g, h, append-nil) refl

pub doing_while_takes : (t : Text) (s : ShapeTree) → doing_while_of t ≡ Some s → Reads t s
unfolding doing_while_of
doing_while_takes t s e =
    bind_some _ _ s e (λ rest e1 e. bind_some _ _ s e (λ l e2 e. bind_some _ _ s e (λ opened e3 e. bind_some _ _ s e (λ v e4 e. bind_some _ _ s e (λ behind e5 e.
    let a = after_takes (codes "DO") t rest e1 in
    let b = range_label_takes rest l e2 in
    let d = after_takes (codes "WHILE(") l.1 opened e3 in
    let f = whole_takes opened v e4 in
    let g = after_takes (41 ∷ []) v.1 behind e5 in
    let h = ends_takes (doing_while l.0.0 l.0.1 v.0, behind) s e in
    subst (Reads t) h.0 (record {
      well = (b.1, f.well);
      spelled = while_whole t rest (spell_range_label l.0.0 l.0.1) l.1 opened (spell_expr v.0) v.1 behind a b.0 d f.whole g h.1;
    }))))))
  where
    while_whole : (t rest l l1 opened v v1 behind : Text) → t ≡ codes "DO" ++ rest → rest ≡ l ++ l1 → l1 ≡ codes "WHILE(" ++ opened → opened ≡ v ++ v1 → v1 ≡ 41 ∷ behind → behind ≡ []
        → codes "DO" ++ (l ++ (codes "WHILE(" ++ (v ++ 41 ∷ []))) ≡ t
    while_whole t rest l l1 opened v v1 behind a b d f g h = rw (a, b, d, f, g, h) refl

pub alone_takes : (word : Text) (one : ShapeTree) (t : Text) (s : ShapeTree) → spell one ≡ word → alone_of word one t ≡ Some s → (t ≡ spell one) × (one ≡ s)
unfolding alone_of
alone_takes word one t s spelled e =
    bind_some _ _ s e (λ rest e1 e.
    let a = after_takes word t rest e1 in
    let b = ends_takes (one, rest) s e in
    (a ∙ ap (λ r. word ++ r) b.1 ∙ append-nil word ∙ sym spelled, b.0))

-- ---- type statements

pub record BeginsBounds (t : Text) (x : BoundsTree × Text) : Type 0 where
  pub whole : t ≡ spell_bounds x.0 ++ x.1
  pub well : IsWellBounds x.0

bounds_whole : (t y y1 rest u u1 : Text) → t ≡ y ++ y1 → y1 ≡ 58 ∷ rest → rest ≡ u ++ u1 → t ≡ ((y ++ 58 ∷ []) ++ u) ++ u1
bounds_whole t y y1 rest u u1 a b c = rw (a, b, c, append_assoc (y ++ 58 ∷ []) u u1, append_assoc y (58 ∷ []) (u ++ u1)) refl

bounds_take : (t : Text) (x : BoundsTree × Text) → bounds_at t ≡ Some x → BeginsBounds t x
unfolding bounds_at either
bounds_take t x e = bind_some _ _ x e (λ y e1 e. at_colon y (whole_takes t y e1) (after (58 ∷ []) y.1) refl e)
  where
    at_colon : (y : ExprTree × Text) → Begins 0 t y → (o : Option Text) → after (58 ∷ []) y.1 ≡ o
        → either o (Some (record { lower = None; upper = y.0 }, y.1)) (λ rest. whole_expression_at rest >>= λ u. Some (record { lower = Some y.0; upper = u.0 }, u.1)) ≡ Some x → BeginsBounds t x
    at_colon y b None is e = made_is (BeginsBounds t) (record { lower = None; upper = y.0 }, y.1) x e (record { whole = b.whole; well = (tt, b.well) })
    at_colon y b (Some rest) is e =
        bind_some (whole_expression_at rest) (λ u. Some (record { lower = Some y.0; upper = u.0 }, u.1)) x e (λ u e1 e2.
        let c = whole_takes rest u e1 in
        let d = after_takes (58 ∷ []) y.1 rest is in
        made_is (BeginsBounds t) (record { lower = Some y.0; upper = u.0 }, u.1) x e2 (record {
          whole = bounds_whole t (spell_expr y.0) y.1 rest (spell_expr u.0) u.1 b.whole d c.whole;
          well = (b.well, c.well);
        }))

-- the text begins with such spellings, one at least, with commas between
pub record BeginsMany (A : Type 0) (spelling : A → Text) (IsWellOne : A → Type 0) (t : Text) (x : List A × Text) : Type 0 where
  pub whole : t ≡ joined spelling x.0 ++ x.1
  pub well : AllByRecursion IsWellOne x.0
  pub has_one : joined_more spelling x.0 ≡ 44 ∷ joined spelling x.0
  pub some : IsTrue (nat_lt 0 (length x.0))

module _ (A : Type 0) (one : Reader A) (spelling : A → Text) (IsWellOne : A → Type 0) where
  pub separated_take : ((t : Text) (x : A × Text) → one t ≡ Some x → (t ≡ spelling x.0 ++ x.1) × IsWellOne x.0) → (n : ℕ) (t : Text) (x : List A × Text) → separated_at one n t ≡ Some x → BeginsMany A spelling IsWellOne t x
  unfolding separated_at either ◌>>=◌
  separated_take takes zero t x e = absurd cc
  separated_take takes (suc n) t x e =
      bind_some (one t) (λ y. either (after (44 ∷ []) y.1) (Some (y.0 ∷ [], y.1)) (λ rest. separated_at one n rest >>= λ ys. Some (y.0 ∷ ys.0, ys.1))) x e (λ y e1 e2.
      at_comma n t y x (takes t y e1) (after (44 ∷ []) y.1) refl e2 (λ u z e. separated_take takes n u z e))
    where
      at_comma : (n : ℕ) (t : Text) (y : A × Text) (x : List A × Text) → (t ≡ spelling y.0 ++ y.1) × IsWellOne y.0 → (o : Option Text) → after (44 ∷ []) y.1 ≡ o
          → either o (Some (y.0 ∷ [], y.1)) (λ rest. separated_at one n rest >>= λ ys. Some (y.0 ∷ ys.0, ys.1)) ≡ Some x
          → ((u : Text) (z : List A × Text) → separated_at one n u ≡ Some z → BeginsMany A spelling IsWellOne u z) → BeginsMany A spelling IsWellOne t x
      at_comma n t y x b None is e again =
          made_is (BeginsMany A spelling IsWellOne t) (y.0 ∷ [], y.1) x e (record { whole = rw append-nil b.0; well = (b.1, tt); has_one = refl; some = has_some y.0 [] })
      at_comma n t y x b (Some u) is e again =
          bind_some (separated_at one n u) (λ ys. Some (y.0 ∷ ys.0, ys.1)) x e (λ z e1 e2.
          let m = again u z e1 in
          made_is (BeginsMany A spelling IsWellOne t) (y.0 ∷ z.0, z.1) x e2 (record {
            whole = b.0 ∙ ap (λ v. spelling y.0 ++ v) (after_takes (44 ∷ []) y.1 u is ∙ ap (λ v. 44 ∷ v) m.whole ∙ ap (λ v. v ++ z.1) (sym m.has_one)) ∙ sym (append_assoc (spelling y.0) (joined_more spelling z.0) z.1);
            well = (b.1, m.well);
            has_one = refl;
            some = has_some y.0 z.0;
          }))

pub record BeginsDimensions (t : Text) (x : List BoundsTree × Text) : Type 0 where
  pub whole : t ≡ spell_dimensions x.0 ++ x.1
  pub well : AllByRecursion IsWellBounds x.0

dimensions_take : (t : Text) (x : List BoundsTree × Text) → dimensions_at t ≡ Some x → BeginsDimensions t x
unfolding dimensions_at either
dimensions_take t x e = at_parenthesis (after (40 ∷ []) t) refl e
  where
    dimensions_whole : (t u bs bs1 behind : Text) → t ≡ 40 ∷ u → u ≡ bs ++ bs1 → bs1 ≡ 41 ∷ behind → t ≡ (40 ∷ (bs ++ 41 ∷ [])) ++ behind
    dimensions_whole t u bs bs1 behind a b c = rw (a, b, c, append_assoc bs (41 ∷ []) behind) refl

    at_parenthesis : (o : Option Text) → after (40 ∷ []) t ≡ o
        → either o (Some ([], t)) (λ rest. separated_at bounds_at (suc (length rest)) rest >>= λ bs. after (41 ∷ []) bs.1 >>= λ behind. Some (bs.0, behind)) ≡ Some x → BeginsDimensions t x
    at_parenthesis None is e = made_is (BeginsDimensions t) ([], t) x e (record { whole = refl; well = tt })
    at_parenthesis (Some u) is e =
        bind_some (separated_at bounds_at (suc (length u)) u) (λ bs. after (41 ∷ []) bs.1 >>= λ behind. Some (bs.0, behind)) x e (λ bs e1 e2.
        bind_some (after (41 ∷ []) bs.1) (λ behind. Some (bs.0, behind)) x e2 (λ behind e3 e4.
        let b = separated_take BoundsTree bounds_at spell_bounds IsWellBounds (λ t x e. let m = bounds_take t x e in (m.whole, m.well)) (suc (length u)) u bs e1 in
        let opens = after_takes (40 ∷ []) t u is in
        let closes = after_takes (41 ∷ []) bs.1 behind e3 in
        made_is (BeginsDimensions t) (bs.0, behind) x e4 (record {
          whole = dimensions_whole t u (joined spell_bounds bs.0) bs.1 behind opens b.whole closes ∙ ap (λ v. v ++ behind) (sym (joined_bounds bs.0 b.some));
          well = b.well;
        })))

declarator_takes : (t : Text) (x : DeclaratorTree × Text) → declarator_at t ≡ Some x → (t ≡ spell_declarator x.0 ++ x.1) × IsWellDeclarator x.0
unfolding declarator_at
declarator_takes t x e =
    bind_some _ _ x e (λ n e1 e. bind_some _ _ x e (λ bs e2 e.
    let a = name_takes t n e1 in
    let b = dimensions_take n.1 bs e2 in
    made_is (λ x. (t ≡ spell_declarator x.0 ++ x.1) × IsWellDeclarator x.0) (record { name = n.0; bounds = bs.0 }, bs.1) x e
    (a.0 ∙ ap (λ u. n.0 ++ u) b.whole ∙ sym (append_assoc n.0 (spell_dimensions bs.0) bs.1), (a.1, b.well))))

-- declarators behind a keyword
record Declares (word t : Text) (ds : List DeclaratorTree) : Type 0 where
  well : AreWell IsWellDeclarator ds
  spelled : word ++ spell_declarators ds ≡ t

declarators_take : (word t : Text) (ds : List DeclaratorTree) → declarators_of word t ≡ Some ds → Declares word t ds
unfolding declarators_of
declarators_take word t ds e =
    bind_some _ _ ds e (λ rest e1 e. bind_some _ _ ds e (λ x e2 e.
    let a = after_takes word t rest e1 in
    let b = separated_take DeclaratorTree declarator_at spell_declarator IsWellDeclarator declarator_takes (suc (length rest)) rest x e2 in
    let d = ends_takes x ds e in
    subst (Declares word t) d.0 (record {
      well = (b.some, b.well);
      spelled = declared_whole t rest (joined spell_declarator x.0) x.1 (spell_declarators x.0) a b.whole d.1 (joined_declarators x.0);
    })))
  where
    declared_whole : (t rest ds ds1 spelled : Text) → t ≡ word ++ rest → rest ≡ ds ++ ds1 → ds1 ≡ [] → spelled ≡ ds → word ++ spelled ≡ t
    declared_whole t rest ds ds1 spelled a b c d = rw (a, b, c, d, append-nil) refl

pub typing_takes : (t : Text) (s : ShapeTree) → typing_of t ≡ Some s → Reads t s
unfolding typing_of
typing_takes t s e =
    bind_some _ _ s e (λ ds e1 e. let b = declarators_take (codes "INTEGER") t ds e1 in made_is (Reads t) (typing ds) s e (record { well = b.well; spelled = b.spelled }))

pub logical_typing_takes : (t : Text) (s : ShapeTree) → logical_typing_of t ≡ Some s → Reads t s
unfolding logical_typing_of
logical_typing_takes t s e =
    bind_some _ _ s e (λ ds e1 e. let b = declarators_take (codes "LOGICAL") t ds e1 in made_is (Reads t) (logical_typing ds) s e (record { well = b.well; spelled = b.spelled }))

bounded : (ds : List DeclaratorTree) → list_all has_bounds ds ≡ true → AllByRecursion IsWellDeclarator ds → AllByRecursion IsWellArray ds
bounded [] all well = tt
bounded (d ∷ ds) all well =
    let both = and_parts (has_bounds d) (list_all has_bounds ds) all in ((both.0, well.0), bounded ds both.1 well.1)

pub dimensioning_takes : (t : Text) (s : ShapeTree) → dimensioning_of t ≡ Some s → Reads t s
unfolding dimensioning_of
dimensioning_takes t s e =
    bind_some _ _ s e (λ ds e1 e. when_some _ _ s e (λ all e.
    let b = declarators_take (codes "DIMENSION") t ds e1 in
    made_is (Reads t) (dimensioning ds) s e (record { well = (b.well.0, bounded ds all b.well.1); spelled = b.spelled })))

-- ---- PROGRAM, IMPLICIT and PARAMETER statements

pub naming_takes : (t : Text) (s : ShapeTree) → naming_of t ≡ Some s → Reads t s
unfolding naming_of
naming_takes t s e =
    bind_some _ _ s e (λ rest e1 e. bind_some _ _ s e (λ n e2 e.
    let a = after_takes (codes "PROGRAM") t rest e1 in
    let b = name_takes rest n e2 in
    let d = ends_takes (naming n.0, n.1) s e in
    subst (Reads t) d.0 (record { well = b.1; spelled = rw (a, b.0, d.1, append-nil) refl })))

letter_takes : (t : Text) (x : ℕ × Text) → letter_at t ≡ Some x → (t ≡ x.0 ∷ x.1) × IsTrue (is_letter x.0)
unfolding letter_at
letter_takes [] x e = absurd cc
letter_takes (c ∷ t) x e = when_some _ _ x e (λ letter e. made_is (λ (x : ℕ × Text). (c ∷ t ≡ x.0 ∷ x.1) × IsTrue (is_letter x.0)) (c, t) x e (refl, letter))

letters_take : (t : Text) (x : LettersTree × Text) → letters_at t ≡ Some x → (t ≡ spell_letters x.0 ++ x.1) × IsWellLetters x.0
unfolding letters_at
letters_take t x e =
    let P : LettersTree × Text → Type 0 = λ y. (t ≡ spell_letters y.0 ++ y.1) × IsWellLetters y.0 in
    bind_some _ _ x e (λ a e1 e.
    let f = letter_takes t a e1 in
    either_some _ _ _ x e
    (λ none e. made_is P (record { first_letter = a.0; last_letter = None }, a.1) x e (f.0, (f.1, tt)))
    (λ rest is e. bind_some _ _ x e (λ b e2 e.
    let g = letter_takes rest b e2 in
    let m = after_takes (45 ∷ []) a.1 rest is in
    made_is P (record { first_letter = a.0; last_letter = Some b.0 }, b.1) x e (f.0 ∙ ap (λ u. a.0 ∷ u) (m ∙ ap (λ u. 45 ∷ u) g.0), (f.1, g.1)))))

type_takes : (t : Text) (x : DataType × Text) → type_at t ≡ Some x → t ≡ type_text x.0 ++ x.1
unfolding type_at
type_takes t x e =
    let P : DataType × Text → Type 0 = λ y. t ≡ type_text y.0 ++ y.1 in
    either_some (after (codes "INTEGER") t) (either (after (codes "LOGICAL") t) None (λ rest. Some (types.Logical, rest))) (λ rest. Some (types.Integer, rest)) x e
    (λ none e. either_some (after (codes "LOGICAL") t) None (λ rest. Some (types.Logical, rest)) x e (λ none e. absurd cc) (λ rest is e. made_is P (types.Logical, rest) x e (after_takes (codes "LOGICAL") t rest is)))
    (λ rest is e. made_is P (types.Integer, rest) x e (after_takes (codes "INTEGER") t rest is))

implicit_takes : (t : Text) (x : ImplicitTree × Text) → implicit_at t ≡ Some x → (t ≡ spell_implicit x.0 ++ x.1) × IsWellImplicit x.0
unfolding implicit_at
implicit_takes t x e =
    bind_some _ _ x e (λ k e1 e. bind_some _ _ x e (λ rest e2 e. bind_some _ _ x e (λ ls e3 e. bind_some _ _ x e (λ behind e4 e.
    let a = type_takes t k e1 in
    let b = after_takes (40 ∷ []) k.1 rest e2 in
    let c = separated_take LettersTree letters_at spell_letters IsWellLetters letters_take (suc (length rest)) rest ls e3 in
    let d = after_takes (41 ∷ []) ls.1 behind e4 in
    made_is (λ (x : ImplicitTree × Text). (t ≡ spell_implicit x.0 ++ x.1) × IsWellImplicit x.0) (record { data_type = k.0; letters = ls.0 }, behind) x e
    (implicit_whole t (type_text k.0) k.1 rest (joined spell_letters ls.0) ls.1 behind a b c.whole d, (c.some, c.well))))))
  where
    implicit_whole : (t k k1 rest ls ls1 behind : Text) → t ≡ k ++ k1 → k1 ≡ 40 ∷ rest → rest ≡ ls ++ ls1 → ls1 ≡ 41 ∷ behind → t ≡ (k ++ (40 ∷ (ls ++ 41 ∷ []))) ++ behind
    implicit_whole t k k1 rest ls ls1 behind a b c d = rw (a, b, c, d, append_assoc k (40 ∷ (ls ++ 41 ∷ [])) behind, append_assoc ls (41 ∷ []) behind) refl

pub implying_takes : (t : Text) (s : ShapeTree) → implying_of t ≡ Some s → Reads t s
unfolding implying_of
implying_takes t s e =
    bind_some _ _ s e (λ rest e1 e. bind_some _ _ s e (λ ps e2 e.
    let a = after_takes (codes "IMPLICIT") t rest e1 in
    let b = separated_take ImplicitTree implicit_at spell_implicit IsWellImplicit implicit_takes (suc (length rest)) rest ps e2 in
    let d = ends_takes (implying ps.0, ps.1) s e in
    subst (Reads t) d.0 (record { well = (b.some, b.well); spelled = implying_whole t rest (joined spell_implicit ps.0) ps.1 a b.whole d.1 })))
  where
    implying_whole : (t rest ps ps1 : Text) → t ≡ codes "IMPLICIT" ++ rest → rest ≡ ps ++ ps1 → ps1 ≡ [] → codes "IMPLICIT" ++ ps ≡ t
    implying_whole t rest ps ps1 a b c = rw (a, b, c, append-nil) refl

constant_takes : (t : Text) (x : ConstantTree × Text) → constant_at t ≡ Some x → (t ≡ spell_constant x.0 ++ x.1) × IsWellConstant x.0
unfolding constant_at
constant_takes t x e =
    bind_some _ _ x e (λ n e1 e. bind_some _ _ x e (λ rest e2 e. bind_some _ _ x e (λ v e3 e.
    let a = name_takes t n e1 in
    let b = after_takes (61 ∷ []) n.1 rest e2 in
    let c = whole_takes rest v e3 in
    made_is (λ (x : ConstantTree × Text). (t ≡ spell_constant x.0 ++ x.1) × IsWellConstant x.0) (record { name = n.0; value = v.0 }, v.1) x e
    (a.0 ∙ ap (λ u. n.0 ++ u) (b ∙ ap (λ u. 61 ∷ u) c.whole) ∙ sym (append_assoc n.0 (61 ∷ spell_expr v.0) v.1), (a.1, c.well)))))

pub parameter_takes : (t : Text) (s : ShapeTree) → parameter_of t ≡ Some s → Reads t s
unfolding parameter_of
parameter_takes t s e =
    bind_some _ _ s e (λ rest e1 e. bind_some _ _ s e (λ cs e2 e. bind_some _ _ s e (λ behind e3 e.
    let a = after_takes (codes "PARAMETER(") t rest e1 in
    let b = separated_take ConstantTree constant_at spell_constant IsWellConstant constant_takes (suc (length rest)) rest cs e2 in
    let c = after_takes (41 ∷ []) cs.1 behind e3 in
    let d = ends_takes (parameter cs.0, behind) s e in
    subst (Reads t) d.0 (record { well = (b.some, b.well); spelled = parameter_whole t rest (joined spell_constant cs.0) cs.1 behind a b.whole c d.1 }))))
  where
    parameter_whole : (t rest cs cs1 behind : Text) → t ≡ codes "PARAMETER(" ++ rest → rest ≡ cs ++ cs1 → cs1 ≡ 41 ∷ behind → behind ≡ [] → codes "PARAMETER(" ++ (cs ++ 41 ∷ []) ≡ t
    parameter_whole t rest cs cs1 behind a b c d = rw (a, b, c, d) refl

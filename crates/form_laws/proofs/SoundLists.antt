-- What is read as units, limits, character constants and lists is spelled so, and well formed.
use Rattle.std.proofs.Common.{◌≡◌, ℕ, zero, suc, ◌≤◌, true, false, eqb, Bool, [], ◌∷◌, ◌++◌, length, Option, Some, None, inl, inr, refl, sym, ap, subst, ◌∙◌, append_assoc, arith}
use Rattle.std.specs.Prelude.{if◌then◌else◌}
use Rattle.std.proofs.lemmas.Bool.{cases_Bool, eqb-true, le-leb}
use Rattle.std.proofs.lemmas.Option.{same_Some}
use Rattle.std.proofs.lemmas.List.{append-nil}
use Rattle.meaning.specs.Syntax.{ExprTree, UnitTree, star, unit_number, LimitsTree, ListItemTree, value_item, loop_item, ListItemsTree, no_items, more_items}
use Rattle.meaning.specs.Spelling.{spell_expr, level_of, spell_unit, IsWellUnit, spell_limits, IsWellLimits, spell_comma}
use Rattle.meaning.specs.Kinds.{has_equals}
use Rattle.meaning.specs.Reading.{Text, Reader, ◌>>=◌, either, whole_expression_at, list_of, list_behind_comma, expression_from, ends_list, value_item_at, loop_item_at, item_at, items_at, unit_at, at_end, after, limits_at, comma_at, quoted_at}
use Rattle.meaning.specs.Spelling.{spell_item, spell_items, spell_items_behind, has_item, IsWellItem, AreWellItems, is_paired}
use Rattle.form_laws.proofs.Joined.{loop_regrouped}
use Rattle.form_laws.proofs.Words.{after_takes, bind_some, when_some, either_some, made_is}
use Rattle.form_laws.proofs.SoundExpressions.{whole_takes, Begins, expression_takes, name_takes}

-- ---- lists and units

pub ends_takes : {A : Type 0} (x : A × Text) (y : A) → at_end x ≡ Some y → (x.0 ≡ y) × (x.1 ≡ [])
ends_takes (x, []) y e = (same_Some x y e, refl)
ends_takes (x, c ∷ t) y e = absurd cc

pub unit_takes : (t : Text) (x : UnitTree × Text) → unit_at t ≡ Some x → (t ≡ spell_unit x.0 ++ x.1) × IsWellUnit x.0
unfolding unit_at either ◌>>=◌
unit_takes t x e = at_star (after (42 ∷ []) t) refl
  where
    at_star : (o : Option Text) → after (42 ∷ []) t ≡ o → (t ≡ spell_unit x.0 ++ x.1) × IsWellUnit x.0
    at_star (Some u) is = made_is (λ x. (t ≡ spell_unit x.0 ++ x.1) × IsWellUnit x.0) (star, u) x (rw is at e) (after_takes (42 ∷ []) t u is, tt)
    at_star None is =
        bind_some (whole_expression_at t) (λ e. Some (unit_number e.0, e.1)) x (rw is at e) (λ y e1 e2.
        let b = whole_takes t y e1 in
        made_is (λ x. (t ≡ spell_unit x.0 ++ x.1) × IsWellUnit x.0) (unit_number y.0, y.1) x e2 (b.whole, b.well))

-- ---- limits, and the comma behind a label

pub record BeginsLimits (t : Text) (x : LimitsTree × Text) : Type 0 where
  pub whole : t ≡ spell_limits x.0 ++ x.1
  pub well : IsWellLimits x.0

-- two expressions with a comma between, and what stands behind them
two_whole : (a b t : Text) → a ++ (44 ∷ (b ++ t)) ≡ (a ++ (44 ∷ (b ++ []))) ++ t
two_whole a b t = rw append-nil (sym (append_assoc a (44 ∷ b) t))

-- and three
three_whole : (a b c t : Text) → a ++ (44 ∷ (b ++ (44 ∷ (c ++ t)))) ≡ (a ++ (44 ∷ (b ++ (44 ∷ c)))) ++ t
three_whole a b c t = sym (append_assoc a (44 ∷ (b ++ (44 ∷ c))) t ∙ ap (λ u. a ++ (44 ∷ u)) (append_assoc b (44 ∷ c) t))

pub limits_take : (t : Text) (x : LimitsTree × Text) → limits_at t ≡ Some x → BeginsLimits t x
unfolding limits_at either
limits_take t x e =
    bind_some _ _ x e (λ first e1 e. bind_some _ _ x e (λ behind e2 e. bind_some _ _ x e (λ last e3 e.
    at_step first behind last (whole_takes t first e1) (after_takes (44 ∷ []) first.1 behind e2) (whole_takes behind last e3) (after (44 ∷ []) last.1) refl e)))
  where
    at_step : (first : ExprTree × Text) (behind : Text) (last : ExprTree × Text) → Begins 0 t first → first.1 ≡ 44 ∷ behind → Begins 0 behind last
        → (o : Option Text) → after (44 ∷ []) last.1 ≡ o
        → either o (Some (record { first = first.0; last = last.0; step = None }, last.1)) (λ rest. whole_expression_at rest >>= λ e. Some (record { first = first.0; last = last.0; step = Some e.0 }, e.1)) ≡ Some x
        → BeginsLimits t x
    at_step first behind last a comma b None is e =
        made_is (BeginsLimits t) (record { first = first.0; last = last.0; step = None }, last.1) x e (record {
          whole = rw (a.whole, comma, b.whole) (two_whole (spell_expr first.0) (spell_expr last.0) last.1);
          well = (a.well, (b.well, tt));
        })
    at_step first behind last a comma b (Some rest) is e =
        bind_some (whole_expression_at rest) (λ e. Some (record { first = first.0; last = last.0; step = Some e.0 }, e.1)) x e (λ z e1 e2.
        let d = after_takes (44 ∷ []) last.1 rest is in
        let c = whole_takes rest z e1 in
        made_is (BeginsLimits t) (record { first = first.0; last = last.0; step = Some z.0 }, z.1) x e2 (record {
          whole = rw (a.whole, comma, b.whole, d, c.whole) (three_whole (spell_expr first.0) (spell_expr last.0) (spell_expr z.0) z.1);
          well = (a.well, (b.well, c.well));
        }))

pub comma_takes : (t : Text) → t ≡ spell_comma (comma_at t).0 ++ (comma_at t).1
unfolding comma_at either
comma_takes t = at_comma (after (44 ∷ []) t) refl
  where
    at_comma : (o : Option Text) → after (44 ∷ []) t ≡ o → t ≡ spell_comma (either {B = Bool × Text} o (false, t) (λ rest. (true, rest))).0 ++ (either {B = Bool × Text} o (false, t) (λ rest. (true, rest))).1
    at_comma None is = refl
    at_comma (Some rest) is = after_takes (44 ∷ []) t rest is

-- ---- character constants

-- what was read of a character constant, and its last apostrophe
pub record Quotes (read t : Text) (x : Text × Text) : Type 0 where
  pub text : Text
  pub taken : x.0 ≡ read ++ text
  pub whole : t ≡ text ++ (39 ∷ x.1)
  pub paired : is_paired text ≡ true

plain_paired : (c : ℕ) (t : Text) → eqb c 39 ≡ false → is_paired t ≡ true → is_paired (c ∷ t) ≡ true
plain_paired c [] other paired = rw other refl
plain_paired c (d ∷ t) other paired = rw other paired

one_quoted : (read t : Text) (c : ℕ) (x : Text × Text) → eqb c 39 ≡ false → Quotes (read ++ (c ∷ [])) t x → Quotes read (c ∷ t) x
one_quoted read t c x other q = record {
  text = c ∷ q.text;
  taken = q.taken ∙ append_assoc read (c ∷ []) q.text;
  whole = ap (λ u. c ∷ u) q.whole;
  paired = plain_paired c q.text other q.paired;
}

two_quoted : (read t : Text) (x : Text × Text) → Quotes (read ++ (39 ∷ (39 ∷ []))) t x → Quotes read (39 ∷ (39 ∷ t)) x
two_quoted read t x q = record {
  text = 39 ∷ (39 ∷ q.text);
  taken = q.taken ∙ append_assoc read (39 ∷ (39 ∷ [])) q.text;
  whole = ap (λ u. 39 ∷ (39 ∷ u)) q.whole;
  paired = q.paired;
}

pub quoted_takes : (n : ℕ) (read t : Text) (x : Text × Text) → quoted_at n read t ≡ Some x → Quotes read t x
unfolding quoted_at
quoted_takes zero read t x e = absurd cc
quoted_takes (suc n) read [] x e = absurd cc
quoted_takes (suc n) read (c ∷ t) x e =
    elim (cases_Bool (eqb c 39)) [
      | inr other ↦ one_quoted read t c x other (quoted_takes n (read ++ (c ∷ [])) t x (rw other at e))
      | inl quote ↦ subst (λ (c : ℕ). Quotes read (c ∷ t) x) (sym (eqb-true c 39 quote))
          (either_some (after (39 ∷ []) t) (Some (read, t)) (λ rest. quoted_at n (read ++ (39 ∷ (39 ∷ []))) rest) x (rw quote at e)
          (λ none e. made_is (Quotes read (39 ∷ t)) (read, t) x e (record { text = []; taken = sym (append-nil read); whole = refl; paired = refl }))
          (λ rest is e. subst (λ (u : Text). Quotes read (39 ∷ u) x) (sym (after_takes (39 ∷ []) t rest is)) (two_quoted read rest x (quoted_takes n (read ++ (39 ∷ (39 ∷ []))) rest x e))))
    ]

-- ---- lists

-- the text begins with the spelling of items, one at least
pub record BeginsItems (least : ℕ) (t : Text) (x : ListItemsTree × Text) : Type 0 where
  pub whole : t ≡ spell_items x.0 ++ x.1
  pub well : AreWellItems least x.0
  pub has_one : spell_items_behind x.0 ≡ 44 ∷ spell_items x.0
  pub some : has_item x.0 ≡ true

abbrev pub TakesItem : ℕ → Text → ListItemTree × Text → Type 0
TakesItem least t x = (t ≡ spell_item x.0 ++ x.1) × IsWellItem least x.0

value_item_takes : (least : ℕ) (t : Text) (x : ListItemTree × Text) → least ≤ 8 → value_item_at least t ≡ Some x → TakesItem least t x
unfolding value_item_at expression_from
value_item_takes least t x low e =
    bind_some _ _ x e (λ v e1 e.
    let b = expression_takes (suc (length t)) least t v low e1 in
    made_is (TakesItem least t) (value_item v.0, v.1) x e (b.whole, (b.well, le-leb least (level_of v.0) b.strong)))

module _ (least : ℕ) (low : least ≤ 8) (rec : Reader ListItemsTree) (reads : (t : Text) (x : ListItemsTree × Text) → rec t ≡ Some x → BeginsItems least t x) where
  loop_item_takes : (t : Text) (x : ListItemTree × Text) → loop_item_at rec t ≡ Some x → TakesItem least (40 ∷ t) x
  unfolding loop_item_at
  loop_item_takes t x e =
      bind_some _ _ x e (λ xs e1 e. bind_some _ _ x e (λ rest e2 e. bind_some _ _ x e (λ v e3 e. bind_some _ _ x e (λ behind e4 e. bind_some _ _ x e (λ limits e5 e. bind_some _ _ x e (λ end e6 e.
      let a = reads t xs e1 in
      let b = after_takes (44 ∷ []) xs.1 rest e2 in
      let c = name_takes rest v e3 in
      let d = after_takes (61 ∷ []) v.1 behind e4 in
      let f = limits_take behind limits e5 in
      let g = after_takes (41 ∷ []) limits.1 end e6 in
      made_is (TakesItem least (40 ∷ t)) (loop_item xs.0 v.0 limits.0, end) x e
      (loop_whole t (spell_items xs.0) xs.1 rest v.0 v.1 behind (spell_limits limits.0) limits.1 end a.whole b c.0 d f.whole g, (a.some, (a.well, (c.1, f.well))))))))))
    where
      loop_whole : (t xs xs1 rest v v1 behind limits limits1 end : Text) → t ≡ xs ++ xs1 → xs1 ≡ 44 ∷ rest → rest ≡ v ++ v1 → v1 ≡ 61 ∷ behind → behind ≡ limits ++ limits1 → limits1 ≡ 41 ∷ end
          → 40 ∷ t ≡ 40 ∷ (((xs ++ (44 ∷ (v ++ (61 ∷ limits)))) ++ 41 ∷ []) ++ end)
      loop_whole t xs xs1 rest v v1 behind limits limits1 end a b c d f g = ap (λ u. 40 ∷ u) (rw (a, b, c, d, f, g) (sym (loop_regrouped xs v limits end)))

  item_takes : (t : Text) (x : ListItemTree × Text) → item_at least rec t ≡ Some x → TakesItem least t x
  unfolding item_at
  item_takes t x e =
      either_some _ _ _ x e (λ none e. value_item_takes least t x low e) (λ rest is e. at_equals rest is e (has_equals rest) refl)
    where
      at_equals : (rest : Text) → after (40 ∷ []) t ≡ Some rest → (if has_equals rest then loop_item_at rec rest else value_item_at least t) ≡ Some x → (b : Bool) → has_equals rest ≡ b → TakesItem least t x
      at_equals rest is e true equals =
          subst (λ (u : Text). TakesItem least u x) (sym (after_takes (40 ∷ []) t rest is)) (loop_item_takes rest x (rw equals at e))
      at_equals rest is e false equals = value_item_takes least t x low (rw equals at e)

pub items_take : (least n : ℕ) (t : Text) (x : ListItemsTree × Text) → least ≤ 8 → items_at least n t ≡ Some x → BeginsItems least t x
unfolding items_at
items_take least zero t x low e = absurd cc
items_take least (suc n) t x low e =
    bind_some _ _ x e (λ y e1 e. at_end_of y (item_takes least low (items_at least n) (λ t x e. items_take least n t x low e) t y e1) (ends_list y.1) refl e (λ u z e. items_take least n u z low e))
  where
    at_end_of : (y : ListItemTree × Text) → TakesItem least t y → (b : Bool) → ends_list y.1 ≡ b
        → (if ends_list y.1 then Some (more_items y.0 no_items, y.1) else (after (44 ∷ []) y.1 >>= λ rest. items_at least n rest >>= λ xs. Some (more_items y.0 xs.0, xs.1))) ≡ Some x
        → ((u : Text) (z : ListItemsTree × Text) → items_at least n u ≡ Some z → BeginsItems least u z) → BeginsItems least t x
    at_end_of y b true ends e again =
        let made : Some (more_items y.0 no_items, y.1) ≡ Some x = rw ends at e in
        made_is (BeginsItems least t) (more_items y.0 no_items, y.1) x made (record { whole = rw append-nil b.0; well = (b.1, tt); has_one = refl; some = refl })
    at_end_of y b false goes e again =
        bind_some (after (44 ∷ []) y.1) (λ rest. items_at least n rest >>= λ xs. Some (more_items y.0 xs.0, xs.1)) x (rw goes at e) (λ rest e1 e2.
        bind_some (items_at least n rest) (λ xs. Some (more_items y.0 xs.0, xs.1)) x e2 (λ z e3 e4.
        let m = again rest z e3 in
        made_is (BeginsItems least t) (more_items y.0 z.0, z.1) x e4 (record {
          whole = b.0 ∙ ap (λ v. spell_item y.0 ++ v) (after_takes (44 ∷ []) y.1 rest e1 ∙ ap (λ v. 44 ∷ v) m.whole ∙ ap (λ v. v ++ z.1) (sym m.has_one)) ∙ sym (append_assoc (spell_item y.0) (spell_items_behind z.0) z.1);
          well = (b.1, m.well);
          has_one = refl;
          some = refl;
        })))

pub list_takes : (t : Text) (xs : ListItemsTree) → list_of t ≡ Some xs → (t ≡ spell_items xs) × AreWellItems 0 xs
unfolding list_of
list_takes [] xs e = made_is (λ xs. ([] ≡ spell_items xs) × AreWellItems 0 xs) no_items xs e (refl, tt)
list_takes (c ∷ t) xs e =
    bind_some (items_at 0 (suc (length (c ∷ t))) (c ∷ t)) at_end xs e (λ x e1 e2.
    let b = items_take 0 (suc (length (c ∷ t))) (c ∷ t) x (omega arith) e1 in
    let m = ends_takes x xs e2 in
    subst (λ xs. (c ∷ t ≡ spell_items xs) × AreWellItems 0 xs) m.0 (b.whole ∙ ap (λ r. spell_items x.0 ++ r) m.1 ∙ append-nil (spell_items x.0), b.well))

pub list_behind_takes : (t : Text) (xs : ListItemsTree) → list_behind_comma t ≡ Some xs → (t ≡ spell_items_behind xs) × AreWellItems 0 xs
unfolding list_behind_comma
list_behind_takes [] xs e = made_is (λ xs. ([] ≡ spell_items_behind xs) × AreWellItems 0 xs) no_items xs e (refl, tt)
list_behind_takes (c ∷ t) xs e =
    when_some (eqb c 44) (items_at 0 (suc (length t)) t >>= at_end) xs e (λ comma e1.
    bind_some (items_at 0 (suc (length t)) t) at_end xs e1 (λ x e2 e3.
    let b = items_take 0 (suc (length t)) t x (omega arith) e2 in
    let m = ends_takes x xs e3 in
    let whole : c ∷ t ≡ spell_items_behind x.0 = rw (eqb-true c 44 comma) (ap (λ u. 44 ∷ u) (b.whole ∙ ap (λ r. spell_items x.0 ++ r) m.1 ∙ append-nil (spell_items x.0)) ∙ sym b.has_one) in
    subst (λ xs. (c ∷ t ≡ spell_items_behind xs) × AreWellItems 0 xs) m.0 (whole, b.well)))

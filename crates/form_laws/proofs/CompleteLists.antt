-- Units, limits and lists that are well formed read as they were spelled.
use Rattle.std.proofs.Common.{◌≡◌, ℕ, zero, suc, ◌≤◌, ◌<◌, Bool, true, false, eqb, [], ◌∷◌, ◌++◌, length, Option, Some, None, ◌||◌, refl, sym, ap, subst, ◌∙◌, append_assoc, length-append, arith}
use Rattle.std.specs.List.{list_all, list_any}
use Rattle.std.specs.Prelude.{codes}
use Rattle.std.proofs.lemmas.Bool.{and_parts, leb-true, or_left, or_right}
use Rattle.std.proofs.lemmas.Bool.Decides.{nat_tests}
use Rattle.std.proofs.lemmas.List.{append-nil}
use Rattle.meaning.specs.declared.syntax.Sign.TheVariants as signs
use Rattle.meaning.specs.Characters.{is_digit, is_letter, is_alphanumeric, is_name, is_number}
use Rattle.meaning.specs.Syntax.{ExprTree, number, truth, name, signed, negated, binary, paren, element, call, UnitTree, star, unit_number, LimitsTree, ListItemTree, value_item, loop_item, ListItemsTree, no_items, more_items}
use Rattle.meaning.specs.Spelling.{operator_text, spell_expr, spell_exprs, level_of, IsWellExpr, spell_unit, IsWellUnit, spell_step, IsWellStep, spell_limits, IsWellLimits, spell_comma}
use Rattle.meaning.specs.Reading.{Text, Reader, ◌>>=◌, when, either, name_at, whole_expression_at, list_of, list_behind_comma, expression_from, begins_control, ends_list, value_item_at, loop_item_at, item_at, items_at, unit_at, after, limits_at, comma_at}
use Rattle.meaning.specs.Spelling.{spell_item, spell_items, spell_items_behind, has_item, IsWellItem, AreWellItems}
use Rattle.meaning.specs.Kinds.{has_equals, marks_at}
use Rattle.form_laws.proofs.Joined.{loop_regrouped}
use Rattle.form_laws.proofs.Words.{after_again, after_takes, stops_at, run_again}
use Rattle.form_laws.proofs.Marks.{letters_and_digits, head_is_equals, no_control, name_passes, item_passes, items_keep, marks, expression_passes}
use Rattle.form_laws.proofs.CompleteExpressions.{no_word, is_first, expression_starts, again, Follows, whole_again, end_follows, comma_follows, parenthesis_follows, Follows_weaker, Starts, name_starts, read_again, name_again, starts_some, letter_is_no_digit}

-- ---- lists and units

-- an expression is no asterisk
no_star : (e : ExprTree) (rest : Text) → IsWellExpr e → after (42 ∷ []) (spell_expr e ++ rest) ≡ None
no_star e rest well = no_word is_first 42 [] (spell_expr e ++ rest) refl (expression_starts e rest well)

pub unit_again : (u : UnitTree) (rest : Text) → IsWellUnit u → Follows 0 rest → unit_at (spell_unit u ++ rest) ≡ Some (u, rest)
unfolding unit_at either ◌>>=◌ after when
unit_again star rest well f = refl
unit_again (unit_number e) rest well f = rw (no_star e rest well, whole_again e rest well f) refl

-- ---- limits, and the comma behind a label

pub ends_again : (e : ExprTree) → IsWellExpr e → whole_expression_at (spell_expr e) ≡ Some (e, [])
ends_again e well = subst (λ t. whole_expression_at t ≡ Some (e, [])) (append-nil (spell_expr e)) (whole_again e [] well end_follows)

-- a comma follows, or nothing
step_follows : (o : Option ExprTree) → Follows 0 (spell_step o)
step_follows None = end_follows
step_follows (Some e) = comma_follows (spell_expr e)

pub limits_again : (a b : ExprTree) (o : Option ExprTree) → IsWellExpr a → IsWellExpr b → IsWellStep o → limits_at (spell_expr a ++ (44 ∷ (spell_expr b ++ spell_step o))) ≡ Some (record { first = a; last = b; step = o }, [])
unfolding limits_at either ◌>>=◌ after when
limits_again a b None well_a well_b well_c = rw (whole_again a (44 ∷ (spell_expr b ++ [])) well_a (comma_follows (spell_expr b ++ [])), whole_again b [] well_b end_follows) refl
limits_again a b (Some c) well_a well_b well_c =
    rw (whole_again a (44 ∷ (spell_expr b ++ (44 ∷ spell_expr c))) well_a (comma_follows (spell_expr b ++ (44 ∷ spell_expr c))), whole_again b (44 ∷ spell_expr c) well_b (comma_follows (spell_expr c)), ends_again c well_c) refl

pub no_comma_behind : (t : Text) → after (44 ∷ []) (41 ∷ t) ≡ None
unfolding after when
no_comma_behind t = refl

-- limits and a closing parenthesis behind them
two_limits : (t u rest : Text) (a b : ExprTree) → whole_expression_at t ≡ Some (a, 44 ∷ u) → whole_expression_at u ≡ Some (b, rest) → after (44 ∷ []) rest ≡ None → limits_at t ≡ Some (record { first = a; last = b; step = None }, rest)
unfolding limits_at either ◌>>=◌ after when
two_limits t u rest a b first last none = rw (first, last, none) refl

three_limits : (t u v rest : Text) (a b c : ExprTree) → whole_expression_at t ≡ Some (a, 44 ∷ u) → whole_expression_at u ≡ Some (b, 44 ∷ v) → whole_expression_at v ≡ Some (c, rest) → limits_at t ≡ Some (record { first = a; last = b; step = Some c }, rest)
unfolding limits_at either ◌>>=◌ after when
three_limits t u v rest a b c first last step = rw (first, last, step) refl

limits_by : (a b : ExprTree) (o : Option ExprTree) (rest : Text) → IsWellExpr a → IsWellExpr b → IsWellStep o → limits_at ((spell_expr a ++ (44 ∷ (spell_expr b ++ spell_step o))) ++ (41 ∷ rest)) ≡ Some (record { first = a; last = b; step = o }, 41 ∷ rest)
limits_by a b None rest well_a well_b well_c =
    let behind = spell_expr b ++ (41 ∷ rest) in
    let same : (spell_expr a ++ (44 ∷ (spell_expr b ++ []))) ++ (41 ∷ rest) ≡ spell_expr a ++ (44 ∷ behind) =
    ap (λ u. (spell_expr a ++ (44 ∷ u)) ++ (41 ∷ rest)) (append-nil (spell_expr b)) ∙ append_assoc (spell_expr a) (44 ∷ spell_expr b) (41 ∷ rest) in
    ap limits_at same ∙ two_limits (spell_expr a ++ (44 ∷ behind)) behind (41 ∷ rest) a b (whole_again a (44 ∷ behind) well_a (comma_follows behind)) (whole_again b (41 ∷ rest) well_b (parenthesis_follows rest)) (no_comma_behind rest)
limits_by a b (Some c) rest well_a well_b well_c =
    let last = spell_expr c ++ (41 ∷ rest) in
    let behind = spell_expr b ++ (44 ∷ last) in
    let same : (spell_expr a ++ (44 ∷ (spell_expr b ++ (44 ∷ spell_expr c)))) ++ (41 ∷ rest) ≡ spell_expr a ++ (44 ∷ behind) =
    append_assoc (spell_expr a) (44 ∷ (spell_expr b ++ (44 ∷ spell_expr c))) (41 ∷ rest) ∙ ap (λ u. spell_expr a ++ (44 ∷ u)) (append_assoc (spell_expr b) (44 ∷ spell_expr c) (41 ∷ rest)) in
    ap limits_at same ∙ three_limits (spell_expr a ++ (44 ∷ behind)) behind last (41 ∷ rest) a b c (whole_again a (44 ∷ behind) well_a (comma_follows behind)) (whole_again b (44 ∷ last) well_b (comma_follows last)) (whole_again c (41 ∷ rest) well_c (parenthesis_follows rest))

limits_closed : (l : LimitsTree) (rest : Text) → IsWellLimits l → limits_at (spell_limits l ++ (41 ∷ rest)) ≡ Some (l, 41 ∷ rest)
limits_closed l rest well = limits_by l.first l.last l.step rest well.0 well.1.0 well.1.1

-- ---- lists

-- what may follow the items of a list
pub record FollowsItems (least : ℕ) (rest : Text) : Type 0 where
  pub follows : Follows least rest
  pub ended : ends_list rest ≡ true
  pub unmarked : head_is_equals (marks_at 0 false rest) ≡ false

end_follows_items : FollowsItems 0 []
unfolding ends_list either after marks_at
end_follows_items = record { follows = end_follows; ended = refl; unmarked = refl }

control_again : (v t : Text) → is_name v ≡ true → begins_control (v ++ (61 ∷ t)) ≡ true
unfolding begins_control
control_again v t named = rw (run_again is_alphanumeric v (61 ∷ t) (letters_and_digits v named) refl, named) refl

ends_by : (t : Text) (b : Bool) → begins_control t ≡ b → ends_list (44 ∷ t) ≡ b
unfolding ends_list either after when
ends_by t b is = is

control_follows_items : (least : ℕ) (v t : Text) → is_name v ≡ true → FollowsItems least (44 ∷ (v ++ (61 ∷ t)))
unfolding marks_at
control_follows_items least v t named = record {
  follows = Follows_weaker 0 least (44 ∷ (v ++ (61 ∷ t))) (omega arith) (comma_follows (v ++ (61 ∷ t)));
  ended = ends_by (v ++ (61 ∷ t)) true (control_again v t named);
  unmarked = refl;
}

-- a character with which an expression without an opening parenthesis begins
abbrev pub is_unopened : ℕ → Bool
is_unopened c = is_alphanumeric c || (eqb c 43 || (eqb c 45 || eqb c 46))

unopened_weaker : (t : Text) → Starts is_alphanumeric t → Starts is_unopened t
unopened_weaker [] h = absurd h
unopened_weaker (c ∷ t) h = or_left (is_alphanumeric c) _ h

starts_unopened : (t u : Text) → Starts is_unopened t → t ≡ 40 ∷ u → ⊥
starts_unopened [] u starts e = absurd starts
starts_unopened (c ∷ t) u starts e =
    let same : Starts is_unopened (40 ∷ u) = subst (λ t. Starts is_unopened t) e starts in absurd cc

pub digits_start : (digits rest : Text) → is_number digits ≡ true → Starts is_alphanumeric (digits ++ rest)
digits_start [] rest well = absurd cc
digits_start (c ∷ digits) rest well =
    let all : list_all is_digit (c ∷ digits) ≡ true = (and_parts _ _ well).1 in or_right (is_letter c) (is_digit c) (and_parts _ _ all).0

closed_has_none : (e : ExprTree) (rest : Text) → IsWellExpr e → has_equals (spell_expr e ++ (41 ∷ rest)) ≡ false
unfolding marks_at
closed_has_none e rest well = ap (λ m. list_any (λ c. eqb c 61) m) (expression_passes e well 0 (41 ∷ rest))

-- no equals sign stands before the parenthesis that closes the first one of an expression
opened_has_none : (e : ExprTree) (rest u : Text) → IsWellExpr e → spell_expr e ++ rest ≡ 40 ∷ u → has_equals u ≡ false
opened_has_none (number digits) rest u well e = absurd (starts_unopened (digits ++ rest) u (unopened_weaker (digits ++ rest) (digits_start digits rest well)) e)
opened_has_none (truth true) rest u well e = absurd (starts_unopened (codes ".TRUE." ++ rest) u refl e)
opened_has_none (truth false) rest u well e = absurd (starts_unopened (codes ".FALSE." ++ rest) u refl e)
opened_has_none (name letters) rest u well e = absurd (starts_unopened (letters ++ rest) u (unopened_weaker (letters ++ rest) (name_starts letters rest well)) e)
opened_has_none (signed signs.Plus d) rest u well e = absurd (starts_unopened (43 ∷ (spell_expr d ++ rest)) u refl e)
opened_has_none (signed signs.Minus d) rest u well e = absurd (starts_unopened (45 ∷ (spell_expr d ++ rest)) u refl e)
opened_has_none (negated d) rest u well e = absurd (starts_unopened (codes ".NOT." ++ (spell_expr d ++ rest)) u refl e)
opened_has_none (binary o a b) rest u well e =
    opened_has_none a ((operator_text o ++ spell_expr b) ++ rest) u well.0 (sym (append_assoc (spell_expr a) (operator_text o ++ spell_expr b) rest) ∙ e)
opened_has_none (paren d) rest u well e =
    let same : spell_expr d ++ (41 ∷ rest) ≡ u = sym (append_assoc (spell_expr d) (41 ∷ []) rest) ∙ ap behind_first e in
    subst (λ u. has_equals u ≡ false) same (closed_has_none d rest well)
  where
    behind_first : Text → Text
    behind_first [] = []
    behind_first (c ∷ t) = t
opened_has_none (element letters es) rest u well e =
    let t = 40 ∷ (spell_exprs es ++ 41 ∷ []) in
    absurd (starts_unopened (letters ++ (t ++ rest)) u (unopened_weaker (letters ++ (t ++ rest)) (name_starts letters (t ++ rest) well.0)) (sym (append_assoc letters t rest) ∙ e))
opened_has_none (call letters) rest u well e =
    absurd (starts_unopened (letters ++ (codes "()" ++ rest)) u (unopened_weaker (letters ++ (codes "()" ++ rest)) (name_starts letters (codes "()" ++ rest) well)) (sym (append_assoc letters (codes "()") rest) ∙ e))

value_is : (least : ℕ) (t rest : Text) (e : ExprTree) → expression_from least t ≡ Some (e, rest) → value_item_at least t ≡ Some (value_item e, rest)
unfolding value_item_at ◌>>=◌
value_is least t rest e read = rw read refl

unopened_item : (least : ℕ) (rec : Reader ListItemsTree) (t : Text) (x : ListItemTree × Text) → after (40 ∷ []) t ≡ None → value_item_at least t ≡ Some x → item_at least rec t ≡ Some x
unfolding item_at either
unopened_item least rec t x none read = rw none read

opened_item : (least : ℕ) (rec : Reader ListItemsTree) (t u : Text) (x : ListItemTree × Text) → after (40 ∷ []) t ≡ Some u → has_equals u ≡ false → value_item_at least t ≡ Some x → item_at least rec t ≡ Some x
unfolding item_at either
opened_item least rec t u x opens other read = rw (opens, other) read

loop_is : (least : ℕ) (rec : Reader ListItemsTree) (u : Text) (x : ListItemTree × Text) → has_equals u ≡ true → loop_item_at rec u ≡ Some x → item_at least rec (40 ∷ u) ≡ Some x
unfolding item_at either after when
loop_is least rec u x equals read = rw equals read

loop_parts : (rec : Reader ListItemsTree) (u v m rest : Text) (xs : ListItemsTree) (l : LimitsTree) → rec u ≡ Some (xs, 44 ∷ (v ++ (61 ∷ m))) → name_at (v ++ (61 ∷ m)) ≡ Some (v, 61 ∷ m) → limits_at m ≡ Some (l, 41 ∷ rest) → loop_item_at rec u ≡ Some (loop_item xs v l, rest)
unfolding loop_item_at ◌>>=◌ after when
loop_parts rec u v m rest xs l a b c = rw (a, b, c) refl

value_item_again : (e : ExprTree) (least : ℕ) (rec : Reader ListItemsTree) (rest : Text) → IsWellItem least (value_item e) → Follows least rest → item_at least rec (spell_expr e ++ rest) ≡ Some (value_item e, rest)
unfolding expression_from
value_item_again e least rec rest well f = at_open (after (40 ∷ []) (spell_expr e ++ rest)) refl
  where
    read : value_item_at least (spell_expr e ++ rest) ≡ Some (value_item e, rest)
    read = value_is least (spell_expr e ++ rest) rest e (read_again e (again e) (length (spell_expr e ++ rest)) least rest well.0 (leb-true least (level_of e) well.1) f (omega arith))

    at_open : (o : Option Text) → after (40 ∷ []) (spell_expr e ++ rest) ≡ o → item_at least rec (spell_expr e ++ rest) ≡ Some (value_item e, rest)
    at_open None is = unopened_item least rec (spell_expr e ++ rest) (value_item e, rest) is read
    at_open (Some u) is =
        opened_item least rec (spell_expr e ++ rest) u (value_item e, rest) is (opened_has_none e rest u well.0 (after_takes (40 ∷ []) (spell_expr e ++ rest) u is)) read

last_item : (least n : ℕ) (t rest : Text) (x : ListItemTree) → item_at least (items_at least n) t ≡ Some (x, rest) → ends_list rest ≡ true → items_at least (suc n) t ≡ Some (more_items x no_items, rest)
unfolding items_at ◌>>=◌
last_item least n t rest x read ends = rw (read, ends) refl

next_item : (least n : ℕ) (t u rest : Text) (x : ListItemTree) (xs : ListItemsTree) → item_at least (items_at least n) t ≡ Some (x, 44 ∷ u) → ends_list (44 ∷ u) ≡ false → items_at least n u ≡ Some (xs, rest) → items_at least (suc n) t ≡ Some (more_items x xs, rest)
unfolding items_at ◌>>=◌
next_item least n t u rest x xs read goes others = rw (read, goes, after_again (44 ∷ []) u, others) refl

behind_unmarked : (xs : ListItemsTree) (rest : Text) → head_is_equals (marks_at 0 false rest) ≡ false → head_is_equals (marks_at 0 false (spell_items_behind xs ++ rest)) ≡ false
unfolding marks_at
behind_unmarked no_items rest h = h
behind_unmarked (more_items x xs) rest h = refl

items_unmarked : (least : ℕ) (x : ListItemTree) (xs : ListItemsTree) (rest : Text) → IsWellItem least x → head_is_equals (marks_at 0 false rest) ≡ false → head_is_equals (marks_at 0 false (spell_items (more_items x xs) ++ rest)) ≡ false
items_unmarked least x xs rest well h =
    ap head_is_equals (ap (marks 0) (append_assoc (spell_item x) (spell_items_behind xs) rest) ∙ item_passes least x well 0 (spell_items_behind xs ++ rest)) ∙ behind_unmarked xs rest h

equals_behind : (v t : Text) → is_name v ≡ true → has_equals (44 ∷ (v ++ (61 ∷ t))) ≡ true
unfolding marks_at
equals_behind v t named = ap (λ m. list_any (λ c. eqb c 61) m) (name_passes v named 0 (61 ∷ t))

mutual
  item_again : (x : ListItemTree) (least n : ℕ) (rest : Text) → IsWellItem least x → Follows least rest → length (spell_item x ++ rest) ≤ n → item_at least (items_at least n) (spell_item x ++ rest) ≡ Some (x, rest)
  item_again (value_item e) least n rest well f enough = value_item_again e least (items_at least n) rest well f
  item_again (loop_item xs v l) least n rest well f enough =
      let m = spell_limits l ++ (41 ∷ rest) in
      let control = 44 ∷ (v ++ (61 ∷ m)) in
      let u = spell_items xs ++ control in
      let same : spell_item (loop_item xs v l) ++ rest ≡ 40 ∷ u = ap (λ t. 40 ∷ t) (loop_regrouped (spell_items xs) v (spell_limits l) rest) in
      let short : length (40 ∷ u) ≤ n = subst (λ t. length t ≤ n) same enough in
      let equals : has_equals u ≡ true = items_keep least xs control well.1.0 ∙ equals_behind v m well.1.1.0 in
      let read = items_again xs least n control well.1.0 well.0 (control_follows_items least v m well.1.1.0) (omega arith) in
      ap (item_at least (items_at least n)) same ∙ loop_is least (items_at least n) u (loop_item xs v l, rest) equals
      (loop_parts (items_at least n) u v m rest xs l read (name_again v (61 ∷ m) well.1.1.0 refl) (limits_closed l rest well.1.1.1))

  pub items_again : (xs : ListItemsTree) (least n : ℕ) (rest : Text) → AreWellItems least xs → has_item xs ≡ true → FollowsItems least rest → length (spell_items xs ++ rest) < n → items_at least n (spell_items xs ++ rest) ≡ Some (xs, rest)
  items_again no_items least n rest well some f enough = absurd cc
  items_again (more_items x xs) least zero rest well some f enough = absurd (omega arith)
  items_again (more_items x no_items) least (suc n) rest well some f enough =
      let same : spell_items (more_items x no_items) ++ rest ≡ spell_item x ++ rest = ap (λ t. t ++ rest) (append-nil (spell_item x)) in
      let short : length (spell_item x ++ rest) < suc n = subst (λ t. length t < suc n) same enough in
      ap (items_at least (suc n)) same ∙ last_item least n (spell_item x ++ rest) rest x (item_again x least n rest well.0 f.follows (omega arith)) f.ended
  items_again (more_items x (more_items y ys)) least (suc n) rest well some f enough =
      let behind = spell_items (more_items y ys) ++ rest in
      let same : spell_items (more_items x (more_items y ys)) ++ rest ≡ spell_item x ++ (44 ∷ behind) = append_assoc (spell_item x) (spell_items_behind (more_items y ys)) rest in
      let short : length (spell_item x ++ (44 ∷ behind)) < suc n = subst (λ t. length t < suc n) same enough in
      let long = length-append (spell_item x) (44 ∷ behind) in
      let goes = ends_by behind false (no_control behind (items_unmarked least y ys rest well.1.0 f.unmarked)) in
      ap (items_at least (suc n)) same ∙ next_item least n (spell_item x ++ (44 ∷ behind)) behind rest x (more_items y ys)
      (item_again x least n (44 ∷ behind) well.0 (Follows_weaker 0 least (44 ∷ behind) (omega arith) (comma_follows behind)) (omega arith)) goes
      (items_again (more_items y ys) least n rest well.1 refl f (omega (arith, long)))

-- items up to the end
items_end : (xs : ListItemsTree) (n : ℕ) → AreWellItems 0 xs → has_item xs ≡ true → length (spell_items xs) < n → items_at 0 n (spell_items xs) ≡ Some (xs, [])
items_end xs n well some enough =
    let same = append-nil (spell_items xs) in
    subst (λ t. items_at 0 n t ≡ Some (xs, [])) same (items_again xs 0 n [] well some end_follows_items (subst (λ t. length t < n) (sym same) enough))

pub item_starts : (least : ℕ) (x : ListItemTree) (rest : Text) → IsWellItem least x → Starts is_first (spell_item x ++ rest)
item_starts least (value_item e) rest well = expression_starts e rest well.0
item_starts least (loop_item xs v l) rest well = refl

list_is : (t : Text) (xs : ListItemsTree) → 0 < length t → items_at 0 (suc (length t)) t ≡ Some (xs, []) → list_of t ≡ Some xs
unfolding list_of ◌>>=◌
list_is [] xs some read = absurd (omega arith)
list_is (c ∷ t) xs some read = rw read refl

pub list_again : (xs : ListItemsTree) → AreWellItems 0 xs → list_of (spell_items xs) ≡ Some xs
unfolding list_of
list_again no_items well = refl
list_again (more_items x xs) well =
    list_is (spell_items (more_items x xs)) (more_items x xs) (starts_some is_first (spell_items (more_items x xs)) (item_starts 0 x (spell_items_behind xs) well.0)) (items_end (more_items x xs) (suc (length (spell_items (more_items x xs)))) well refl (omega arith))

pub list_behind_again : (xs : ListItemsTree) → AreWellItems 0 xs → list_behind_comma (spell_items_behind xs) ≡ Some xs
unfolding list_behind_comma ◌>>=◌ when
list_behind_again no_items well = refl
list_behind_again (more_items x xs) well = rw (items_end (more_items x xs) (suc (length (spell_items (more_items x xs)))) well refl (omega arith)) refl

-- a name begins with a letter, which is no comma and no digit
letter_is_no_comma : (c : ℕ) → is_letter c ≡ true → eqb 44 c ≡ false
letter_is_no_comma c h = grind (arith, nat_tests)

pub comma_again : (comma : Bool) (v t : Text) → is_name v ≡ true → comma_at (spell_comma comma ++ (v ++ t)) ≡ (comma, v ++ t)
unfolding comma_at either after when
comma_again comma [] t well = absurd cc
comma_again true (c ∷ v) t well = refl
comma_again false (c ∷ v) t well = rw (letter_is_no_comma c (and_parts _ _ (and_parts _ _ well).0).0) refl

pub comma_ends : (comma : Bool) (v t : Text) → is_name v ≡ true → stops_at is_digit (spell_comma comma ++ (v ++ t))
comma_ends comma [] t well = absurd cc
comma_ends true (c ∷ v) t well = refl
comma_ends false (c ∷ v) t well = letter_is_no_digit c (and_parts _ _ (and_parts _ _ well).0).0

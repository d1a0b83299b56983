-- DATA statements that are well formed read as they were spelled.
use Rattle.std.proofs.Common.{◌≡◌, ℕ, zero, suc, ◌<◌, Bool, true, false, ltb, List, [], ◌∷◌, ◌++◌, length, Option, Some, None, refl, sym, ap, subst, ◌∙◌, append_assoc, length-append, arith}
use Rattle.std.specs.List.{list_all, AllByRecursion}
use Rattle.std.specs.Prelude.{codes}
use Rattle.std.proofs.lemmas.Bool.{and_parts, cond-true, or_left, or_right}
use Rattle.meaning.specs.declared.syntax.Sign.{Sign}
use Rattle.meaning.specs.declared.syntax.Sign.TheVariants as signs
use Rattle.meaning.specs.Characters.{is_digit, is_letter, is_alphanumeric, is_name, is_number}
use Rattle.meaning.specs.Syntax.{ListItemsTree, no_items, more_items, DataConstantTree, data_number, data_truth, data_name, RepeatTree, repeat_number, repeat_name, DataValueTree, DataSetTree, initializing}
use Rattle.meaning.specs.Spelling.{sign_byte, truth_text, spell_comma, spell, IsWell}
use Rattle.meaning.specs.Reading.{Text, ◌>>=◌, when, either, run, sign_at, ends_list, after, comma_at, separated_at, number_behind_sign, unsigned_at, data_constant_at, begins_repeat, repeat_of, repeated_value_at, data_value_at, data_list_at, data_set_at, data_sets_of, initializing_of}
use Rattle.meaning.specs.Spelling.{joined, spell_item, spell_items, spell_items_behind, has_item, AreWellItems, are_data_items, spell_data_constant, IsWellDataConstant, spell_repeat, IsWellRepeat, spell_data_value, IsWellDataValue, spell_data_set, IsWellDataSet, spell_data_sets}
use Rattle.meaning.specs.Kinds.{has_equals, marks_at, begins}
use Rattle.form_laws.proofs.Joined.{set_regrouped}
use Rattle.form_laws.proofs.Words.{after_again, stops_at, run_again}
use Rattle.form_laws.proofs.Marks.{letters_and_digits, all_weaker, no_head, values_keep, sets_have_none, and_false}
use Rattle.form_laws.proofs.CompleteExpressions.{Follows, stops, sign_again, no_sign, letter_is_no_digit, letter_is_no_dot, name_again, stops_weaker, truth_again, level_most, Starts, is_first}
use Rattle.form_laws.proofs.CompleteLists.{FollowsItems, items_again, item_starts}
use Rattle.form_laws.proofs.CompleteStatements.{comma_starts, many_again}

-- ---- DATA statements

-- what may follow a constant in a DATA statement
pub record FollowsConstant (rest : Text) : Type 0 where
  pub ends : stops_at is_alphanumeric rest
  pub unrepeated : begins rest (codes "*") ≡ false

comma_follows_constant : (t : Text) → FollowsConstant (44 ∷ t)
comma_follows_constant t = record { ends = refl; unrepeated = refl }

slash_follows_constant : (t : Text) → FollowsConstant (47 ∷ t)
slash_follows_constant t = record { ends = refl; unrepeated = refl }

when_true : {A : Type 0} → (b : Bool) (o : Option A) → b ≡ true → when b o ≡ o
unfolding when
when_true true o is = refl
when_true false o is = absurd cc

signed_again : (o : Option Sign) (digits rest : Text) → is_number digits ≡ true → stops_at is_digit rest → number_behind_sign o (digits ++ rest) ≡ Some (data_number o digits, rest)
unfolding number_behind_sign
signed_again o digits rest well ends =
    let all : list_all is_digit digits ≡ true = (and_parts _ _ well).1 in
    rw (run_again is_digit digits rest all ends) (when_true (is_number digits) (Some (data_number o digits, rest)) well)

unsigned_is : (t : Text) (x : DataConstantTree × Text) → sign_at t ≡ None → unsigned_at t ≡ Some x → data_constant_at t ≡ Some x
unfolding data_constant_at either
unsigned_is t x none read = rw none read

sign_is : (s : Sign) (t : Text) (x : DataConstantTree × Text) → number_behind_sign (Some s) t ≡ Some x → data_constant_at (sign_byte s ∷ t) ≡ Some x
unfolding data_constant_at either
sign_is s t x read = rw (sign_again s t) read

digits_again : (digits rest : Text) → is_number digits ≡ true → stops_at is_digit rest → data_constant_at (digits ++ rest) ≡ Some (data_number None digits, rest)
unfolding unsigned_at
digits_again [] rest well stops = absurd cc
digits_again (c ∷ digits) rest well stops =
    let all : list_all is_digit (c ∷ digits) ≡ true = (and_parts _ _ well).1 in
    let digit : is_digit c ≡ true = (and_parts _ _ all).0 in
    unsigned_is (c ∷ (digits ++ rest)) (data_number None (c ∷ digits), rest) (no_sign c (digits ++ rest) (or_right (is_letter c) (is_digit c) digit)) (rw digit (signed_again None (c ∷ digits) rest well stops))

named_constant_again : (letters rest : Text) → is_name letters ≡ true → stops_at is_alphanumeric rest → data_constant_at (letters ++ rest) ≡ Some (data_name letters, rest)
unfolding unsigned_at ◌>>=◌
named_constant_again [] rest well stops = absurd cc
named_constant_again (c ∷ letters) rest well stops =
    let letter : is_letter c ≡ true = (and_parts _ _ (and_parts _ _ well).0).0 in
    unsigned_is (c ∷ (letters ++ rest)) (data_name (c ∷ letters), rest) (no_sign c (letters ++ rest) (or_left (is_letter c) (is_digit c) letter))
    (rw (letter_is_no_digit c letter, letter_is_no_dot c letter, name_again (c ∷ letters) rest well stops) refl)

data_constant_again : (c : DataConstantTree) (rest : Text) → IsWellDataConstant c → stops_at is_alphanumeric rest → data_constant_at (spell_data_constant c ++ rest) ≡ Some (c, rest)
unfolding unsigned_at ◌>>=◌ sign_at
data_constant_again (data_number None digits) rest well stops = digits_again digits rest well (stops_weaker rest stops)
data_constant_again (data_number (Some s) digits) rest well stops = sign_is s (digits ++ rest) (data_number (Some s) digits, rest) (signed_again (Some s) digits rest well (stops_weaker rest stops))
data_constant_again (data_truth true) rest well stops = unsigned_is (truth_text true ++ rest) (data_truth true, rest) refl (rw (truth_again true rest) refl)
data_constant_again (data_truth false) rest well stops = unsigned_is (truth_text false ++ rest) (data_truth false, rest) refl (rw (truth_again false rest) refl)
data_constant_again (data_name letters) rest well stops = named_constant_again letters rest well stops

digit_is_alphanumeric : (c : ℕ) → is_digit c ≡ true → is_alphanumeric c ≡ true
digit_is_alphanumeric c digit = or_right (is_letter c) (is_digit c) digit

number_is_alphanumeric : (digits : Text) → is_number digits ≡ true → list_all is_alphanumeric digits ≡ true
number_is_alphanumeric digits well = all_weaker is_digit is_alphanumeric digit_is_alphanumeric digits (and_parts _ _ well).1

-- letters and digits with nothing behind them but what may follow a constant are no repeat count
word_unrepeated : (word rest : Text) → list_all is_alphanumeric word ≡ true → FollowsConstant rest → begins_repeat (word ++ rest) ≡ false
unfolding begins_repeat
word_unrepeated word rest all f = rw (run_again is_alphanumeric word rest all f.ends) f.unrepeated

constant_unrepeated : (c : DataConstantTree) (rest : Text) → IsWellDataConstant c → FollowsConstant rest → begins_repeat (spell_data_constant c ++ rest) ≡ false
unfolding begins_repeat run
constant_unrepeated (data_number None digits) rest well f = word_unrepeated digits rest (number_is_alphanumeric digits well) f
constant_unrepeated (data_number (Some signs.Plus) digits) rest well f = refl
constant_unrepeated (data_number (Some signs.Minus) digits) rest well f = refl
constant_unrepeated (data_truth true) rest well f = refl
constant_unrepeated (data_truth false) rest well f = refl
constant_unrepeated (data_name letters) rest well f = word_unrepeated letters rest (letters_and_digits letters well) f

unrepeated_again : (t : Text) (c : DataConstantTree × Text) → begins_repeat t ≡ false → data_constant_at t ≡ Some c → data_value_at t ≡ Some (record { repeat_count = None; constant = c.0 }, c.1)
unfolding data_value_at ◌>>=◌
unrepeated_again t c none read = rw (none, read) refl

repeated_again : (word : Text) (r : RepeatTree) (u : Text) (c : DataConstantTree × Text) → list_all is_alphanumeric word ≡ true → repeat_of word ≡ Some r → data_constant_at u ≡ Some c → data_value_at (word ++ (codes "*" ++ u)) ≡ Some (record { repeat_count = Some r; constant = c.0 }, c.1)
unfolding data_value_at repeated_value_at begins_repeat ◌>>=◌ after when
repeated_again word r u c all count read = rw (run_again is_alphanumeric word (codes "*" ++ u) all refl, count, read) refl

number_is_repeat : (digits : Text) → is_number digits ≡ true → repeat_of digits ≡ Some (repeat_number digits)
unfolding repeat_of
number_is_repeat digits well = cond-true (is_number digits) (Some (repeat_number digits)) (when (is_name digits) (Some (repeat_name digits))) well

name_is_no_number : (n : Text) → is_name n ≡ true → is_number n ≡ false
name_is_no_number [] well = absurd cc
name_is_no_number (c ∷ n) well = rw (letter_is_no_digit c (and_parts _ _ (and_parts _ _ well).0).0) (and_false (ltb 0 (length (c ∷ n))))

name_is_repeat : (n : Text) → is_name n ≡ true → repeat_of n ≡ Some (repeat_name n)
unfolding repeat_of when
name_is_repeat n well = rw (name_is_no_number n well, well) refl

count_regrouped : (word c rest : Text) → ((word ++ codes "*") ++ c) ++ rest ≡ word ++ (codes "*" ++ (c ++ rest))
count_regrouped word c rest = append_assoc (word ++ codes "*") c rest ∙ append_assoc word (codes "*") (c ++ rest)

data_value_by : (o : Option RepeatTree) (c : DataConstantTree) (rest : Text) → IsWellRepeat o → IsWellDataConstant c → FollowsConstant rest → data_value_at ((spell_repeat o ++ spell_data_constant c) ++ rest) ≡ Some (record { repeat_count = o; constant = c }, rest)
data_value_by None c rest well well_c f =
    unrepeated_again (spell_data_constant c ++ rest) (c, rest) (constant_unrepeated c rest well_c f) (data_constant_again c rest well_c f.ends)
data_value_by (Some (repeat_number digits)) c rest well well_c f =
    ap data_value_at (count_regrouped digits (spell_data_constant c) rest) ∙ repeated_again digits (repeat_number digits) (spell_data_constant c ++ rest) (c, rest) (number_is_alphanumeric digits well) (number_is_repeat digits well) (data_constant_again c rest well_c f.ends)
data_value_by (Some (repeat_name letters)) c rest well well_c f =
    ap data_value_at (count_regrouped letters (spell_data_constant c) rest) ∙ repeated_again letters (repeat_name letters) (spell_data_constant c ++ rest) (c, rest) (letters_and_digits letters well) (name_is_repeat letters well) (data_constant_again c rest well_c f.ends)

data_value_again : (v : DataValueTree) (rest : Text) → IsWellDataValue v → FollowsConstant rest → data_value_at (spell_data_value v ++ rest) ≡ Some (v, rest)
data_value_again v rest well f = data_value_by v.repeat_count v.constant rest well.0 well.1 f

-- a slash follows primaries
slash_follows : (t : Text) → Follows 8 (47 ∷ t)
unfolding after when
slash_follows t = record { ends = refl; unopened = refl; weak = λ o u e. let most = level_most o in omega arith }

slash_follows_items : (t : Text) → has_equals (47 ∷ t) ≡ false → FollowsItems 8 (47 ∷ t)
unfolding ends_list either after when
slash_follows_items t none = record { follows = slash_follows t; ended = refl; unmarked = no_head (marks_at 0 false (47 ∷ t)) none }

data_list_again : (xs : ListItemsTree) (rest : Text) → has_item xs ≡ true → AreWellItems 8 xs → are_data_items true xs ≡ true → FollowsItems 8 rest → data_list_at (spell_items xs ++ rest) ≡ Some (xs, rest)
unfolding data_list_at ◌>>=◌ when
data_list_again xs rest some well all f = rw (items_again xs 8 (suc (length (spell_items xs ++ rest))) rest well some f (omega arith), all) refl

items_start : (least : ℕ) (xs : ListItemsTree) (rest : Text) → has_item xs ≡ true → AreWellItems least xs → Starts is_first (spell_items xs ++ rest)
items_start least no_items rest some well = absurd cc
items_start least (more_items x xs) rest some well =
    subst (λ t. Starts is_first t) (sym (append_assoc (spell_item x) (spell_items_behind xs) rest)) (item_starts least x (spell_items_behind xs ++ rest) well.0)

data_set_is : (t : Text) (k : Bool × Text) (xs : ListItemsTree × Text) (rest : Text) (vs : List DataValueTree × Text) (behind : Text) → comma_at t ≡ k → data_list_at k.1 ≡ Some xs → after (codes "/") xs.1 ≡ Some rest
    → separated_at data_value_at (suc (length rest)) rest ≡ Some vs → after (codes "/") vs.1 ≡ Some behind → data_set_at t ≡ Some (record { comma = k.0; list = xs.0; values = vs.0 }, behind)
unfolding data_set_at ◌>>=◌
data_set_is t k xs rest vs behind a b c d f = rw (a, b, c, d, f) refl

no_comma_at_slash : (t : Text) → after (44 ∷ []) (47 ∷ t) ≡ None
unfolding after when
no_comma_at_slash t = refl

data_set_again : (s : DataSetTree) (rest : Text) → IsWellDataSet s → has_equals rest ≡ false → data_set_at (spell_data_set s ++ rest) ≡ Some (s, rest)
data_set_again s rest well none =
    let vs = joined spell_data_value s.values ++ (47 ∷ rest) in
    let xs = spell_items s.list ++ (47 ∷ vs) in
    let follows = slash_follows_items vs (values_keep s.values rest well.1.1.1.1 ∙ none) in
    ap data_set_at (set_regrouped (spell_comma s.comma) (spell_items s.list) (joined spell_data_value s.values) rest)
    ∙ data_set_is (spell_comma s.comma ++ xs) (s.comma, xs) (s.list, 47 ∷ vs) vs (s.values, 47 ∷ rest) rest (comma_starts s.comma xs (items_start 8 s.list (47 ∷ vs) well.0 well.1.0))
    (data_list_again s.list (47 ∷ vs) well.0 well.1.0 well.1.1.0 follows) (after_again (codes "/") vs)
    (many_again DataValueTree data_value_at spell_data_value IsWellDataValue FollowsConstant data_value_again comma_follows_constant s.values (47 ∷ rest) well.1.1.1 (slash_follows_constant rest) (no_comma_at_slash rest)) (after_again (codes "/") rest)

set_long : (s : DataSetTree) (rest : Text) → length rest < length (spell_data_set s ++ rest)
set_long s rest =
    let vs = joined spell_data_value s.values in
    let same = ap length (set_regrouped (spell_comma s.comma) (spell_items s.list) vs rest) in
    let a = length-append (spell_comma s.comma) (spell_items s.list ++ (47 ∷ (vs ++ (47 ∷ rest)))) in
    let b = length-append (spell_items s.list) (47 ∷ (vs ++ (47 ∷ rest))) in
    let c = length-append vs (47 ∷ rest) in
    omega (arith, same, a, b, c)

next_set : (n : ℕ) (t u : Text) (s : DataSetTree) (ss : List DataSetTree) → 0 < length t → data_set_at t ≡ Some (s, u) → data_sets_of n u ≡ Some ss → data_sets_of (suc n) t ≡ Some (s ∷ ss)
unfolding data_sets_of ◌>>=◌
next_set n [] u s ss some read others = absurd (omega arith)
next_set n (c ∷ t) u s ss some read others = rw (read, others) refl

data_sets_again : (n : ℕ) (ss : List DataSetTree) → AllByRecursion IsWellDataSet ss → length (spell_data_sets ss) < n → data_sets_of n (spell_data_sets ss) ≡ Some ss
unfolding data_sets_of
data_sets_again zero ss well enough = absurd (omega arith)
data_sets_again (suc n) [] well enough = refl
data_sets_again (suc n) (s ∷ ss) well enough =
    let rest = spell_data_sets ss in
    let long : length rest < length (spell_data_set s ++ rest) = set_long s rest in
    next_set n (spell_data_set s ++ rest) rest s ss (omega arith) (data_set_again s rest well.0 (sets_have_none ss well.1)) (data_sets_again n ss well.1 (omega arith))

pub initializing_again : (ss : List DataSetTree) → IsWell (initializing ss) → initializing_of (spell (initializing ss)) ≡ Some (initializing ss)
unfolding initializing_of ◌>>=◌ after when
initializing_again ss well = rw (data_sets_again (suc (length (spell_data_sets ss))) ss well.1 (omega arith), well.0) refl

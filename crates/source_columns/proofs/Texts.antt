-- Texts of continuation lines, and statements one after another.
use Rattle.std.proofs.Common.{◌≡◌, ℕ, ◌+◌, ◌<◌, ◌≤◌, Bool, true, false, cond, List, [], ◌∷◌, ◌++◌, Option, Some, None, Result, Ok, Err, refl, sym, ap, ◌∙◌, inl, inr, ◌⊎◌, append_assoc, arith}
use Rattle.std.specs.Prelude.{not}
use Rattle.std.specs.List.{flat_map, list_any, filter}
use Rattle.std.proofs.lemmas.Bool.{cases_lt}
use Rattle.std.proofs.lemmas.List.{append-nil}
use Rattle.meaning.specs.declared.refusal.Broken.{Broken}
use Rattle.meaning.specs.declared.refusal.Rule.{Rule}
use Rattle.meaning.specs.declared.refusal.Rule.TheVariants.{C1, C3, C5, C7}
use Rattle.meaning.specs.declared.refusal.Refusal.{Refusal}
use Rattle.meaning.specs.declared.refusal.Refusal.TheVariants as refusals
use Rattle.meaning.specs.Characters.{is_digit, number_of}
use Rattle.meaning.specs.Reports.{Tells}
use Rattle.meaning.specs.Refusals.{unless, with_first}
use Rattle.meaning.specs.Lines.{lines_of, is_initial, label_field, statement_field, StatementLine, statement_lines}
use Rattle.meaning.specs.Statements.{Entry, entry_in, groups, continuations, is_too_long, statements_in, statements_of}
use Rattle.source_columns.specs.Continuing.{rule_behind, first_broken, behind}
use Rattle.source_columns.proofs.Laws.{continues, behind_initial, behind_other, first_broken_next}

-- columns 7 to 72 of lines, joined
abbrev pub fields : List StatementLine → List ℕ
fields ls = flat_map (λ l. statement_field l.columns) ls

pub fields_next : (l : StatementLine) (ls : List StatementLine) → is_initial l.columns ≡ false → fields (continuations (l ∷ ls)) ≡ statement_field l.columns ++ fields (continuations ls)
fields_next l ls e = ap fields (continues l ls e)

-- ---- the loop over continuation lines

abbrev pub reads_on : ℕ → List ℕ → List StatementLine → Result (List ℕ) Broken
reads_on count text ls = unless (first_broken count (continuations ls)) (text ++ fields (continuations ls))

pub text_next : (count : ℕ) (text made : List ℕ) (line : StatementLine) (lines ls : List StatementLine) (total : Result (List ℕ) Broken) → lines ≡ line ∷ ls → is_initial line.columns ≡ false → rule_behind count line.columns ≡ None
    → made ≡ text ++ statement_field line.columns → reads_on count text lines ≡ total → reads_on (count + 1) made ls ≡ total
text_next count text made line lines ls total parts e kept is so_far =
    let here : first_broken count (continuations lines) ≡ first_broken (count + 1) (continuations ls) = ap (λ xs. first_broken count (continuations xs)) parts ∙ first_broken_next count line ls e ∙ rw kept refl in
    let joined : made ++ fields (continuations ls) ≡ text ++ fields (continuations lines) = rw (is, parts, append_assoc text (statement_field line.columns) (fields (continuations ls))) (ap (λ xs. text ++ xs) (sym (fields_next line ls e))) in
    ap (λ o. unless o (made ++ fields (continuations ls))) (sym here) ∙ ap (λ xs. unless (first_broken count (continuations lines)) xs) joined ∙ so_far

pub text_refused : (count : ℕ) (text : List ℕ) (line : StatementLine) (lines ls : List StatementLine) (total : Result (List ℕ) Broken) (rule : Rule) → lines ≡ line ∷ ls → is_initial line.columns ≡ false → rule_behind count line.columns ≡ Some rule
    → reads_on count text lines ≡ total → total ≡ Err (record { line = line.line; rule = rule })
text_refused count text line lines ls total rule parts e broken so_far =
    let here : first_broken count (continuations lines) ≡ Some (record { line = line.line; rule = rule }) = ap (λ xs. first_broken count (continuations xs)) parts ∙ first_broken_next count line ls e ∙ rw broken refl in
    sym so_far ∙ ap (λ o. unless o (text ++ fields (continuations lines))) here

pub text_done : (count : ℕ) (text : List ℕ) (lines : List StatementLine) (total : Result (List ℕ) Broken) → continuations lines ≡ [] → reads_on count text lines ≡ total → total ≡ Ok text
unfolding first_broken
text_done count text lines total none so_far =
    sym so_far ∙ rw none (ap (λ (xs : List ℕ). Ok xs) (append-nil text))

pub left_done : (lines : List StatementLine) → continuations lines ≡ [] → behind lines ≡ lines
unfolding behind
left_done [] none = refl
left_done (l ∷ ls) none = by_test (is_initial l.columns) refl
  where
    nil_not_cons : {x : StatementLine} {xs : List StatementLine} → [] ≡ x ∷ xs → ⊥
    nil_not_cons k = cc

    by_test : (b : Bool) → is_initial l.columns ≡ b → behind (l ∷ ls) ≡ l ∷ ls
    by_test true e = behind_initial l ls e
    by_test false e = absurd (nil_not_cons (sym none ∙ continues l ls e))

pub left_next : (line : StatementLine) (lines ls total : List StatementLine) → lines ≡ line ∷ ls → is_initial line.columns ≡ false → behind lines ≡ total → behind ls ≡ total
left_next line lines ls total parts e so_far =
    sym (behind_other line ls e) ∙ ap behind (sym parts) ∙ so_far

-- a line that breaks no rule isn't the twentieth
pub fewer : (count : ℕ) (columns : List ℕ) → rule_behind count columns ≡ None → count ≤ 19 → count + 1 ≤ 19
fewer count columns kept le = by_place (cases_lt count 19)
  where
    some_left : (x y : Bool) → cond x (Some C1) (cond y (Some C3) (Some C5)) ≡ None → ⊥
    some_left true y e = cc
    some_left false true e = cc
    some_left false false e = cc

    by_place : (count < 19) ⊎ (19 ≤ count) → count + 1 ≤ 19
    by_place (inl lt) = omega arith
    by_place (inr ge) = let is : count ≡ 19 = omega arith in absurd (some_left _ _ (rw is at kept))

-- ---- the loop over statements

-- what was read before, and what is still read
abbrev pub with_front : List Entry → Result (List Entry) Broken → Result (List Entry) Broken
with_front front (Ok es) = Ok (front ++ es)
with_front front (Err b) = Err b

pub statement_next : (front made : List Entry) (x : Entry) (lines ls : List StatementLine) (total : Result (List Entry) Broken) → made ≡ front ++ x ∷ [] → statements_in lines ≡ with_first (Ok x) (statements_in ls) → with_front front (statements_in lines) ≡ total
    → with_front made (statements_in ls) ≡ total
statement_next front made x lines ls total is here so_far =
    rw is (sym (regrouped (statements_in ls)) ∙ ap (with_front front) (sym here) ∙ so_far)
  where
    regrouped : (r : Result (List Entry) Broken) → with_front front (with_first (Ok x) r) ≡ with_front (front ++ x ∷ []) r
    regrouped (Ok es) = ap (λ (fs : List Entry). Ok fs) (sym (append_assoc front (x ∷ []) es))
    regrouped (Err b) = refl

pub statements_done : (front : List Entry) (lines : List StatementLine) (total : Result (List Entry) Broken) → lines ≡ [] → with_front front (statements_in lines) ≡ total → total ≡ Ok front
unfolding statements_in groups
statements_done front lines total none so_far =
    sym so_far ∙ rw none (ap (λ (es : List Entry). Ok es) (append-nil front))

pub is_refused : (e : Refusal) (front : List Entry) (lines ls : List StatementLine) (total : Result (List Entry) Broken) → lines ≡ ls → Tells (statements_in ls) e → with_front front (statements_in lines) ≡ total → Tells total e
is_refused refusals.Memory front lines ls total parts here so_far = tt
is_refused (refusals.Rule rule at) front lines ls total parts here so_far =
    sym so_far ∙ ap (λ r. with_front front r) (ap statements_in parts ∙ here)

-- ---- the whole source

pub is_long : (source : List ℕ) → true ≡ is_too_long source → statements_of source ≡ Err (record { line = 1; rule = C7 })
unfolding statements_of
is_long source e = rw (← e) refl

pub is_not_long : (source : List ℕ) → false ≡ is_too_long source → statements_of source ≡ statements_in (statement_lines 1 (lines_of source))
unfolding statements_of
is_not_long source e = rw (← e) refl

-- ---- one statement

pub true_of_not : (b : Bool) → false ≡ not b → b ≡ true
true_of_not true e = refl
true_of_not false e = absurd (true_not_false (sym e))
  where
    true_not_false : true ≡ false → ⊥
    true_not_false k = cc

pub false_of_not : (b : Bool) → true ≡ not b → b ≡ false
false_of_not false e = refl
false_of_not true e = absurd (true_not_false e)
  where
    true_not_false : true ≡ false → ⊥
    true_not_false k = cc

-- what the text says of the lines behind an initial line
pub broken_behind : (o : Option Broken) (xs : List ℕ) (b : Broken) → unless o xs ≡ Err b → o ≡ Some b
broken_behind None xs b e = absurd (ok_not_err e)
  where
    ok_not_err : Ok xs ≡ Err b → ⊥
    ok_not_err k = cc
broken_behind (Some a) xs b e = cc

pub whole_behind : (o : Option Broken) (xs ys : List ℕ) → unless o xs ≡ Ok ys → (o ≡ None) × (ys ≡ xs)
whole_behind None xs ys e = (refl, cc)
whole_behind (Some a) xs ys e = absurd (err_not_ok e)
  where
    err_not_ok : Err a ≡ Ok ys → ⊥
    err_not_ok k = cc

pub told_behind : (e : Refusal) (total : Result (List Entry) Broken) (o : Option Broken) (xs : List ℕ) → Tells (unless o xs) e → ((b : Broken) → o ≡ Some b → total ≡ Err b) → Tells total e
told_behind refusals.Memory total o xs here then = tt
told_behind (refusals.Rule rule at) total o xs here then =
    then (record { line = at; rule = rule }) (broken_behind o xs _ here)

pub entry_made : (l : StatementLine) (ks : List StatementLine) (label : Option ℕ) (field text made : List ℕ) → label ≡ cond (list_any is_digit field) (Some (number_of (filter is_digit field))) None → field ≡ label_field l.columns → text ≡ statement_field l.columns → made ≡ text ++ fields ks
    → entry_in (record { initial = l; continued = ks }) ≡ record { line = l.line; label = label; text = made }
entry_made l ks label field text made a b c d = rw (d, c, a, b) refl

pub statement_read : (ls rest lines : List StatementLine) (x y : Entry) → statements_in ls ≡ with_first (Ok x) (statements_in lines) → x ≡ y → rest ≡ lines → statements_in ls ≡ with_first (Ok y) (statements_in rest)
statement_read ls rest lines x y read same is =
    read ∙ ap (λ z. with_first (Ok z) (statements_in lines)) same ∙ ap (λ zs. with_first (Ok y) (statements_in zs)) (sym is)

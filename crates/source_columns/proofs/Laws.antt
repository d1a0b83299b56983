-- The least broken pair of lines, and their statements, from the first line on.
use Rattle.std.proofs.Common.{◌≡◌, ℕ, zero, suc, ◌+◌, ◌-◌, ◌≤◌, ◌<◌, ◌&&◌, Bool, true, false, cond, eqb, List, [], ◌∷◌, ◌++◌, map, drop, Option, Some, None, Ok, Err, refl, sym, ap, ◌∙◌, arith, subst, inl, inr, ◌⊎◌}
use Rattle.std.specs.Prelude.{not}
use Rattle.std.specs.List.{flat_map, list_all}
use Rattle.std.proofs.lemmas.Bool.{ne_eqb, cases_lt}
use Rattle.std.proofs.lemmas.List.Sums.{take_while-cons}
use Rattle.meaning.specs.declared.refusal.Broken.{Broken}
use Rattle.meaning.specs.declared.refusal.Rule.TheVariants.{C1, C2, C3, C4, C5, C6}
use Rattle.meaning.specs.Refusals.{least, merge, unless, with_first}
use Rattle.meaning.specs.Lines.{is_initial, label_field, StatementLine}
use Rattle.meaning.specs.Statements.{Entry, groups, continuations, entry_in, text_of, is_printable, is_label_field, is_blank_field, is_unpaired, broken_in_line, broken_alone, broken_past, broken_in_group, broken_if, broken_in, statements_in}
use Rattle.meaning.proofs.Least.{least-append, merge-merge}
use Rattle.source_columns.specs.Continuing.{rule_behind, or_else, broken_at, first_broken, behind}
use Rattle.source_columns.proofs.Order.{AtLine, NotBefore, broken, merge_not_before, merge_first, merge_last, merge_merge_first, merge_rank, merge_rank_if, first_of, if_at, least_three}
use Rattle.source_columns.proofs.Ascending.{Ascends, beyond, line_at, lines_from, alone_from, past_from, groups_from}

-- ---- the lists of definitions from the first line on

pub continues : (l : StatementLine) (ls : List StatementLine) → is_initial l.columns ≡ false → continuations (l ∷ ls) ≡ l ∷ continuations ls
continues l ls e = rw (take_while-cons, e) refl

pub continues_not : (l : StatementLine) (ls : List StatementLine) → is_initial l.columns ≡ true → continuations (l ∷ ls) ≡ []
continues_not l ls e = rw (take_while-cons, e) refl

pub groups_initial : (l : StatementLine) (ls : List StatementLine) → is_initial l.columns ≡ true → groups (l ∷ ls) ≡ record { initial = l; continued = continuations ls } ∷ groups ls
unfolding groups
groups_initial l ls e = rw e refl

pub groups_other : (l : StatementLine) (ls : List StatementLine) → is_initial l.columns ≡ false → groups (l ∷ ls) ≡ groups ls
unfolding groups
groups_other l ls e = rw e refl

groups_behind : (ls : List StatementLine) → groups (behind ls) ≡ groups ls
unfolding groups behind
groups_behind [] = refl
groups_behind (l ∷ ls) = by_test (is_initial l.columns) refl (groups_behind ls)
  where
    by_test : (b : Bool) → is_initial l.columns ≡ b → groups (behind ls) ≡ groups ls → groups (cond b (l ∷ ls) (behind ls)) ≡ cond b (record { initial = l; continued = continuations ls } ∷ groups ls) (groups ls)
    by_test true e k = rw e refl
    by_test false e k = k

-- ---- a line by itself

abbrev unprintable : StatementLine → Bool
unprintable l = not (list_all is_printable l.columns)

abbrev mislabelled : StatementLine → Bool
mislabelled l = not (is_label_field (label_field l.columns))

abbrev labelled : StatementLine → Bool
labelled l = not (is_blank_field (label_field l.columns))

abbrev line_breaks : StatementLine → Option Broken
line_breaks l = first_of (unprintable l) (is_initial l.columns && mislabelled l) (not (is_initial l.columns) && labelled l) l.line

least_line : (l : StatementLine) → least (broken_in_line l) ≡ line_breaks l
least_line l = least_three _ _ _ l.line

-- ---- a continuation line with no initial line before it

spread_alone : (xs fs ms hs : List Broken) (c : Broken) → least ((xs ++ fs) ++ (c ∷ (ms ++ hs))) ≡ merge (merge (least xs) (least fs)) (merge (Some c) (merge (least ms) (least hs)))
spread_alone xs fs ms hs c =
    least-append (xs ++ fs) (c ∷ (ms ++ hs)) ∙ ap (λ o. merge o (merge (Some c) (least (ms ++ hs)))) (least-append xs fs) ∙ ap (λ o. merge (merge (least xs) (least fs)) (merge (Some c) o)) (least-append ms hs)

or_some : (o p : Option Broken) (c : Broken) → or_else (or_else o (Some c)) p ≡ or_else o (Some c)
or_some None p c = refl
or_some (Some a) p c = refl

merge_alone : (line : ℕ) (b f m h : Option Broken) (c : Broken) → AtLine line b → c.line ≡ line → NotBefore (line + 1) f → NotBefore (line + 1) m → NotBefore (line + 1) h → merge b (Some c) ≡ or_else b (Some c)
    → merge (merge b f) (merge (Some c) (merge m h)) ≡ or_else b (Some c)
merge_alone line b f m h c at is p q r ranked =
    merge_merge_first line b (Some c) f (merge m h) at is p (merge_not_before (line + 1) m h q r) ∙ ap (λ o. or_else o (merge f (merge m h))) ranked ∙ or_some b (merge f (merge m h)) c

pub alone : (l : StatementLine) (ls : List StatementLine) → Ascends (l.line + 1) ls → is_initial l.columns ≡ false → least (broken_in (l ∷ ls)) ≡ or_else (line_breaks l) (Some (broken l.line C4))
alone l ls h e =
    let from = beyond (l.line + 1) (l.line + 1) ls (omega arith) h in
    let ranked : merge (least (broken_in_line l)) (Some (broken_alone l)) ≡ or_else (least (broken_in_line l)) (Some (broken_alone l)) = rw (least_line l) (merge_rank _ _ _ l.line C4 (omega arith)) in
    rw (continues l ls e, groups_other l ls e) (spread_alone (broken_in_line l) (flat_map broken_in_line ls) (map broken_alone (continuations ls)) (flat_map broken_in_group (groups ls)) (broken_alone l) ∙ merge_alone l.line _ _ _ _ (broken_alone l) (line_at l) refl (lines_from (l.line + 1) ls from) (alone_from (l.line + 1) ls from) (groups_from (l.line + 1) ls from) ranked ∙ ap (λ o. or_else o (Some (broken_alone l))) (least_line l))

-- ---- the lines behind an initial line

no_alone : (ls : List StatementLine) → continuations ls ≡ [] → least (broken_in ls) ≡ merge (least (flat_map broken_in_line ls)) (least (flat_map broken_in_group (groups ls)))
no_alone ls e =
    rw e (least-append (flat_map broken_in_line ls) (flat_map broken_in_group (groups ls)))

none_past : (k : ℕ) → broken_past (drop k []) ≡ []
none_past zero = refl
none_past (suc k) = refl

-- what the next continuation line breaks, the nineteen or less before it being counted
rule_told : (n : ℕ) (l : StatementLine) → is_initial l.columns ≡ false → or_else (line_breaks l) (cond (eqb n 19) (Some (broken l.line C5)) None) ≡ broken_at l.line (rule_behind n l.columns)
rule_told n l e = rw e (by_tests (unprintable l) (labelled l) (eqb n 19) (mislabelled l))
  where
    by_tests : (x y t m : Bool) → or_else (first_of x (false && m) (true && y) l.line) (cond t (Some (broken l.line C5)) None) ≡ broken_at l.line (cond x (Some C1) (cond y (Some C3) (cond t (Some C5) None)))
    by_tests true y t m = refl
    by_tests false true t m = refl
    by_tests false false true m = refl
    by_tests false false false m = refl

or_none : (o : Option Broken) → or_else o None ≡ o
or_none None = refl
or_none (Some b) = refl

or_else_assoc : (o p q : Option Broken) → or_else (or_else o p) q ≡ or_else o (or_else p q)
or_else_assoc None p q = refl
or_else_assoc (Some b) p q = refl

abbrev lines_break : List StatementLine → Option Broken
lines_break ls = least (flat_map broken_in_line ls)

abbrev groups_break : List StatementLine → Option Broken
groups_break ls = least (flat_map broken_in_group (groups ls))

abbrev past_breaks : ℕ → List StatementLine → Option Broken
past_breaks n ls = least (broken_past (drop (19 - n) (continuations ls)))

abbrev Streams : ℕ → List StatementLine → Type 0
Streams n ls = merge (lines_break ls) (merge (past_breaks n ls) (groups_break ls)) ≡ or_else (first_broken n (continuations ls)) (least (broken_in (behind ls)))

pub behind_initial : (l : StatementLine) (ls : List StatementLine) → is_initial l.columns ≡ true → behind (l ∷ ls) ≡ l ∷ ls
unfolding behind
behind_initial l ls e = rw e refl

pub behind_other : (l : StatementLine) (ls : List StatementLine) → is_initial l.columns ≡ false → behind (l ∷ ls) ≡ behind ls
unfolding behind
behind_other l ls e = rw e refl

pub first_broken_next : (n : ℕ) (l : StatementLine) (ls : List StatementLine) → is_initial l.columns ≡ false → first_broken n (continuations (l ∷ ls)) ≡ or_else (broken_at l.line (rule_behind n l.columns)) (first_broken (n + 1) (continuations ls))
unfolding first_broken
first_broken_next n l ls e = rw (continues l ls e) refl

first_broken_end : (n : ℕ) (l : StatementLine) (ls : List StatementLine) → is_initial l.columns ≡ true → first_broken n (continuations (l ∷ ls)) ≡ None
unfolding first_broken
first_broken_end n l ls e = rw (continues_not l ls e) refl

told_before : (n : ℕ) (l : StatementLine) → n < 19 → is_initial l.columns ≡ false → least (broken_in_line l) ≡ broken_at l.line (rule_behind n l.columns)
told_before n l lt e =
    let test : eqb n 19 ≡ false = ne_eqb n 19 (λ k. omega (arith, k)) in
    least_line l ∙ sym (or_none (line_breaks l)) ∙ ap (λ b. or_else (line_breaks l) (cond b (Some (broken l.line C5)) None)) (sym test) ∙ rule_told n l e

past_next : (n : ℕ) (l : StatementLine) (ls : List StatementLine) → n < 19 → is_initial l.columns ≡ false → past_breaks n (l ∷ ls) ≡ past_breaks (n + 1) ls
past_next n l ls lt e =
    let k : 19 - n ≡ suc (19 - (n + 1)) = omega arith in
    rw (continues l ls e, k) refl

past_end : (n : ℕ) (l : StatementLine) (ls : List StatementLine) → is_initial l.columns ≡ true → past_breaks n (l ∷ ls) ≡ None
past_end n l ls e = rw (continues_not l ls e, none_past) refl

-- a line that breaks what it breaks before all that comes behind it
merge_next : (line : ℕ) (b t f p h q r : Option Broken) → AtLine line b → NotBefore (line + 1) f → NotBefore (line + 1) p → NotBefore (line + 1) h → b ≡ t → merge f (merge p h) ≡ or_else q r → merge (merge b f) (merge p h) ≡ or_else (or_else t q) r
merge_next line b t f p h q r at i j k is later =
    sym (merge-merge b f (merge p h)) ∙ merge_first line b (merge f (merge p h)) at (merge_not_before (line + 1) f (merge p h) i (merge_not_before (line + 1) p h j k)) ∙ ap (λ o. or_else b o) later ∙ sym (or_else_assoc b q r) ∙ ap (λ o. or_else (or_else o q) r) is

stream_next : (n : ℕ) (l : StatementLine) (ls : List StatementLine) → n < 19 → is_initial l.columns ≡ false → Ascends (l.line + 1) ls → Streams (n + 1) ls → Streams n (l ∷ ls)
stream_next n l ls lt e h later =
    let from = beyond (l.line + 1) (l.line + 1) ls (omega arith) h in
    rw (past_next n l ls lt e, groups_other l ls e, behind_other l ls e, first_broken_next n l ls e) (ap (λ o. merge o (merge (past_breaks (n + 1) ls) (groups_break ls))) (least-append (broken_in_line l) (flat_map broken_in_line ls)) ∙ merge_next l.line (least (broken_in_line l)) _ (lines_break ls) (past_breaks (n + 1) ls) (groups_break ls) (first_broken (n + 1) (continuations ls)) (least (broken_in (behind ls))) (line_at l) (lines_from (l.line + 1) ls from) (past_from (l.line + 1) (19 - (n + 1)) ls from) (groups_from (l.line + 1) ls from) (told_before n l lt e) later)

-- the twentieth continuation line, whatever comes behind it
merge_final : (line : ℕ) (b t f h q r : Option Broken) (c : Broken) → AtLine line b → c.line ≡ line → NotBefore (line + 1) f → NotBefore (line + 1) h → merge b (Some c) ≡ or_else b (Some c) → or_else b (Some c) ≡ t → merge (merge b f) (merge (Some c) h) ≡ or_else (or_else t q) r
merge_final line b t f h q r c at is i j ranked told =
    merge_merge_first line b (Some c) f h at is i j ∙ ap (λ o. or_else o (merge f h)) ranked ∙ or_some b (merge f h) c ∙ sym (or_some b r c) ∙ ap (λ o. or_else o r) (sym (or_some b q c)) ∙ ap (λ o. or_else (or_else o q) r) told

stream_last : (l : StatementLine) (ls : List StatementLine) → is_initial l.columns ≡ false → Ascends (l.line + 1) ls → Streams 19 (l ∷ ls)
stream_last l ls e h =
    let from = beyond (l.line + 1) (l.line + 1) ls (omega arith) h in
    let past : past_breaks 19 (l ∷ ls) ≡ Some (broken l.line C5) = rw (continues l ls e) refl in
    let ranked : merge (least (broken_in_line l)) (Some (broken l.line C5)) ≡ or_else (least (broken_in_line l)) (Some (broken l.line C5)) = rw (least_line l) (merge_rank _ _ _ l.line C5 (omega arith)) in
    let told : or_else (least (broken_in_line l)) (Some (broken l.line C5)) ≡ broken_at l.line (rule_behind 19 l.columns) = ap (λ o. or_else o (Some (broken l.line C5))) (least_line l) ∙ rule_told 19 l e in
    rw (past, groups_other l ls e, behind_other l ls e, first_broken_next 19 l ls e) (ap (λ o. merge o (merge (Some (broken l.line C5)) (groups_break ls))) (least-append (broken_in_line l) (flat_map broken_in_line ls)) ∙ merge_final l.line (least (broken_in_line l)) _ (lines_break ls) (groups_break ls) (first_broken 20 (continuations ls)) (least (broken_in (behind ls))) (broken l.line C5) (line_at l) refl (lines_from (l.line + 1) ls from) (groups_from (l.line + 1) ls from) ranked told)

stream_end : (n : ℕ) (l : StatementLine) (ls : List StatementLine) → is_initial l.columns ≡ true → Streams n (l ∷ ls)
stream_end n l ls e =
    rw (past_end n l ls e, behind_initial l ls e, first_broken_end n l ls e) (sym (no_alone (l ∷ ls) (continues_not l ls e)))

stream_empty : (n : ℕ) → Streams n []
unfolding first_broken behind groups
stream_empty n = rw none_past refl

pub stream : (n m : ℕ) (ls : List StatementLine) → n ≤ 19 → Ascends m ls → Streams n ls
stream n m [] le h = stream_empty n
stream n m (l ∷ ls) le h =
    by_test (is_initial l.columns) refl (λ k. stream (n + 1) (l.line + 1) ls (omega (arith, k)) h.1)
  where
    by_place : is_initial l.columns ≡ false → (n < 19 → Streams (n + 1) ls) → (n < 19) ⊎ (19 ≤ n) → Streams n (l ∷ ls)
    by_place e later (inl lt) = stream_next n l ls lt e h.1 (later lt)
    by_place e later (inr ge) = let is : 19 ≡ n = omega arith in subst (λ k. Streams k (l ∷ ls)) is (stream_last l ls e h.1)

    by_test : (b : Bool) → is_initial l.columns ≡ b → (n < 19 → Streams (n + 1) ls) → Streams n (l ∷ ls)
    by_test true e later = stream_end n l ls e
    by_test false e later = by_place e later (cases_lt n 19)

-- ---- an initial line

spread_initial : (xs fs ps cs hs : List Broken) → least ((xs ++ fs) ++ ((ps ++ cs) ++ hs)) ≡ merge (merge (least xs) (least fs)) (merge (merge (least ps) (least cs)) (least hs))
spread_initial xs fs ps cs hs =
    least-append (xs ++ fs) ((ps ++ cs) ++ hs) ∙ ap (λ o. merge o (least ((ps ++ cs) ++ hs))) (least-append xs fs) ∙ ap (λ o. merge (merge (least xs) (least fs)) o) (least-append (ps ++ cs) hs ∙ ap (λ o. merge o (least hs)) (least-append ps cs))

merge_initial : (line : ℕ) (b f p c h : Option Broken) → AtLine line b → AtLine line c → NotBefore (line + 1) f → NotBefore (line + 1) p → NotBefore (line + 1) h → merge b c ≡ or_else b c → merge (merge b f) (merge (merge p c) h) ≡ or_else (or_else b c) (merge f (merge p h))
merge_initial line b f p c h at too i j k ranked =
    let swap : merge p c ≡ merge c p = merge_last line c p too j ∙ sym (merge_first line c p too j) in
    ap (λ o. merge (merge b f) o) (ap (λ o. merge o h) swap ∙ sym (merge-merge c p h)) ∙ merge_merge_first line b c f (merge p h) at too i (merge_not_before (line + 1) p h j k) ∙ ap (λ o. or_else o (merge f (merge p h))) ranked

abbrev text_breaks : StatementLine → List StatementLine → Option Broken
text_breaks l ls = least (broken_if (is_unpaired (text_of (record { initial = l; continued = continuations ls }))) l.line C6)

begun : (l : StatementLine) (ls : List StatementLine) → Ascends (l.line + 1) ls → is_initial l.columns ≡ true → least (broken_in (l ∷ ls)) ≡ or_else (or_else (line_breaks l) (text_breaks l ls)) (or_else (first_broken 0 (continuations ls)) (least (broken_in (behind ls))))
begun l ls h e =
    let from = beyond (l.line + 1) (l.line + 1) ls (omega arith) h in
    let ranked : merge (least (broken_in_line l)) (text_breaks l ls) ≡ or_else (least (broken_in_line l)) (text_breaks l ls) = rw (least_line l) (merge_rank_if _ _ _ (is_unpaired (text_of (record { initial = l; continued = continuations ls }))) l.line C6 (omega arith)) in
    rw (continues_not l ls e, groups_initial l ls e) (spread_initial (broken_in_line l) (flat_map broken_in_line ls) (broken_past (drop 19 (continuations ls))) (broken_if (is_unpaired (text_of (record { initial = l; continued = continuations ls }))) l.line C6) (flat_map broken_in_group (groups ls)) ∙ merge_initial l.line (least (broken_in_line l)) (lines_break ls) (past_breaks 0 ls) (text_breaks l ls) (groups_break ls) (line_at l) (if_at _ l.line C6) (lines_from (l.line + 1) ls from) (past_from (l.line + 1) 19 ls from) (groups_from (l.line + 1) ls from) ranked ∙ ap (λ o. or_else (or_else o (text_breaks l ls)) (merge (lines_break ls) (merge (past_breaks 0 ls) (groups_break ls)))) (least_line l) ∙ ap (λ o. or_else (or_else (line_breaks l) (text_breaks l ls)) o) (stream 0 (l.line + 1) ls (omega arith) h))

-- ---- what the statements are, or what is told

told : (ls : List StatementLine) (b : Broken) → least (broken_in ls) ≡ Some b → statements_in ls ≡ Err b
unfolding statements_in
told ls b e = rw e refl

pub tells_unprintable : (l : StatementLine) (ls : List StatementLine) → Ascends (l.line + 1) ls → list_all is_printable l.columns ≡ false → statements_in (l ∷ ls) ≡ Err (broken l.line C1)
tells_unprintable l ls h bad = by_test (is_initial l.columns) refl
  where
    by_test : (b : Bool) → is_initial l.columns ≡ b → statements_in (l ∷ ls) ≡ Err (broken l.line C1)
    by_test true e = told (l ∷ ls) (broken l.line C1) (begun l ls h e ∙ rw bad refl)
    by_test false e = told (l ∷ ls) (broken l.line C1) (alone l ls h e ∙ rw bad refl)

pub tells_alone : (l : StatementLine) (ls : List StatementLine) → Ascends (l.line + 1) ls → list_all is_printable l.columns ≡ true → is_initial l.columns ≡ false → statements_in (l ∷ ls) ≡ Err (broken l.line (cond (is_blank_field (label_field l.columns)) C4 C3))
tells_alone l ls h good e =
    told (l ∷ ls) _ (alone l ls h e ∙ rw (good, e) (by_test (is_blank_field (label_field l.columns))))
  where
    by_test : (b : Bool) → or_else (cond (not b) (Some (broken l.line C3)) None) (Some (broken l.line C4)) ≡ Some (broken l.line (cond b C4 C3))
    by_test true = refl
    by_test false = refl

pub tells_label : (l : StatementLine) (ls : List StatementLine) → Ascends (l.line + 1) ls → list_all is_printable l.columns ≡ true → is_initial l.columns ≡ true → is_label_field (label_field l.columns) ≡ false → statements_in (l ∷ ls) ≡ Err (broken l.line C2)
tells_label l ls h good e bad = told (l ∷ ls) (broken l.line C2) (begun l ls h e ∙ rw (good, e, bad) refl)

-- an initial line that breaks nothing by itself
good_initial : (l : StatementLine) → list_all is_printable l.columns ≡ true → is_initial l.columns ≡ true → is_label_field (label_field l.columns) ≡ true → line_breaks l ≡ None
good_initial l good e label = rw (good, e, label) refl

pub tells_apostrophes : (l : StatementLine) (ls : List StatementLine) → Ascends (l.line + 1) ls → list_all is_printable l.columns ≡ true → is_initial l.columns ≡ true → is_label_field (label_field l.columns) ≡ true
    → is_unpaired (text_of (record { initial = l; continued = continuations ls })) ≡ true → statements_in (l ∷ ls) ≡ Err (broken l.line C6)
tells_apostrophes l ls h good e label bad =
    told (l ∷ ls) (broken l.line C6) (begun l ls h e ∙ rw (good_initial l good e label, bad) refl)

-- an initial line and a text that break nothing
behind_good : (l : StatementLine) (ls : List StatementLine) → Ascends (l.line + 1) ls → list_all is_printable l.columns ≡ true → is_initial l.columns ≡ true → is_label_field (label_field l.columns) ≡ true
    → is_unpaired (text_of (record { initial = l; continued = continuations ls })) ≡ false → least (broken_in (l ∷ ls)) ≡ or_else (first_broken 0 (continuations ls)) (least (broken_in (behind ls)))
behind_good l ls h good e label even = begun l ls h e ∙ rw (good_initial l good e label, even) refl

pub tells_behind : (l : StatementLine) (ls : List StatementLine) (b : Broken) → Ascends (l.line + 1) ls → list_all is_printable l.columns ≡ true → is_initial l.columns ≡ true → is_label_field (label_field l.columns) ≡ true
    → is_unpaired (text_of (record { initial = l; continued = continuations ls })) ≡ false → first_broken 0 (continuations ls) ≡ Some b → statements_in (l ∷ ls) ≡ Err b
tells_behind l ls b h good e label even breaks =
    told (l ∷ ls) b (behind_good l ls h good e label even ∙ rw breaks refl)

unless_first : (o : Option Broken) (x : Entry) (xs : List Entry) → unless o (x ∷ xs) ≡ with_first (Ok x) (unless o xs)
unless_first None x xs = refl
unless_first (Some b) x xs = refl

pub reads_statement : (l : StatementLine) (ls : List StatementLine) → Ascends (l.line + 1) ls → list_all is_printable l.columns ≡ true → is_initial l.columns ≡ true → is_label_field (label_field l.columns) ≡ true
    → is_unpaired (text_of (record { initial = l; continued = continuations ls })) ≡ false → first_broken 0 (continuations ls) ≡ None → statements_in (l ∷ ls) ≡ with_first (Ok (entry_in (record { initial = l; continued = continuations ls }))) (statements_in (behind ls))
unfolding statements_in
reads_statement l ls h good e label even none =
    let rest : least (broken_in (l ∷ ls)) ≡ least (broken_in (behind ls)) = behind_good l ls h good e label even ∙ rw none refl in
    ap (λ o. unless o (map entry_in (groups (l ∷ ls)))) rest ∙ ap (λ gs. unless (least (broken_in (behind ls))) (map entry_in gs)) (groups_initial l ls e ∙ ap (λ gs. record { initial = l; continued = continuations ls } ∷ gs) (sym (groups_behind ls))) ∙ unless_first (least (broken_in (behind ls))) _ (map entry_in (groups (behind ls)))

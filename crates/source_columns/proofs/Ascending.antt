-- The lines of a source ascend, so that what lines break isn't before the first of them.
use Rattle.std.proofs.Common.{ℕ, zero, suc, ◌+◌, ◌≤◌, Bool, true, false, cond, List, [], ◌∷◌, map, drop, Some, arith}
use Rattle.std.specs.Prelude.{not}
use Rattle.std.specs.List.{flat_map}
use Rattle.std.proofs.lemmas.List.Sums.{take_while-cons}
use Rattle.meaning.specs.declared.refusal.Rule.TheVariants.{C6}
use Rattle.meaning.specs.Refusals.{least}
use Rattle.meaning.specs.Lines.{card, is_comment, is_initial, StatementLine, statement_lines}
use Rattle.meaning.specs.Statements.{groups, continuations, broken_in_line, broken_alone, broken_past, broken_in_group}
use Rattle.meaning.proofs.Least.{least-append}
use Rattle.source_columns.proofs.Order.{AtLine, NotBefore, at_not_before, merge_not_before, first_at, if_at, least_three}

-- each line behind the one before, from a number on
abbrev pub Ascends : ℕ → List StatementLine → Type 0
Ascends n [] = Unit {0}
Ascends n (l ∷ ls) = (n ≤ l.line) × Ascends (l.line + 1) ls

ascends_less : (n m : ℕ) (ls : List StatementLine) → n ≤ m → Ascends m ls → Ascends n ls
ascends_less n m [] le h = tt
ascends_less n m (l ∷ ls) le h = (omega arith, h.1)

pub ascends_all : (n : ℕ) (ls : List (List ℕ)) → Ascends n (statement_lines n ls)
unfolding statement_lines
ascends_all n [] = tt
ascends_all n (l ∷ ls) = by_class (is_comment (card l)) (ascends_all (n + 1) ls)
  where
    by_class : (b : Bool) → Ascends (n + 1) (statement_lines (n + 1) ls) → Ascends n (cond b (statement_lines (n + 1) ls) (record { line = n; columns = card l } ∷ statement_lines (n + 1) ls))
    by_class true h = ascends_less n (n + 1) (statement_lines (n + 1) ls) (omega arith) h
    by_class false h = (omega arith, h)

-- all lines from a number on
abbrev pub Beyond : ℕ → List StatementLine → Type 0
Beyond n [] = Unit {0}
Beyond n (l ∷ ls) = (n ≤ l.line) × Beyond n ls

pub beyond : (n m : ℕ) (ls : List StatementLine) → n ≤ m → Ascends m ls → Beyond n ls
beyond n m [] le h = tt
beyond n m (l ∷ ls) le h = (omega arith, beyond n (l.line + 1) ls (omega arith) h.1)

beyond_continuations : (n : ℕ) (ls : List StatementLine) → Beyond n ls → Beyond n (continuations ls)
beyond_continuations n [] h = tt
beyond_continuations n (l ∷ ls) h = rw take_while-cons (by_test (not (is_initial l.columns)) (beyond_continuations n ls h.1))
  where
    by_test : (b : Bool) → Beyond n (continuations ls) → Beyond n (cond b (l ∷ continuations ls) [])
    by_test true k = (h.0, k)
    by_test false k = tt

beyond_drop : (n k : ℕ) (ls : List StatementLine) → Beyond n ls → Beyond n (drop k ls)
beyond_drop n zero ls h = h
beyond_drop n (suc k) [] h = tt
beyond_drop n (suc k) (l ∷ ls) h = beyond_drop n k ls h.1

pub line_at : (l : StatementLine) → AtLine l.line (least (broken_in_line l))
line_at l = rw least_three (first_at _ _ _ l.line)

pub lines_from : (n : ℕ) (ls : List StatementLine) → Beyond n ls → NotBefore n (least (flat_map broken_in_line ls))
lines_from n [] h = tt
lines_from n (l ∷ ls) h =
    rw (least-append (broken_in_line l) (flat_map broken_in_line ls)) (merge_not_before n _ _ (at_not_before n l.line (least (broken_in_line l)) h.0 (line_at l)) (lines_from n ls h.1))

each_alone : (n : ℕ) (ls : List StatementLine) → Beyond n ls → NotBefore n (least (map broken_alone ls))
each_alone n [] h = tt
each_alone n (l ∷ ls) h = merge_not_before n (Some (broken_alone l)) (least (map broken_alone ls)) h.0 (each_alone n ls h.1)

pub alone_from : (n : ℕ) (ls : List StatementLine) → Beyond n ls → NotBefore n (least (map broken_alone (continuations ls)))
alone_from n ls h = each_alone n (continuations ls) (beyond_continuations n ls h)

first_past : (n : ℕ) (ls : List StatementLine) → Beyond n ls → NotBefore n (least (broken_past ls))
first_past n [] h = tt
first_past n (l ∷ ls) h = h.0

pub past_from : (n k : ℕ) (ls : List StatementLine) → Beyond n ls → NotBefore n (least (broken_past (drop k (continuations ls))))
past_from n k ls h = first_past n (drop k (continuations ls)) (beyond_drop n k (continuations ls) (beyond_continuations n ls h))

group_from : (n : ℕ) (l : StatementLine) (ls : List StatementLine) → n ≤ l.line → Beyond n ls → NotBefore n (least (broken_in_group (record { initial = l; continued = continuations ls })))
group_from n l ls le h =
    rw least-append (merge_not_before n _ _ (past_from n 19 ls h) (at_not_before n l.line _ le (if_at _ l.line C6)))

pub groups_from : (n : ℕ) (ls : List StatementLine) → Beyond n ls → NotBefore n (least (flat_map broken_in_group (groups ls)))
unfolding groups
groups_from n [] h = tt
groups_from n (l ∷ ls) h = by_test (is_initial l.columns) (groups_from n ls h.1)
  where
    by_test : (b : Bool) → NotBefore n (least (flat_map broken_in_group (groups ls))) → NotBefore n (least (flat_map broken_in_group (cond b (record { initial = l; continued = continuations ls } ∷ groups ls) (groups ls))))
    by_test true k = rw least-append (merge_not_before n _ _ (group_from n l ls h.0 h.1) k)
    by_test false k = k

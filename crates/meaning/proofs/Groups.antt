-- The lines of a source and their groups.
use Rattle.std.proofs.Common.{◌≡◌, Bool, true, false, cond, List, [], ◌∷◌, ◌++◌, refl, ap}
use Rattle.std.specs.Prelude.{not}
use Rattle.std.specs.List.{flat_map, list_all}
use Rattle.std.proofs.lemmas.List.Sums.{take_while-cons}
use Rattle.meaning.specs.Lines.{is_initial, StatementLine}
use Rattle.meaning.specs.Statements.{continuations, groups, lines_in, is_group, IsGrouped}

in_order : (ls : List StatementLine) → continuations ls ++ flat_map lines_in (groups ls) ≡ ls
unfolding groups
in_order [] = refl
in_order (l ∷ ls) = rw (take_while-cons (λ (k : StatementLine). not (is_initial k.columns)) l ls) (by_test (is_initial l.columns) (in_order ls))
  where
    by_test : (b : Bool) → continuations ls ++ flat_map lines_in (groups ls) ≡ ls → cond (not b) (l ∷ continuations ls) [] ++ flat_map lines_in (cond b (record { initial = l; continued = continuations ls } ∷ groups ls) (groups ls)) ≡ l ∷ ls
    by_test true h = ap (λ (ks : List StatementLine). l ∷ ks) h
    by_test false h = ap (λ (ks : List StatementLine). l ∷ ks) h

all_continue : (ls : List StatementLine) → list_all (λ l. not (is_initial l.columns)) (continuations ls) ≡ true
all_continue [] = refl
all_continue (l ∷ ls) = rw (take_while-cons (λ (k : StatementLine). not (is_initial k.columns)) l ls) (by_test (is_initial l.columns) refl (all_continue ls))
  where
    by_test : (b : Bool) → is_initial l.columns ≡ b → list_all (λ k. not (is_initial k.columns)) (continuations ls) ≡ true → list_all (λ k. not (is_initial k.columns)) (cond (not b) (l ∷ continuations ls) []) ≡ true
    by_test true e h = refl
    by_test false e h = rw e h

formed : (ls : List StatementLine) → list_all is_group (groups ls) ≡ true
unfolding groups
formed [] = refl
formed (l ∷ ls) = by_test (is_initial l.columns) refl (formed ls)
  where
    by_test : (b : Bool) → is_initial l.columns ≡ b → list_all is_group (groups ls) ≡ true → list_all is_group (cond b (record { initial = l; continued = continuations ls } ∷ groups ls) (groups ls)) ≡ true
    by_test true e h = rw (e, all_continue ls) h
    by_test false e h = h

pub grouped : (ls : List StatementLine) → IsGrouped ls
grouped ls = record { in_order = in_order ls; formed = formed ls }

-- Labels of statements, one statement more, and what transfers miss.
use Rattle.std.proofs.Common.{◌≡◌, ℕ, ◌+◌, ◌<◌, ◌≤◌, ◌^◌, Bool, true, false, ◌||◌, List, [], ◌∷◌, ◌++◌, length, get_or, take, map, append_assoc, refl, sym, ap, ap₂, ◌∙◌, arith}
use Rattle.std.specs.Prelude.{count_by, if◌then◌else◌}
use Rattle.std.specs.Borrow.{Bor}
use Rattle.std.specs.BTreeMap.{BTreeMap}
use Rattle.std.specs.Global.{Vec}
use Rattle.std.specs.BTreeSet.{BTreeSet, contains}
use Rattle.std.specs.Ordering.{nat_cmp}
use Rattle.std.specs.List.{list_any}
use Rattle.std.proofs.lemmas.List.{append-nil}
use Rattle.std.proofs.lemmas.List.Folds.{list_any-append}
use Rattle.meaning.specs.declared.syntax.Item.{Item}
use Rattle.meaning.specs.LabelRules.{breaks_transfers, has_label, is_label_at, not_executable, transfers_of}
use Rattle.meaning.specs.Scopes.{is_specification}
use Rattle.meaning.specs.Surroundings.{Around}
use Rattle.meaning.specs.Syntax.{ItemTree}
use Rattle.meaning.specs.Uses.{Symbols, is_defining}
use Rattle.statement_rules.specs.Counted.{count_in, one_more}
use Rattle.rule_passes.specs.Listed.{tree_at}
use Rattle.statement_rules.specs.Reached.{Counts, is_missed}
use Rattle.statement_rules.proofs.Counting.{count_append, count_step}
use Rattle.rule_passes.proofs.Membership.{or_false}
use Rattle.rule_passes.proofs.Passes.{trees_more}

-- ---- how often a label stands

count_last : (f : ItemTree → Bool) (xs : List ItemTree) (x : ItemTree) → one_more (f x) (count_by f xs) ≡ count_by f (xs ++ x ∷ [])
count_last f xs x =
    last (f x) (count_by f xs) ∙ ap (λ n. count_by f xs + n) (sym (count_step f x [])) ∙ sym (count_append f xs (x ∷ []))
  where
    last : (b : Bool) (n : ℕ) → one_more b n ≡ n + one_more b 0
    last true n = omega arith
    last false n = omega arith

pub counted_more : (s : ℕ) (ms : List (Bor Item)) (i : ℕ) (m : Bor Item) (old new : ℕ) → i < length ms → m ≡ get_or ms i m → old ≡ count_by (has_label s) (map tree_at (take i ms)) → new ≡ one_more (is_label_at m.now.label s) old → new ≡ count_by (has_label s) (map tree_at (take (i + 1) ms))
counted_more s ms i m old new lt is so_far added =
    added ∙ ap (one_more (is_label_at m.now.label s)) so_far ∙ count_last (has_label s) (map tree_at (take i ms)) (tree_at m)
    ∙ ap (count_by (has_label s)) (sym (trees_more ms i m lt is))

-- ---- the statements that aren't executable

abbrev pub is_closed : Symbols → List ItemTree → ItemTree → Bool
is_closed r before x = is_specification x.shape || is_defining r before x

closed_last : (r : Symbols) (before xs : List ItemTree) (x : ItemTree) → not_executable r before (xs ++ x ∷ []) ≡ not_executable r before xs ++ (if is_closed r (before ++ xs) x then x ∷ [] else [])
unfolding not_executable
closed_last r before [] x =
    append-nil (if is_closed r before x then x ∷ [] else []) ∙ ap (λ b. if is_closed r b x then x ∷ [] else []) (sym (append-nil before))
closed_last r before (y ∷ ys) x =
    let here = if is_closed r before y then y ∷ [] else [] in
    ap (λ zs. here ++ zs) (closed_last r (before ++ y ∷ []) ys x)
    ∙ sym (append_assoc here (not_executable r (before ++ y ∷ []) ys) (if is_closed r ((before ++ y ∷ []) ++ ys) x then x ∷ [] else []))
    ∙ ap (λ b. (here ++ not_executable r (before ++ y ∷ []) ys) ++ (if is_closed r b x then x ∷ [] else [])) (append_assoc before (y ∷ []) ys)

-- the statements of a list that aren't executable
abbrev pub closed_in : Symbols → List (Bor Item) → List ItemTree
closed_in r ms = not_executable r [] (map tree_at ms)

closed_none : (r : Symbols) → not_executable r [] [] ≡ []
unfolding not_executable
closed_none r = refl

pub closed_first : (r : Symbols) (closed : BTreeSet ℕ) (s : ℕ) → closed.keys ≡ [] → contains nat_cmp closed s ≡ list_any (has_label s) (not_executable r [] [])
closed_first r closed s empty = simp (empty, closed_none r)

pub closed_more : (r : Symbols) (s : ℕ) (ms : List (Bor Item)) (i : ℕ) (m : Bor Item) (old new test : Bool) → i < length ms → m ≡ get_or ms i m → old ≡ list_any (has_label s) (closed_in r (take i ms)) → test ≡ is_closed r (map tree_at (take i ms)) (tree_at m) → new ≡ (if test then (old || is_label_at m.now.label s) else old) → new ≡ list_any (has_label s) (closed_in r (take (i + 1) ms))
closed_more r s ms i m old new test lt is so_far told added =
    let front = map tree_at (take i ms) in
    let has = has_label s in
    added ∙ ap₂ (λ t o. if t then (o || is_label_at m.now.label s) else o) told so_far
    ∙ by_test (is_closed r front (tree_at m)) (list_any has (not_executable r [] front))
    ∙ sym (list_any-append has (not_executable r [] front) (if is_closed r front (tree_at m) then tree_at m ∷ [] else []))
    ∙ ap (list_any has) (sym (closed_last r [] front (tree_at m)) ∙ ap (not_executable r []) (sym (trees_more ms i m lt is)))
  where
    by_test : (b o : Bool) → (if b then (o || is_label_at m.now.label s) else o) ≡ (o || list_any (has_label s) (if b then tree_at m ∷ [] else []))
    by_test true o = ap (λ x. o || x) (sym (or_false (is_label_at m.now.label s)))
    by_test false o = sym (or_false o)

-- ---- what transfers miss

abbrev pub misses_by : (ℕ → ℕ) → (ℕ → Bool) → Around → ItemTree → Bool
misses_by counts closed a x = list_any (is_missed counts closed a.items) (transfers_of x.shape)

pub misses_is : (r : Symbols) (all : List ItemTree) (counts : ℕ → ℕ) (closed : ℕ → Bool) → ((s : ℕ) → counts s ≡ count_by (has_label s) all) → ((s : ℕ) → closed s ≡ list_any (has_label s) (not_executable r [] all)) → misses_by counts closed ≡ breaks_transfers r all
misses_is r all counts closed counted told =
    let same_counts : counts ≡ (λ s. count_by (has_label s) all) = λ i s. counted s i in
    let same_closed : closed ≡ (λ s. list_any (has_label s) (not_executable r [] all)) = λ i s. told s i in
    ap₂ misses_by same_counts same_closed

-- the labels of one list, where none was counted before
pub counts_alone : (old new : ℕ → ℕ) (own : List ItemTree) → ((s : ℕ) → old s ≡ 0) → ((s : ℕ) → new s ≡ count_by (has_label s) own + old s) → ((s : ℕ) → 2 ^ 32 ≤ s → count_by (has_label s) own ≡ 0) → Counts new own
counts_alone old new own none counted few = record {
  exact = λ s. let a = counted s in let b = none s in omega arith;
  small = few;
}

pub none_counted : (counts : BTreeMap ℕ (Vec ℕ)) (s : ℕ) → counts.entries ≡ [] → count_in counts s ≡ 0
none_counted counts s empty = simp empty

-- Searches, one step on.
use Rattle.std.proofs.Common.{◌≡◌, ℕ, ◌+◌, ◌<◌, ◌≤◌, Bool, true, false, ◌||◌, ◌&&◌, List, [], ◌∷◌, ◌++◌, length, get_or, take, drop, map, cond, append_assoc, refl, sym, ap, ap₂, ◌∙◌, Option, Some, None, Result, Ok, Err}
use Rattle.std.specs.Prelude.{if◌then◌else◌, is_some, count_by}
use Rattle.std.specs.Borrow.{Bor}
use Rattle.std.specs.List.{find, list_any}
use Rattle.std.specs.Option.{option_or}
use Rattle.std.specs.Result.{OnOk}
use Rattle.std.proofs.lemmas.List.{drop_all}
use Rattle.std.proofs.lemmas.List.Folds.{find-append}
use Rattle.meaning.specs.declared.syntax.Item.{Item}
use Rattle.meaning.specs.LabelRules.{has_label, not_executable}
use Rattle.meaning.specs.Scopes.{is_specification}
use Rattle.meaning.specs.Syntax.{ItemTree}
use Rattle.meaning.specs.Uses.{Symbols, is_defining}
use Rattle.symbols.specs.Listed.{tree_at, trees_at}
use Rattle.symbols.proofs.Passes.{map_left, map_more}
use Rattle.statement_rules.specs.Counted.{one_more}
use Rattle.statement_rules.proofs.Labelled.{counted_more}
use Rattle.list_culprits.specs.Told.{Told}
use Rattle.list_culprits.specs.Transfers.{first_told}
use Rattle.finding.proofs.Found.{found_is_some}

-- texts behind others
pub ok_appended : {T E : Type 0} (r : Result T E) (new between old label text kind : List ℕ) → OnOk r (new ≡ between ++ text) → between ≡ old ++ label → text ≡ kind → OnOk r (new ≡ old ++ (label ++ kind))
ok_appended (Ok x) new between old label text kind last first is =
    last ∙ ap₂ ◌++◌ first is ∙ append_assoc old label kind
ok_appended (Err e) new between old label text kind last first is = last

-- ---- names

pub variables_more : (test : List ℕ → Bool) (n : List ℕ) (ys zs : List (List ℕ)) (o : Option (List ℕ)) → false ≡ test n → o ≡ option_or (find test ys) (find test zs) → o ≡ find test (n ∷ (ys ++ zs))
variables_more test n ys zs o fails is =
    is ∙ sym (find-append test ys zs) ∙ ap (λ b. cond b (Some n) (find test (ys ++ zs))) fails

pub some_any : {X : Type 0} (test : X → Bool) (xs : List X) (o : Option X) → o ≡ find test xs → is_some o ≡ list_any test xs
some_any test xs o is = ap is_some is ∙ found_is_some test xs

pub implied_more : (b : Bool) (n : List ℕ) (o p r : Option (List ℕ)) → false ≡ b → r ≡ option_or o p → r ≡ (if b then Some n else option_or o p)
implied_more b n o p r fails is = is ∙ ap (λ c. if c then Some n else option_or o p) fails

pub implied_here : (b : Bool) (n : List ℕ) (o : Option (List ℕ)) → true ≡ b → Some n ≡ (if b then Some n else o)
implied_here b n o holds = ap (λ c. if c then Some n else o) holds

-- ---- labels

pub count_more : (s : ℕ) (ms : List (Bor Item)) (i : ℕ) (m : Bor Item) (b : Bool) (old : ℕ) → i < length ms → m ≡ get_or ms i m → b ≡ has_label s (tree_at m) → old ≡ count_by (has_label s) (trees_at (take i ms)) → one_more b old ≡ count_by (has_label s) (trees_at (take (i + 1) ms))
count_more s ms i m b old lt is test so_far =
    counted_more s ms i m old (one_more b old) lt is so_far (ap (λ c. one_more c old) test)

abbrev pub is_closed : Symbols → List ItemTree → ItemTree → Bool
is_closed r before x = is_specification x.shape || is_defining r before x

pub closed_first : (r : Symbols) (s : ℕ) (ms : List (Bor Item)) (i : ℕ) (m : Bor Item) (b : Bool) → i < length ms → m ≡ get_or ms i m → b ≡ (is_closed r (trees_at (take i ms)) (tree_at m) && has_label s (tree_at m)) → find (has_label s) (not_executable r (trees_at (take i ms)) (trees_at (drop i ms))) ≡ (if b then Some (tree_at m) else find (has_label s) (not_executable r (trees_at (take (i + 1) ms)) (trees_at (drop (i + 1) ms))))
unfolding not_executable
closed_first r s ms i m b lt is test =
    let before = trees_at (take i ms) in
    let x = tree_at m in
    let rest = trees_at (drop (i + 1) ms) in
    ap (λ ys. find (has_label s) (not_executable r before ys)) (map_left tree_at ms i m lt is)
    ∙ by_tests (is_closed r before x) (has_label s x) refl (not_executable r (before ++ x ∷ []) rest)
    ∙ ap (λ c. if c then Some x else find (has_label s) (not_executable r (before ++ x ∷ []) rest)) (sym test)
    ∙ ap (λ ys. if b then Some x else find (has_label s) (not_executable r ys rest)) (sym (map_more tree_at ms i m lt is))
  where
    by_tests : (c h : Bool) → has_label s (tree_at m) ≡ h → (zs : List ItemTree) → find (has_label s) ((if c then tree_at m ∷ [] else []) ++ zs) ≡ (if c && h then Some (tree_at m) else find (has_label s) zs)
    by_tests true h at zs = ap (λ d. cond d (Some (tree_at m)) (find (has_label s) zs)) at
    by_tests false h at zs = refl

-- there is none behind all of them
pub closed_last : (r : Symbols) (s : ℕ) (before : List ItemTree) (ms : List (Bor Item)) (i : ℕ) → length ms ≤ i → find (has_label s) (not_executable r before (trees_at (drop i ms))) ≡ None
unfolding not_executable
closed_last r s before ms i le =
    ap (λ ys. find (has_label s) (not_executable r before (trees_at ys))) (drop_all i ms le)

pub told_first : {X Y : Type 0} (f : Y → Option Told) (g : X → Y) (xs : List X) (i : ℕ) (x : X) (o : Option Told) → i < length xs → x ≡ get_or xs i x → o ≡ f (g x) → first_told f (map g (drop i xs)) ≡ option_or o (first_told f (map g (drop (i + 1) xs)))
told_first f g xs i x o lt is here =
    ap (first_told f) (map_left g xs i x lt is) ∙ ap (λ p. option_or p (first_told f (map g (drop (i + 1) xs)))) (sym here)

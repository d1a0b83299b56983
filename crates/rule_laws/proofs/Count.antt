-- There are fewer than 2^31 cells.
use Rattle.std.proofs.Common.{◌≡◌, ◌≤◌, ◌<◌, ◌^◌, ℕ, suc, ◌+◌, ◌*◌, Bool, true, false, cond, List, [], ◌∷◌, ◌++◌, length, length-append, map, Option, Some, None, Ok, arith}
use Rattle.std.specs.Prelude.{if◌then◌else◌, sum_by}
use Rattle.std.specs.List.{AllByRecursion, filter, list_any}
use Rattle.std.specs.Str.{bytes_eq}
use Rattle.std.proofs.lemmas.List.Sums.{sum_by-cons}
use Rattle.meaning.specs.Arrays.{Dimension, cells_of, size}
use Rattle.meaning.specs.Rules.{checked}
use Rattle.meaning.specs.Scopes.{arrays_of, declarators_in}
use Rattle.meaning.specs.Syntax.{ItemTree}
use Rattle.meaning.specs.Trees.{Nested, flatten}
use Rattle.meaning.specs.Uses.{Symbols, is_array, is_defining, is_other, parts_of, symbols_of, uses_at}
use Rattle.meaning.specs.Values.{Arrays, dimensions_in}
use Rattle.name_maps.specs.NameSets.{with_name, with_names}
use Rattle.storage.specs.Numbered.{appearing_by, is_variable, named, named_of, names_at, names_from, variables_of, with_those}
use Rattle.rule_laws.specs.Read.{IsRead}
use Rattle.rule_laws.specs.Units.{Ascend, lines_in, unit_of}
use Rattle.rule_laws.proofs.Few.{declared_few, reads_few, what_is_set_few}
use Rattle.rule_laws.proofs.Lines.{unit_ascends}
use Rattle.rule_laws.proofs.Read.{unit_read}
use Rattle.rule_laws.proofs.Sizes.{mapped_length}
use Rattle.rule_laws.proofs.Total.{AreDistinct, distinct_names, elements_if, few_in_all}
use Rattle.rule_laws.proofs.Unbroken.{all_lawful}

-- ---- how many statements

ascend_few : (least greatest : ℕ) (ns : List ℕ) → least ≤ suc greatest → Ascend least greatest ns → least + length ns ≤ suc greatest
ascend_few least greatest [] le h = omega (arith, le)
ascend_few least greatest (n ∷ ns) le h =
    let low = h.0 in
    let high = h.1 in
    let rest = ascend_few (suc n) greatest ns (omega (arith, high)) h.2 in
    omega (arith, low, rest)

few_statements : (source : List ℕ) (t : Nested) → unit_of source ≡ Ok t → length (flatten t) ≤ 65535
few_statements source t is =
    let most = ascend_few 1 65535 (lines_in t) (omega arith) (unit_ascends source t is) in
    let same = mapped_length (λ (x : ItemTree). x.line) (flatten t) in
    omega (arith, most, same)

-- ---- how many names

names_few : (r : Symbols) (before : List ItemTree) (x : ItemTree) → IsRead x.shape → length (names_at r before x) ≤ 3960
names_few r before x read =
    let p = parts_of r (is_defining r before x) x.shape in
    let a = declared_few x.shape read.well in
    let b = what_is_set_few r (is_defining r before x) x.shape read.well in
    let c = reads_few r (is_defining r before x) x.shape read.well in
    let short = read.short in
    let k = mapped_length (λ d. d.name) (declarators_in x.shape) in
    let l = mapped_length (λ u. u.name) (uses_at r before x) in
    let m = length-append p.sets p.reads in
    let n = length-append (map (λ d. d.name) (declarators_in x.shape)) (map (λ u. u.name) (uses_at r before x)) in
    omega (arith, a, b, c, short, k, l, m, n)

all_names_few : (r : Symbols) (before xs : List ItemTree) → AllByRecursion (λ x. IsRead x.shape) xs → length (names_from r before xs) ≤ 3960 * length xs
unfolding names_from
all_names_few r before [] h = omega arith
all_names_few r before (x ∷ xs) h =
    let one = names_few r before x h.0 in
    let rest = all_names_few r (before ++ x ∷ []) xs h.1 in
    let whole = length-append (names_at r before x) (names_from r (before ++ x ∷ []) xs) in
    omega (arith, one, rest, whole)

filtered_few : (test : List ℕ → Bool) (ns : List (List ℕ)) → length (filter test ns) ≤ length ns
filtered_few test [] = omega arith
filtered_few test (n ∷ ns) = by (test n) (filtered_few test ns)
  where
    by : (b : Bool) → length (filter test ns) ≤ length ns → length (cond b (n ∷ filter test ns) (filter test ns)) ≤ length (n ∷ ns)
    by true k = omega (arith, k)
    by false k = omega (arith, k)

set_few : (names more : List (List ℕ)) → length (with_names names more) ≤ length names + length more
set_few names [] = omega arith
set_few names (n ∷ more) =
    let rest = set_few (with_name names n) more in let one = by (list_any (bytes_eq n) names) in omega (arith, rest, one)
  where
    by : (b : Bool) → length (if b then names else names ++ n ∷ []) ≤ length names + 1
    by true = omega arith
    by false = let whole = length-append names (n ∷ []) in omega (arith, whole)

those_few : (test : List ℕ → Bool) (names more : List (List ℕ)) → length (with_those test names more) ≤ length names + length more
those_few test names more =
    let a = set_few names (filter test more) in let b = filtered_few test more in omega (arith, a, b)

variables_few : (all : List ItemTree) → length (variables_of all) ≤ 2 * length (names_from (symbols_of all) [] all)
variables_few all =
    let r = symbols_of all in
    let a = those_few (is_variable r) [] (names_from r [] all) in
    let b = those_few (is_other r) [] (appearing_by r all) in
    let c = those_few (is_array r) (with_those (is_other r) [] (appearing_by r all)) (appearing_by r all) in
    omega (arith, a, b, c)

variables_distinct : (all : List ItemTree) → AreDistinct (variables_of all)
variables_distinct all =
    let r = symbols_of all in
    distinct_names (with_those (is_other r) [] (appearing_by r all)) (filter (is_array r) (appearing_by r all)) (distinct_names [] (filter (is_other r) (appearing_by r all)) tt)

-- ---- how many cells

one_or_more : (o : Option (List Dimension)) → size (dimensions_in o) ≤ 1 + elements_if o
one_or_more None = omega arith
one_or_more (Some ds) = omega arith

cells_few : (arrays : Arrays) (names : List (List ℕ)) → cells_of (named arrays names) ≤ length names + sum_by (λ n. elements_if (arrays n)) names
cells_few arrays [] = omega arith
cells_few arrays (n ∷ names) =
    let one = one_or_more (arrays n) in
    let rest = cells_few arrays names in
    let whole = sum_by-cons (λ k. elements_if (arrays k)) n names in
    omega (arith, one, rest, whole)

pub few_cells : (source : List ℕ) (t : Nested) → unit_of source ≡ Ok t → checked t ≡ Ok t → cells_of (named_of (flatten t)) < 2 ^ 31
few_cells source t is accepted =
    let all = flatten t in
    let statements = few_statements source t is in
    let names = all_names_few (symbols_of all) [] all (unit_read source t is) in
    let variables = variables_few all in
    let elements = few_in_all all (all_lawful t accepted) (variables_of all) (variables_distinct all) in
    let cells = cells_few (arrays_of all) (variables_of all) in
    omega (arith, statements, names, variables, elements, cells)

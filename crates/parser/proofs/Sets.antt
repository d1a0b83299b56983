-- Lists with their constants up to the end of a DATA statement: the loop that reads them.
use Rattle.std.proofs.Common.{◌≡◌, ℕ, suc, ◌+◌, ◌-◌, ◌<◌, List, [], ◌∷◌, ◌++◌, length, map, Option, Some, None, refl, sym, ap, ◌∙◌, append_assoc, arith}
use Rattle.std.specs.Prelude.{option_map}
use Rattle.std.proofs.lemmas.List.{append-nil}
use Rattle.meaning.specs.Syntax.{DataSetTree, data_set_tree}
use Rattle.meaning.specs.declared.syntax.DataSet.{DataSet}
use Rattle.meaning.specs.Reading.{Text, ◌>>=◌, data_set_at, data_sets_of}
use Rattle.parser.specs.declared.read_error.ReadError.{ReadError}
use Rattle.parser.specs.declared.read_error.ReadError.TheVariants.{NoReading, Memory}
use Rattle.parser.specs.Reports.{Misses}

-- so many at most behind others
abbrev pub others_of : List DataSetTree → ℕ → Text → Option (List DataSetTree)
others_of xs n t = option_map (λ ys. xs ++ ys) (data_sets_of n t)

-- no turn is left
pub no_turn : (xs : List DataSetTree) (n i : ℕ) (t : Text) (total : Option (List DataSetTree)) → others_of xs (n - i) t ≡ total → n - i ≡ 0 → total ≡ None
unfolding data_sets_of
no_turn xs n i t total so_far ended =
    let none : others_of xs (n - i) t ≡ None = rw ended refl in
    sym so_far ∙ none

-- nothing is left
pub all_read : (xs : List DataSetTree) (n i : ℕ) (t : Text) (total : Option (List DataSetTree)) → others_of xs (n - i) t ≡ total → i < n → length t ≡ 0 → total ≡ Some xs
unfolding data_sets_of
all_read xs n i [] total so_far lt ended =
    let turns : n - i ≡ suc (n - (i + 1)) = omega arith in
    let value : others_of xs (n - i) [] ≡ Some xs = rw turns (ap Some (append-nil xs)) in
    sym so_far ∙ value
all_read xs n i (c ∷ t) total so_far lt ended = absurd (omega arith)

one_missed : (xs : List DataSetTree) (n : ℕ) (t : Text) → 0 < length t → data_set_at t ≡ None → others_of xs (suc n) t ≡ None
unfolding data_sets_of ◌>>=◌
one_missed xs n [] some missed = absurd (omega arith)
one_missed xs n (c ∷ t) some missed = rw missed refl

pub missed : (e : ReadError) (xs : List DataSetTree) (n i : ℕ) (t : Text) (total : Option (List DataSetTree)) → others_of xs (n - i) t ≡ total → i < n → 0 < length t → Misses e (data_set_at t) → Misses e total
missed NoReading xs n i t total so_far lt some none =
    let turns : n - i ≡ suc (n - (i + 1)) = omega arith in
    let nothing : others_of xs (n - i) t ≡ None = rw turns (one_missed xs (n - (i + 1)) t some none) in
    sym so_far ∙ nothing
missed Memory xs n i t total so_far lt some none = tt

regrouped : (xs : List DataSetTree) (x : DataSetTree) (o : Option (List DataSetTree)) → option_map (λ ys. xs ++ ys) (o >>= λ ys. Some (x ∷ ys)) ≡ option_map (λ ys. (xs ++ (x ∷ [])) ++ ys) o
unfolding ◌>>=◌
regrouped xs x None = refl
regrouped xs x (Some ys) = ap Some (sym (append_assoc xs (x ∷ []) ys))

one_read : (n : ℕ) (t : Text) (x : DataSetTree × Text) → 0 < length t → data_set_at t ≡ Some x → data_sets_of (suc n) t ≡ (data_sets_of n x.1 >>= λ ys. Some (x.0 ∷ ys))
unfolding data_sets_of ◌>>=◌
one_read n [] x some read = absurd (omega arith)
one_read n (c ∷ t) x some read = rw read refl

pushed_on : (xs : List DataSet) (x : DataSet) → map data_set_tree (xs ++ (x ∷ [])) ≡ map data_set_tree xs ++ (data_set_tree x ∷ [])
pushed_on [] x = refl
pushed_on (w ∷ ws) x = ap (λ zs. data_set_tree w ∷ zs) (pushed_on ws x)

-- one that others may follow
pub next_one : (xs ys : List DataSet) (x : DataSet) (n i : ℕ) (t u : Text) (total : Option (List DataSetTree)) → ys ≡ xs ++ (x ∷ []) → others_of (map data_set_tree xs) (n - i) t ≡ total → i < n → 0 < length t
    → data_set_at t ≡ Some (data_set_tree x, u) → others_of (map data_set_tree ys) (n - (i + 1)) u ≡ total
next_one xs ys x n i t u total pushed so_far lt some read =
    let turns : n - i ≡ suc (n - (i + 1)) = omega arith in
    let front = map data_set_tree xs in
    let one : others_of front (n - i) t ≡ others_of (front ++ (data_set_tree x ∷ [])) (n - (i + 1)) u =
    rw turns (ap (option_map (λ ys. front ++ ys)) (one_read (n - (i + 1)) t (data_set_tree x, u) some read) ∙ regrouped front (data_set_tree x) (data_sets_of (n - (i + 1)) u)) in
    rw (pushed, pushed_on xs x) (sym one ∙ so_far)

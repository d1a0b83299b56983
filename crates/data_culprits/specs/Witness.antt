-- What is told is a witness: by it a DATA statement breaks the rule on them behind others.
use Rattle.std.specs.Prelude.{◌≡◌, ℕ, false, List, [], ◌∷◌, Some, None, IsTrue, ◌⊎◌}
use Rattle.meaning.specs.Arrays.{Dimension}
use Rattle.meaning.specs.Initial.{has_bad_data, is_counter, known_trips, repeated, sets_at}
use Rattle.meaning.specs.Initial.{value_targets, value_type}
use Rattle.meaning.specs.NumberRules.{known_behind_all}
use Rattle.meaning.specs.Syntax.{DataSetTree, DataValueTree, ExprTree, element, ItemTree}
use Rattle.meaning.specs.Syntax.{LimitsTree, ListItemsTree, no_items, more_items, value_item}
use Rattle.meaning.specs.Syntax.{loop_item}
use Rattle.meaning.specs.Types.{Types}
use Rattle.meaning.specs.Typing.{clash}
use Rattle.meaning.specs.Uses.{Symbols}
use Rattle.meaning.specs.Values.{Known}
use Rattle.type_culprits.specs.Words.{word_in}
use Rattle.data_rules.specs.DataPlaces.{place_known}
use Rattle.finding.specs.Answers.{IsAnswer}
use Rattle.data_culprits.specs.Faults.{limits_fault, subscripts_fault}
use Rattle.data_culprits.specs.Sets.{bad_in}
use Rattle.data_culprits.specs.Told.{Told, no_item, no_counter, mistyped, unserved, given_again}
use Rattle.data_culprits.specs.Told.{left_over}
use Rattle.data_culprits.specs.Values.{value_fault}

-- ---- by what it is broken

-- the next value is of another type than this name's, or there is none, or a place of this name has
-- a value
abbrev pub IsNextBy : Types → List ℕ → Told → Type 0
IsNextBy types n (mistyped m v) = (n ≡ m) × IsTrue (clash (types m) (value_type v))
IsNextBy types n (unserved m) = n ≡ m
IsNextBy types n (given_again m) = n ≡ m
IsNextBy types n k = ⊥

-- whatever is known, the item stands for nothing
abbrev pub IsNoItemBy : Symbols → ExprTree → Told → Type 0
IsNoItemBy r e k = (no_item (word_in e) ≡ k) × ((known : Known) → value_targets r known e ≡ None)

-- it is an element whose subscripts lead to none
abbrev pub IsElementBy : Symbols → ExprTree → Told → Type 0
IsElementBy r (element n es) k =
    (known : Known) × (ds : List Dimension) × (r.names.arrays n ≡ Some ds)
    × (place_known r.names.types known ds es ≡ None)
    × (subscripts_fault r.names.types known n ds es ≡ k)
IsElementBy r e k = ⊥

abbrev pub IsValueBy : Symbols → ExprTree → Told → Type 0
IsValueBy r e k =
    IsNextBy r.names.types (word_in e) k ⊎ (IsNoItemBy r e k ⊎ IsElementBy r e k)

-- the variable of an implied DO is none, or has no trips
abbrev pub IsLoopBy : Symbols → List ℕ → LimitsTree → Told → Type 0
IsLoopBy r n l k =
    ((no_counter n ≡ k) × (is_counter r n ≡ false))
    ⊎ ((known : Known) × (known_trips r.names.types known l ≡ None)
    × (limits_fault r.names.types known n l ≡ k))

-- an item of a list, also in an implied DO
abbrev pub IsListBy : Symbols → ListItemsTree → Told → Type 0
IsListBy r no_items k = ⊥
IsListBy r (more_items (value_item e) xs) k = IsValueBy r e k ⊎ IsListBy r xs k
IsListBy r (more_items (loop_item ys n l) xs) k =
    (IsLoopBy r n l k ⊎ IsListBy r ys k) ⊎ IsListBy r xs k

-- a constant or a repeat count that has no value
abbrev pub IsConstantBy : Known → List DataValueTree → Told → Type 0
IsConstantBy known [] k = ⊥
IsConstantBy known (v ∷ vs) k =
    ((value_fault known v ≡ Some k) × (repeated known v ≡ None)) ⊎ IsConstantBy known vs k

-- a set of the statement
abbrev pub IsSetBy : Symbols → Known → DataSetTree → Told → Type 0
IsSetBy r known x k =
    IsConstantBy known x.values k ⊎ (IsListBy r x.list k ⊎ (left_over ≡ k))

abbrev pub IsSetsBy : Symbols → Known → List DataSetTree → Told → Type 0
IsSetsBy r known [] k = ⊥
IsSetsBy r known (x ∷ xs) k = IsSetBy r known x k ⊎ IsSetsBy r known xs k

abbrev pub IsBy : Symbols → List ItemTree → ItemTree → Told → Type 0
IsBy r before x k = IsSetsBy r (known_behind_all r before) (sets_at r before x) k

abbrev pub TellsWitnesses : Type 0
TellsWitnesses =
    (r : Symbols) (before : List ItemTree) (x : ItemTree) →
    IsAnswer (IsBy r before x) (has_bad_data r before x) (bad_in r before x)

-- The values of an output list (ANSI X3.9-1978, 12.8.2): of expressions, of the elements of whole
-- arrays, and of implied DOs, whose variables they set. A list has 65,536 items at most (own): a
-- value is one, and so is an implied DO each time that it is reached.
use Rattle.std.specs.Prelude.{ℕ, zero, suc, ◌-◌, ℤ, ◌+ℤ◌, nat_lt, length, List, [], ◌∷◌, ◌++◌}
use Rattle.std.specs.Prelude.{if◌then◌else◌, Option, Some, None, Result, Ok, Err}
use Rattle.meaning.specs.declared.ending.FaultKind.{FaultKind}
use Rattle.meaning.specs.declared.ending.FaultKind.TheVariants.{F8}
use Rattle.meaning.specs.declared.ending.Value.{Value}
use Rattle.meaning.specs.Syntax.{ExprTree, name, ListItemsTree, no_items, more_items, value_item}
use Rattle.meaning.specs.Syntax.{loop_item}
use Rattle.meaning.specs.Arrays.{Dimension, elements}
use Rattle.meaning.specs.Maps.{Map, put}
use Rattle.meaning.specs.Values.{Scope, value, typed, integer, as_integer, and_then, ◌>>=◌}
use Rattle.meaning.specs.Trips.{Span, span_of, trips}

-- the values so far, the map behind them, and how many items may follow
pub record Listing : Type 0 where
  pub values : List Value
  pub map : Map
  pub left : ℕ

-- a fault, and the map that it leaves: what was changed before it stays (10.1)
pub record Faulted : Type 0 where
  pub kind : FaultKind
  pub map : Map

abbrev pub Listed : Type 0
Listed = Result Listing Faulted

abbrev pub faulted : FaultKind → Map → Listed
faulted k m = Err (record { kind = k; map = m })

-- goes on with a value, or faults
unfoldable pub with_value : {A : Type 0} → Result A FaultKind → Map → (A → Listed) → Listed
with_value (Ok x) m go = go x
with_value (Err k) m go = faulted k m

-- values, and then others
unfoldable pub behind : List Value → Listed → Listed
behind vs (Ok l) = Ok (record { values = vs ++ l.values; map = l.map; left = l.left })
behind vs (Err f) = Err f

unfoldable pub followed : Listed → (Map → ℕ → Listed) → Listed
followed (Ok l) go = behind l.values (go l.map l.left)
followed (Err f) go = Err f

-- one item, if one may follow
abbrev pub one_item : ℕ → Map → (ℕ → Listed) → Listed
one_item zero m go = faulted F8 m
one_item (suc n) m go = go n

-- the elements of an array in their order
unfoldable pub element_values : Scope → List ℕ → List (List ℤ) → Map → Result (List Value) FaultKind
unfolding and_then
element_values s n [] m = Ok []
element_values s n (ss ∷ sss) m = typed (s.types n) (m n ss) >>= λ v. element_values s n sss m >>=
    λ vs. Ok (v ∷ vs)

abbrev pub whole_array : Scope → List ℕ → List Dimension → Map → ℕ → Listed
whole_array s n ds m left =
    if nat_lt left (length (elements ds)) then faulted F8 m
    else with_value (element_values s n (elements ds) m)
    m (λ vs. Ok (record { values = vs; map = m; left = left - length (elements ds) }))

abbrev pub one_value : Scope → ExprTree → Map → ℕ → Listed
one_value s e m left =
    one_item left
    m (λ n. with_value (value s e m)
    m (λ v. Ok (record { values = v ∷ []; map = m; left = n })))

abbrev pub named_value : Scope → List ℕ → Option (List Dimension) → Map → ℕ → Listed
named_value s n (Some ds) m left = whole_array s n ds m left
named_value s n None m left = one_value s (name n) m left

abbrev pub item_value : Scope → ExprTree → Map → ℕ → Listed
item_value s (name n) m left = named_value s n (s.arrays n) m left
item_value s e m left = one_value s e m left

-- the addition to the variable of an implied DO behind each trip
abbrev pub stepped : List ℕ → ℤ → Map → (Map → Listed) → Listed
stepped n by m go = with_value (integer (m n [] +ℤ by)) m (λ v. go (put m n [] (as_integer v)))

-- the items once for each trip
unfoldable pub trips_listed : (Map → ℕ → Listed) → List ℕ → ℤ → List ℤ → Map → ℕ → Listed
trips_listed items n by [] m left = Ok (record { values = []; map = m; left = left })
trips_listed items n by (i ∷ is) m left =
    followed (items m left) (λ k rest. stepped n by k (λ j. trips_listed items n by is j rest))

abbrev pub loop_listed : (Map → ℕ → Listed) → List ℕ → Map → ℕ → Span → Listed
loop_listed items n m left s =
    trips_listed items n s.step (trips s.first s.last s.step) (put m n [] s.first) left

-- the values of items, first to last
unfoldable pub listed : Scope → ListItemsTree → Map → ℕ → Listed
listed s no_items m left = Ok (record { values = []; map = m; left = left })
listed s (more_items (value_item e) xs) m left = followed (item_value s e m left) (listed s xs)
listed s (more_items (loop_item ys variable limits) xs) m left =
    followed (one_item left
    m (λ n. with_value (span_of s limits m)
    m (λ span. loop_listed (listed s ys) variable m n span))) (listed s xs)

-- how many items a list has at most (own)
abbrev pub list_limit : ℕ
list_limit = 65536

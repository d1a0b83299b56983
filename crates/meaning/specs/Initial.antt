-- DATA statements: the variables and elements that they give values, and the rule K10 (ANSI
-- X3.9-1978, chapter 9).
use Rattle.std.specs.Prelude.{ℕ, suc, ℤ, pos, Bool, true, false, ◌&&◌, ◌||◌, List, [], ◌∷◌, ◌++◌}
use Rattle.std.specs.Prelude.{map, flat_map, is_some, is_none, min, replicate, if◌then◌else◌}
use Rattle.std.specs.Prelude.{Option, Some, None}
use Rattle.std.specs.List.{list_any, fold}
use Rattle.std.specs.Ordering.{int_eq}
use Rattle.std.specs.Str.{bytes_eq}
use Rattle.std.specs.Cmp.Lexicographic.{pointwise}
use Rattle.meaning.specs.declared.ending.Value.{Value}
use Rattle.meaning.specs.declared.ending.Value.TheVariants as values
use Rattle.meaning.specs.declared.syntax.Sign.{Sign}
use Rattle.meaning.specs.Characters.{number_of}
use Rattle.meaning.specs.Syntax.{ExprTree, name, element, ExprsTree, no_exprs, exprs, LimitsTree}
use Rattle.meaning.specs.Syntax.{ListItemsTree, no_items, more_items, value_item, loop_item}
use Rattle.meaning.specs.Syntax.{DataConstantTree, data_number, data_truth, data_name, RepeatTree}
use Rattle.meaning.specs.Syntax.{repeat_number, repeat_name, DataValueTree, DataSetTree, ShapeTree}
use Rattle.meaning.specs.Syntax.{initializing, ItemTree}
use Rattle.meaning.specs.Arrays.{Dimension, above, elements}
use Rattle.meaning.specs.Types.{Types}
use Rattle.meaning.specs.Values.{Known, as_integer, with_sign}
use Rattle.meaning.specs.Scopes.{constant_value}
use Rattle.meaning.specs.Typing.{clash, integer_type, logical_type, SomeType}
use Rattle.meaning.specs.Uses.{Use, Symbols, data_value_uses, is_constant, is_one_of, is_other}
use Rattle.meaning.specs.Uses.{limit_uses, uses_in}
use Rattle.meaning.specs.NumberRules.{is_no_constant, known_behind_all, sizeless_in}
use Rattle.meaning.specs.Trips.{trips}
use Rattle.meaning.specs.Maps.{Map, start, put}

-- ---- options

abbrev pub and_also : {A B : Type 0} → Option A → (A → Option B) → Option B
and_also None f = None
and_also (Some x) f = f x

abbrev pub both_lists : {A : Type 0} → Option (List A) → Option (List A) → Option (List A)
both_lists (Some xs) (Some ys) = Some (xs ++ ys)
both_lists (Some xs) None = None
both_lists None o = None

abbrev pub all_lists : {A : Type 0} → List (Option (List A)) → Option (List A)
all_lists [] = Some []
all_lists (o ∷ os) = both_lists o (all_lists os)

-- ---- what the items of a list stand for

-- a variable or an element
pub record Target : Type 0 where
  pub name : List ℕ
  pub subscripts : List ℤ

abbrev pub target : List ℕ → List ℤ → Target
target n ss = record { name = n; subscripts = ss }

-- the value of an expression of constants and of the variables of the implied DOs around it
abbrev pub known_value : Types → Known → ExprTree → Option ℤ
known_value types known e =
    if is_no_constant types known e then None
    else and_also (constant_value types known e) (λ v. Some (as_integer v))

-- subscripts within their bounds, as many as there are dimensions
abbrev pub subscript_in : Dimension → Option ℤ → Option ℤ
subscript_in d o = and_also o (λ s. if is_some (above d s) then Some s else None)

abbrev pub known_subscripts : Types → Known → List Dimension → ExprsTree → Option (List ℤ)
known_subscripts types known [] no_exprs = Some []
known_subscripts types known [] (exprs e es) = None
known_subscripts types known (d ∷ ds) no_exprs = None
known_subscripts types known (d ∷ ds) (exprs e es) =
    and_also (subscript_in d (known_value types known e)) (λ s. and_also
    (known_subscripts types known ds es) (λ ss. Some (s ∷ ss)))

abbrev pub element_target : Types → Known → Option (List Dimension) → List ℕ → ExprsTree →
    Option (List Target)
element_target types known None n es = None
element_target types known (Some ds) n es =
    and_also (known_subscripts types known ds es) (λ ss. Some (target n ss ∷ []))

-- a whole array, a variable, and nothing else
abbrev pub whole_target : Option (List Dimension) → Bool → List ℕ → Option (List Target)
whole_target (Some ds) other n = Some (map (target n) (elements ds))
whole_target None true n = Some (target n [] ∷ [])
whole_target None false n = None

abbrev pub value_targets : Symbols → Known → ExprTree → Option (List Target)
value_targets r known (name n) = whole_target (r.names.arrays n) (is_other r n) n
value_targets r known (element n es) = element_target r.names.types known (r.names.arrays n) n es
value_targets r known e = None

-- the values of the variable of an implied DO, of which there is one at least; the step is not 0
abbrev pub some_trips : List ℤ → Option (List ℤ)
some_trips [] = None
some_trips (i ∷ is) = Some (i ∷ is)

abbrev pub trips_if : ℤ → ℤ → ℤ → Option (List ℤ)
trips_if first last step = if int_eq step (pos 0) then None else some_trips (trips first last step)

abbrev pub step_of : Types → Known → Option ExprTree → Option ℤ
step_of types known None = Some (pos 1)
step_of types known (Some e) = known_value types known e

abbrev pub known_trips : Types → Known → LimitsTree → Option (List ℤ)
known_trips types known l =
    and_also (known_value types known l.first) (λ a. and_also
    (known_value types known l.last) (λ b. and_also
    (step_of types known l.step) (λ c. trips_if a b c)))

abbrev pub with_value : List ℕ → ℤ → Known → Known
with_value n i known = λ x. if bytes_eq x n then Some (values.Int i) else known x

-- the variable of an implied DO is an INTEGER name with no other role
abbrev pub is_counter : Symbols → List ℕ → Bool
is_counter r n = is_other r n && clash logical_type (r.names.types n)

unfoldable pub targets_in : Symbols → ListItemsTree → Known → Option (List Target)
targets_in r no_items known = Some []
targets_in r (more_items (value_item e) xs) known =
    both_lists (value_targets r known e) (targets_in r xs known)
targets_in r (more_items (loop_item ys variable limits) xs) known =
    both_lists
    (if is_counter r variable
    then and_also
    (known_trips r.names.types known limits) (λ is. all_lists
    (map (λ i. targets_in r ys (with_value variable i known)) is)) else None)
    (targets_in r xs known)

-- ---- values

abbrev pub sign_value : Option Sign → ℤ → ℤ
sign_value None z = z
sign_value (Some s) z = with_sign s z

-- a number above 2147483647, which K6 refuses at the same line, counts as 2147483647 here (own)
abbrev pub number_given : List ℕ → ℤ
number_given digits = pos (min (number_of digits) 2147483647)

abbrev pub data_value : Known → DataConstantTree → Option Value
data_value known (data_number sign digits) =
    Some (values.Int (sign_value sign (number_given digits)))
data_value known (data_truth b) = Some (values.Bool b)
data_value known (data_name n) = known n

-- a repeat count is an INTEGER and 1 at least
abbrev pub count_if : Option Value → Option ℕ
count_if (Some (values.Int (pos (suc n)))) = Some (suc n)
count_if v = None

abbrev pub repeat_value : Known → Option RepeatTree → Option ℕ
repeat_value known None = Some 1
repeat_value known (Some (repeat_number digits)) =
    count_if (Some (values.Int (number_given digits)))
repeat_value known (Some (repeat_name n)) = count_if (known n)

abbrev pub repeated : Known → DataValueTree → Option (List Value)
repeated known v =
    and_also (repeat_value known v.repeat_count) (λ k. and_also
    (data_value known v.constant) (λ x. Some (replicate k x)))

abbrev pub data_values : Known → List DataValueTree → Option (List Value)
data_values known vs = all_lists (map (repeated known) vs)

-- ---- sets

-- a variable or an element with the value that it starts with
pub record Start : Type 0 where
  pub target : Target
  pub value : Value

abbrev pub value_type : Value → SomeType
value_type (values.Int z) = integer_type
value_type (values.Bool b) = logical_type

-- as many values as targets, each of the type of its name
abbrev pub paired : Symbols → List Target → List Value → Option (List Start)
paired r [] [] = Some []
paired r [] (v ∷ vs) = None
paired r (t ∷ ts) [] = None
paired r (t ∷ ts) (v ∷ vs) =
    if clash (r.names.types t.name) (value_type v) then None
    else both_lists (Some (record { target = t; value = v } ∷ [])) (paired r ts vs)

abbrev pub set_starts : Symbols → Known → DataSetTree → Option (List Start)
set_starts r known s =
    and_also (targets_in r s.list known) (λ ts. and_also
    (data_values known s.values) (λ vs. paired r ts vs))

abbrev pub sets_of : ShapeTree → List DataSetTree
sets_of (initializing sets) = sets
sets_of s = []

-- the uses of names in the lists and among the values of DATA statements
abbrev pub list_uses : ListItemsTree → List Use
list_uses no_items = []
list_uses (more_items (value_item e) xs) = uses_in e ++ list_uses xs
list_uses (more_items (loop_item ys variable limits) xs) =
    list_uses ys ++ (limit_uses limits ++ list_uses xs)

abbrev pub set_uses : DataSetTree → List Use
set_uses s = list_uses s.list ++ flat_map data_value_uses s.values

-- a constant without a value, or an array without a bound's, breaks another rule where it is
-- defined
abbrev pub lacks_value : Symbols → Known → List (List ℕ) → Use → Bool
lacks_value r known sizeless u =
    (is_constant r u.name && is_none (known u.name)) || is_one_of sizeless u.name

-- a DATA statement with one gives nothing, and breaks nothing (own)
abbrev pub sets_by : Symbols → Known → List (List ℕ) → List DataSetTree → List DataSetTree
sets_by r known sizeless sets =
    if list_any (lacks_value r known sizeless) (flat_map set_uses sets) then [] else sets

abbrev pub sets_at : Symbols → List ItemTree → ItemTree → List DataSetTree
sets_at r before x =
    sets_by r (known_behind_all r before) (sizeless_in r [] before) (sets_of x.shape)

abbrev pub starts_at : Symbols → List ItemTree → ItemTree → Option (List Start)
starts_at r before x =
    all_lists (map (set_starts r (known_behind_all r before)) (sets_at r before x))

abbrev pub starts_or_none : Option (List Start) → List Start
starts_or_none None = []
starts_or_none (Some ss) = ss

unfoldable pub starts_from : Symbols → List ItemTree → List ItemTree → List Start
starts_from r before [] = []
starts_from r before (x ∷ xs) =
    starts_or_none (starts_at r before x) ++ starts_from r (before ++ x ∷ []) xs

-- ---- K10

abbrev pub same_target : Target → Target → Bool
same_target t u = bytes_eq t.name u.name && pointwise int_eq t.subscripts u.subscripts

abbrev pub given_twice : List Start → List Start → Bool
given_twice earlier [] = false
given_twice earlier (s ∷ ss) =
    list_any (λ e. same_target e.target s.target) earlier || given_twice (s ∷ earlier) ss

abbrev pub has_bad_data : Symbols → List ItemTree → ItemTree → Bool
has_bad_data r before x =
    is_none (starts_at r before x)
    || given_twice (starts_from r [] before) (starts_or_none (starts_at r before x))

-- ---- the map at the start (chapter 9, 17): what DATA statements give, and 0 and .FALSE. elsewhere
-- (own)
abbrev pub start_of : Symbols → List ItemTree → Map
start_of r all =
    fold (λ m s. put m s.target.name s.target.subscripts (as_integer s.value)) start
    (starts_from r [] all)

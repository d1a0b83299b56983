-- What DATA statements give, one variable or element after another (ANSI X3.9-1978, 9.1).
use Rattle.std.specs.Prelude.{ℕ, Bool, true, false, ◌&&◌, ◌||◌, ◌==◌, List, [], ◌∷◌, is_some}
use Rattle.std.specs.Prelude.{if◌then◌else◌, Option, Some, None}
use Rattle.std.specs.Str.{bytes_eq}
use Rattle.meaning.specs.declared.ending.Value.{Value}
use Rattle.meaning.specs.Arrays.{place}
use Rattle.meaning.specs.Types.{Types}
use Rattle.meaning.specs.Typing.{Names, clash}
use Rattle.meaning.specs.Values.{dimensions_in}
use Rattle.meaning.specs.Initial.{Target, and_also, value_type}
use Rattle.data_rules.specs.declared.filling.Way.{Way}
use Rattle.data_rules.specs.declared.filling.Way.TheVariants as ways

-- what the places of names were given, by their elements' order; a variable has the place 0 alone
abbrev pub Found : Type 0
Found = List ℕ → ℕ → Option Value

abbrev pub with_found : List ℕ → ℕ → Value → Found → Found
with_found name i v found = λ n k. if bytes_eq n name && (i == k) then Some v else found n k

-- whether a value is refused to a place that has one, or has none; whether a value is kept; and the
-- way for the next ones
abbrev pub stops : Way → Bool → Bool
stops ways.Once has_one = has_one
stops (ways.Again twice) has_one = false
stops ways.Dry has_one = false

abbrev pub keeps : Way → Bool
keeps ways.Once = true
keeps (ways.Again twice) = true
keeps ways.Dry = false

abbrev pub way_behind : Way → Bool → Way
way_behind ways.Once has_one = ways.Once
way_behind (ways.Again twice) has_one = ways.Again (twice || has_one)
way_behind ways.Dry has_one = ways.Dry

abbrev pub found_by : Way → List ℕ → ℕ → Value → Found → Found
found_by w name i v found = if keeps w then with_found name i v found else found

-- what was given so far, the values that are left, one of which may be none, and the way in which
-- they are given
pub record Stage : Type 0 where
  pub given : Found
  pub values : List (Option Value)
  pub way : Way

abbrev pub first_of : List (Option Value) → Option Value
first_of [] = None
first_of (o ∷ os) = o

abbrev pub behind_first : List (Option Value) → List (Option Value)
behind_first [] = []
behind_first (o ∷ os) = os

abbrev pub is_empty_list : List (Option Value) → Bool
is_empty_list [] = true
is_empty_list (o ∷ os) = false

-- the next value for a place
abbrev pub with_given : List ℕ → ℕ → Value → Stage → Stage
with_given n i v s = record {
  given = found_by s.way n i v s.given;
  values = behind_first s.values;
  way = way_behind s.way (is_some (s.given n i));
}

abbrev pub give_value : Types → List ℕ → ℕ → Stage → Option Value → Option Stage
give_value types n i s None = None
give_value types n i s (Some v) =
    if clash (types n) (value_type v) || stops s.way (is_some (s.given n i)) then None
    else Some (with_given n i v s)

abbrev pub give : Types → List ℕ → ℕ → Stage → Option Stage
give types n i s = give_value types n i s (first_of s.values)

-- one place after another
abbrev pub give_places : Types → List ℕ → List ℕ → Stage → Option Stage
give_places types n [] s = Some s
give_places types n (i ∷ is) s = and_also (give types n i s) (give_places types n is)

abbrev pub give_target : Names → Target → Stage → Option Stage
give_target ns t s =
    and_also (place (dimensions_in (ns.arrays t.name)) t.subscripts) (λ i. give ns.types t.name i s)

abbrev pub give_all : Names → List Target → Stage → Option Stage
give_all ns [] s = Some s
give_all ns (t ∷ ts) s = and_also (give_target ns t s) (give_all ns ts)

-- the values for the targets of a list, if it has some
abbrev pub filled : Names → Option (List Target) → Stage → Option Stage
filled ns o s = and_also o (λ ts. give_all ns ts s)

-- What the places of one name are given, one after another.
use Rattle.std.specs.Prelude.{◌≡◌, ◌+◌, ◌^◌, ◌≤◌, ◌⊎◌, ℕ, ◌||◌, ◌==◌, List, [], ◌∷◌, is_some}
use Rattle.std.specs.Prelude.{if◌then◌else◌, Bool, Option, Some, None}
use Rattle.std.specs.Global.{Vec}
use Rattle.std.specs.List.{range_with_len}
use Rattle.expressions.specs.Places.{capped}
use Rattle.meaning.specs.declared.ending.Value.{Value}
use Rattle.meaning.specs.Typing.{SomeType, clash}
use Rattle.meaning.specs.Initial.{and_also, value_type}
use Rattle.data_rules.specs.declared.data_values.Values.{Values}
use Rattle.data_rules.specs.DataRuns.{values_left}
use Rattle.data_rules.specs.declared.filling.Way.{Way}
use Rattle.data_rules.specs.DataStages.{behind_first, first_of, keeps, stops, way_behind}
use Rattle.data_rules.specs.Filled.{Comes}
use Rattle.data_rules.specs.Slots.{slot_at}

abbrev pub with_slot : ℕ → Value → (ℕ → Option Value) → ℕ → Option Value
with_slot i v given = λ k. if i == k then Some v else given k

abbrev pub slot_by : Way → ℕ → Value → (ℕ → Option Value) → ℕ → Option Value
slot_by w i v given = if keeps w then with_slot i v given else given

-- what the places of the name were given, the values that are left, and the way in which they are
-- given
pub record Slots : Type 0 where
  pub given : ℕ → Option Value
  pub values : List (Option Value)
  pub way : Way

abbrev pub with_next : ℕ → Value → Slots → Slots
with_next i v s = record {
  given = slot_by s.way i v s.given;
  values = behind_first s.values;
  way = way_behind s.way (is_some (s.given i));
}

abbrev pub give_next : SomeType → ℕ → Slots → Option Value → Option Slots
give_next type i s None = None
give_next type i s (Some v) =
    if clash type (value_type v) || stops s.way (is_some (s.given i)) then None
    else Some (with_next i v s)

abbrev pub give_slot : SomeType → ℕ → Slots → Option Slots
give_slot type i s = give_next type i s (first_of s.values)

abbrev pub give_slots : SomeType → List ℕ → Slots → Option Slots
give_slots type [] s = Some s
give_slots type (i ∷ is) s = and_also (give_slot type i s) (give_slots type is)

-- as they are kept
abbrev pub slots_at : Vec (Option Value) → Values → Way → Slots
slots_at slots values way = record {
  given = slot_at slots.items;
  values = values_left values;
  way = way;
}

abbrev pub GivesSlot : SomeType → ℕ → Slots → Slots → Bool → Type 0
GivesSlot type i old new = Comes (give_slot type i old) new

abbrev pub GivesSlots : SomeType → ℕ → ℕ → Slots → Slots → Bool → Type 0
GivesSlots type first count old new = Comes (give_slots type (range_with_len first count) old) new

-- a place that is counted to 2^64-1 stands for the first of so many, where these are fewer, or one
-- at most
abbrev pub StandsFor : ℕ → ℕ → ℕ → Type 0
StandsFor first count i = (first ≡ capped i) × ((i + count ≤ 2 ^ 64) ⊎ (count ≤ 1))

-- What is filled by DATA statements so far.
use Rattle.std.specs.Prelude.{◌≡◌, ℕ, Bool, List, if◌then◌else◌, Option, Some, None}
use Rattle.std.specs.List.{range_with_len}
use Rattle.symbols.specs.declared.names.Symbols.{Symbols}
use Rattle.symbols.specs.SymbolsAt.{symbols_at}
use Rattle.data_rules.specs.declared.data_values.Values.{Values}
use Rattle.data_rules.specs.declared.filling.Filling.{Filling}
use Rattle.data_rules.specs.DataRuns.{values_left}
use Rattle.data_rules.specs.DataStages.{Stage, give_places}
use Rattle.data_rules.specs.Slots.{given_in}

abbrev pub stage_at : Filling → Values → Stage
stage_at f v = record { given = given_in f.given; values = values_left v; way = f.way }

-- what comes of something is this, or nothing
abbrev pub Comes : {A : Type 0} → Option A → A → Bool → Type 0
Comes o s b = o ≡ (if b then Some s else None)

-- so many places of a name, from this one on, are given values
abbrev pub GivesPlaces : Symbols → List ℕ → ℕ → ℕ → Stage → Stage → Bool → Type 0
GivesPlaces r name first count old new =
    Comes (give_places (symbols_at r).names.types name (range_with_len first count) old) new

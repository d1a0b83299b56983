-- What to do about a loop of whose stages little was committed (own).
use Rattle.std.specs.Prelude.{ℕ, ◌-◌, ◌*◌, ◌&&◌, Bool, true, false, List, [], ◌∷◌, ◌++◌, Option}
use Rattle.std.specs.Prelude.{Some, None, codes, nat_le, nat_lt, if◌then◌else◌}
use Rattle.meaning.specs.Arrays.{Named}
use Rattle.cell_names.specs.Told.{Told, told_at}
use Rattle.loop_reports.specs.declared.counts.Counts.{Counts}
use Rattle.loop_reports.specs.declared.row.Carried.{Carried}
use Rattle.loop_reports.specs.BlockTrips.{capped}
use Rattle.loop_reports.specs.Cells.{cell_text}

-- stages were cut at a dependence as often as not
abbrev pub is_carried : Counts → Bool
is_carried c = nat_le (c.stages - c.by_dependence) c.by_dependence

-- the loop was left, and more turns were in vain than not
abbrev pub is_left_early : Counts → Bool
is_left_early c = nat_lt 0 c.by_exit && nat_lt c.turns (c.spent - c.turns)

-- a block has fewer turns than a thread costs
abbrev pub are_light : Counts → Bool
are_light c = nat_lt c.spent (capped (c.run * 2048))

abbrev pub no_subscripts : {A : Type 0} → List A → Bool
no_subscripts [] = true
no_subscripts (x ∷ xs) = false

abbrev pub is_variable : Option Told → Bool
is_variable None = false
is_variable (Some t) = no_subscripts t.subscripts

abbrev pub carried_text : Bool → List ℕ
carried_text true = codes " is carried from trip to trip: take one for each section of the trips, or --workers 1\n"
carried_text false = codes " is written in one trip and read in a later one: try another loop of the nest, or --workers 1\n"

abbrev pub carried_line : List Named → ℕ → List ℕ
carried_line names cell =
    codes "    ADVICE " ++ cell_text (told_at names cell) cell
    ++ carried_text (is_variable (told_at names cell))

abbrev pub other_advice : Counts → List ℕ
other_advice c =
    if is_left_early c then codes "    ADVICE the loop is left early: the trips behind were in vain, fewer of them with a smaller --window\n"
    else (if are_light c then codes "    ADVICE blocks have too few turns for a thread: take a larger --block, or leave --speculate out\n"
    else [])

-- of a loop at whose stages this cell was cut most often, if one was
abbrev pub advice_line : List Named → Counts → Option (ℕ × Carried) → List ℕ
advice_line names c None = other_advice c
advice_line names c (Some (cell, x)) =
    if is_carried c then carried_line names cell else other_advice c

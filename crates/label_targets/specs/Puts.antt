-- What tables of labels and of lines have once more is put into them.
use Rattle.std.specs.Prelude.{◌≡◌, ◌==◌, ℕ, Bool, ◌||◌, List, if◌then◌else◌, Option, Some, None}
use Rattle.std.specs.Prelude.{slice_get}
use Rattle.std.specs.BTreeSet.{BTreeSet, contains}
use Rattle.std.specs.Option.{option_or}
use Rattle.std.specs.Ordering.{nat_cmp}
use Rattle.meaning.specs.declared.syntax.Member.{Member}
use Rattle.meaning.specs.LabelRules.{is_label_at}
use Rattle.meaning.specs.Trees.{none, member_before}
use Rattle.label_targets.specs.Output.{has_output}
use Rattle.label_targets.specs.Places.{place_from}

-- what stands for no place: no list is so long
abbrev pub nowhere : ℕ
nowhere = 18446744073709551615

abbrev pub told : Option ℕ → Option ℕ
told None = None
told (Some place) = if place == nowhere then None else Some place

-- where a table says that a label leads
abbrev pub place_at : List ℕ → ℕ → Option ℕ
place_at places s = told (slice_get places s)

-- a table has what it had, and else these
abbrev pub Puts : (ℕ → Option ℕ) → List ℕ → List ℕ → Type 0
Puts more old new = (s : ℕ) → place_at new s ≡ option_or (place_at old s) (more s)

-- where the label of a statement leads
abbrev pub place_if : Option ℕ → ℕ → ℕ → Option ℕ
place_if label i s = if is_label_at label s then Some i else None

-- where the labels of a member lead
abbrev pub member_places : Member → ℕ → ℕ → Option ℕ
member_places x i s = place_from s i (member_before x none)

-- a set has its lines and these
abbrev pub PutsLines : (ℕ → Bool) → BTreeSet ℕ → BTreeSet ℕ → Type 0
PutsLines more old new =
    (line : ℕ) → contains nat_cmp new line ≡ (contains nat_cmp old line || more line)

abbrev pub member_loud : Member → ℕ → Bool
member_loud x line = has_output line (member_before x none)

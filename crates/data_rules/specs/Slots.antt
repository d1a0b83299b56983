-- The values that places were given, as they are kept by names.
use Rattle.std.specs.Prelude.{ℕ, List, slice_get, unwrap_or, Option, Some, None}
use Rattle.std.specs.Global.{Vec}
use Rattle.indexmap.specs.IndexMap.{IndexMap}
use Rattle.meaning.specs.declared.ending.Value.{Value}
use Rattle.name_maps.specs.Keeping.{kept_at}
use Rattle.data_rules.specs.DataStages.{Found}

-- that of a place, which has none behind the last one that is kept
abbrev pub slot_at : List (Option Value) → ℕ → Option Value
slot_at slots i = unwrap_or (slice_get slots i) None

abbrev pub slot_if : Option (Vec (Option Value)) → ℕ → Option Value
slot_if None i = None
slot_if (Some slots) i = slot_at slots.items i

abbrev pub given_in : {S : Type 0} → IndexMap (Vec ℕ) (Vec (Option Value)) S → Found
given_in given = λ n i. slot_if (kept_at given n) i

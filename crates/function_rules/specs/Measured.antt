-- What is kept of statement functions that stand before others: how deep they call, and how large
-- their expressions become.
use Rattle.std.specs.Prelude.{ℕ, min, Bool, List, is_some, if◌then◌else◌, Option, option_map}
use Rattle.std.specs.Prelude.{unwrap_or}
use Rattle.std.specs.Global.{Vec}
use Rattle.indexmap.specs.IndexMap.{IndexMap}
use Rattle.meaning.specs.Uses.{Use}
use Rattle.name_maps.specs.Keeping.{kept_at}
use Rattle.function_rules.specs.declared.measures.Measure.{Measure}

-- the greatest number stands for each greater one
abbrev pub capped : ℕ → ℕ
capped n = min n 4294967295

abbrev pub Kept : Type 0 → Type 0
Kept S = IndexMap (Vec ℕ) Measure S

abbrev pub is_kept : {S : Type 0} → Kept S → List ℕ → Bool
is_kept m n = is_some (kept_at m n)

abbrev pub level_at : {S : Type 0} → Kept S → List ℕ → ℕ
level_at m n = unwrap_or (option_map (λ x. x.level) (kept_at m n)) 0

abbrev pub nodes_at : {S : Type 0} → Kept S → List ℕ → Option ℕ
nodes_at m n = option_map (λ x. x.nodes) (kept_at m n)

-- how deep a name calls, where it has parentheses
abbrev pub level_used : (List ℕ → ℕ) → Use → ℕ
level_used level u = if is_some u.arguments then level u.name else 0

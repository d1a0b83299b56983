use Rattle.std.proofs.Common.{◌≡◌, ℕ, List, map, option_map, take}
use Rattle.symbols.specs.Functions.{definition_at, definition_named}
use Rattle.name_maps.specs.Keeping.{kept_at}
use Rattle.symbols.proofs.functions.functions_by_name.Given as goal

abbrev pub invariant-loop-function : goal.invariant-loop-function
invariant-loop-function l =
    (n : List ℕ) → option_map definition_at (kept_at l.kept n) ≡ definition_named (map definition_at (take l.function-index l.functions)) n

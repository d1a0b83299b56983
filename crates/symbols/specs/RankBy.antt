-- Arrays with how many dimensions they have.
use Rattle.std.specs.Prelude.{ℕ, List, [], ◌∷◌, flat_map, length, Option, Some, None, if◌then◌else◌}
use Rattle.std.specs.Option.{option_or}
use Rattle.meaning.specs.Syntax.{DeclaratorTree, ItemTree}
use Rattle.meaning.specs.Scopes.{gives_bounds, declarators_in}

-- how many dimensions a declarator gives a name
abbrev pub rank_in : DeclaratorTree → List ℕ → Option ℕ
rank_in d n = if gives_bounds n d then Some (length d.bounds) else None

-- how many the first gives that gives any
abbrev pub rank_by : List DeclaratorTree → List ℕ → Option ℕ
rank_by [] n = None
rank_by (d ∷ ds) n = option_or (rank_in d n) (rank_by ds n)

abbrev pub declarators_of : List ItemTree → List DeclaratorTree
declarators_of all = flat_map (λ x. declarators_in x.shape) all

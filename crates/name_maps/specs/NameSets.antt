-- Sets of names, in the order in which the names came.
use Rattle.std.specs.Prelude.{if◌then◌else◌, ℕ, List, [], ◌∷◌, ◌++◌, map, fold}
use Rattle.std.specs.Global.{Vec}
use Rattle.std.specs.Str.{bytes_eq}
use Rattle.std.specs.List.{list_any}

-- the texts of the keys of a set
abbrev pub texts : List (Vec ℕ) → List (List ℕ)
texts keys = map (λ k. k.items) keys

-- a name behind those that are there, unless it is one of them
abbrev pub with_name : List (List ℕ) → List ℕ → List (List ℕ)
with_name names n = if list_any (bytes_eq n) names then names else names ++ n ∷ []

-- names behind those that are there, in the order of their first appearance
abbrev pub with_names : List (List ℕ) → List (List ℕ) → List (List ℕ)
with_names names more = fold with_name names more

-- What is kept by names.
use Rattle.std.specs.Prelude.{ℕ, List, Option}
use Rattle.std.specs.Global.{Vec}
use Rattle.std.specs.Str.{bytes_eq}
use Rattle.indexmap.specs.IndexMap.{IndexMap, get_by}

-- what is kept under a name
abbrev pub kept_at : {V S : Type 0} → IndexMap (Vec ℕ) V S → List ℕ → Option V
kept_at m n = get_by (λ k. bytes_eq n k.items) m

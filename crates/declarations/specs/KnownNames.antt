-- Constants by their names, as far as one has come.
use Rattle.std.specs.Prelude.{ℕ, List, if◌then◌else◌, Option, Some, None}
use Rattle.std.specs.Global.{Vec}
use Rattle.std.specs.Str.{bytes_eq}
use Rattle.indexmap.specs.IndexMap.{IndexMap}
use Rattle.meaning.specs.declared.ending.Value.{Value}
use Rattle.meaning.specs.Values.{Known}
use Rattle.name_maps.specs.Keeping.{kept_at}

-- the value that is kept under a name, if there is one
abbrev pub value_kept : Option (Option Value) → Option Value
value_kept None = None
value_kept (Some o) = o

abbrev pub known_in : {S : Type 0} → IndexMap (Vec ℕ) (Option Value) S → Known
known_in m = λ n. value_kept (kept_at m n)

-- a name with its value, or with none, in front of those that are known
abbrev pub with_name : List ℕ → Option Value → Known → Known
with_name name o known = λ n. if bytes_eq n name then o else known n

-- The name of a file in messages.
use Rattle.std.specs.Prelude.{ℕ, List, Option, Some, None, codes, if◌then◌else◌}
use Rattle.std.specs.Borrow.{Bor}
use Rattle.std.specs.Str.{bytes_eq}

-- none, and a minus sign, is standard input
abbrev pub file_named : Option (Bor (List ℕ)) → List ℕ
file_named None = codes "<stdin>"
file_named (Some file) = if bytes_eq file.now (codes "-") then codes "<stdin>" else file.now

-- The values that the cells of a program unit start with.
use Rattle.std.proofs.Common.{◌≡◌, ℕ, ℤ, List, ap, ◌∙◌}
use mathlib.Core.Path.{fun_ext}
use Rattle.meaning.specs.declared.syntax.Tree.{Tree}
use Rattle.storage.specs.Starts.{map_of, start_in}

-- cells that are what the program starts with stand for the start
pub start_is : (t : Tree) (values cells : List ℤ) → cells ≡ values → ((n : List ℕ) (ss : List ℤ) → map_of t values n ss ≡ start_in t n ss) → map_of t cells ≡ start_in t
start_is t values cells same started = ap (map_of t) same ∙ fun_ext (λ n. fun_ext (λ ss. started n ss))

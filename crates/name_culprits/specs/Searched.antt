-- What names are sought in, and what is told of them.
use Rattle.std.specs.Prelude.{ℕ, Bool, List, Option}
use Rattle.std.specs.Option.{option_or}
use Rattle.meaning.specs.NameRules.{given_by}
use Rattle.meaning.specs.Syntax.{ItemTree, ShapeTree}
use Rattle.meaning.specs.Uses.{Symbols, is_one_of}
use Rattle.name_uses.specs.UsesIn.{uses_in}
use Rattle.symbols.specs.Listed.{trees_at}
use Rattle.symbols.specs.SymbolsAt.{symbols_at}
use Rattle.name_culprits.specs.declared.culprit.Giving.{Giving}
use Rattle.name_culprits.specs.declared.names.Search.{Search}
use Rattle.name_culprits.specs.Names.{given_before, given_in, rival_in, seen_told, used_in}
use Rattle.name_culprits.specs.Told.{Told}

abbrev pub symbols_in : Search → Symbols
symbols_in s = symbols_at s.symbols.now

abbrev pub before_at : Search → List ItemTree
before_at s = trees_at s.before.now

-- a name that a statement before gives something, or the statement itself once before
abbrev pub again_one : Search → Giving → List (List ℕ) → List ℕ → Option Told
again_one s k seen n =
    option_or (given_before (symbols_in s) k (before_at s) n)
    (seen_told k s.line (is_one_of seen n) n)

abbrev pub given_at : Search → Bool → ShapeTree → Option Told
given_at s defines x =
    given_in (symbols_in s) (before_at s) s.line (given_by (symbols_in s) defines x)

-- all of it, of a statement that defines a statement function or doesn't
abbrev pub disputed_at : Search → Bool → ShapeTree → Option Told
disputed_at s defines x =
    option_or (given_at s defines x)
    (option_or (used_in (symbols_in s) (uses_in (symbols_in s) defines x) x)
    (rival_in (before_at s) x))

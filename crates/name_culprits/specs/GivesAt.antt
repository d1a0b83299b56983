-- Whether a statement gives a name something, behind others.
use Rattle.std.specs.Prelude.{ℕ, Bool, List}
use Rattle.meaning.specs.declared.syntax.Item.{Item}
use Rattle.meaning.specs.Syntax.{ItemTree}
use Rattle.meaning.specs.Trees.{item_tree}
use Rattle.meaning.specs.Uses.{is_one_of}
use Rattle.symbols.specs.declared.names.Symbols.{Symbols as Kept}
use Rattle.symbols.specs.SymbolsAt.{symbols_at}
use Rattle.name_culprits.specs.declared.culprit.Giving.{Giving}
use Rattle.name_culprits.specs.Names.{gives}

abbrev pub gives_at : Kept → Giving → Item → List ℕ → List ItemTree → Bool
gives_at r k x n before = is_one_of (gives (symbols_at r) k before (item_tree x)) n

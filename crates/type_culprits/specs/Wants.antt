-- What names stand for in a statement, and the types that arguments should have, behind references.
use Rattle.std.specs.Prelude.{[], map, None}
use Rattle.meaning.specs.Syntax.{exprs_tree}
use Rattle.meaning.specs.Scopes.{listed}
use Rattle.meaning.specs.Typing.{Names, Wanted, type_of, within}
use Rattle.symbols.specs.Functions.{dummies_at}
use Rattle.symbols.specs.SymbolsAt.{symbols_at}
use Rattle.type_culprits.specs.declared.naming.Naming.{Naming}
use Rattle.type_culprits.specs.declared.naming.Wanting.{Wanting}
use Rattle.type_culprits.specs.declared.naming.Wanting.TheVariants.{All, Dummies}

abbrev pub names_in : Naming → Names
names_in n = within (dummies_at n.dummies) (symbols_at n.symbols.now).names

abbrev pub wanted_at : Names → Wanting → Wanted
wanted_at ns (All k) = record { first = []; others = k }
wanted_at ns (Dummies es) =
    record { first = map (type_of ns) (listed (exprs_tree es.now)); others = None }

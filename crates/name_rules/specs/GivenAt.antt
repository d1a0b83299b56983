-- What a statement gives names, behind references.
use Rattle.std.specs.Prelude.{◌≡◌, ℕ, Bool, ◌||◌, List, []}
use Rattle.std.specs.Borrow.{Bor}
use Rattle.std.specs.Global.{Vec}
use Rattle.indexmap.specs.IndexSet.{IndexSet}
use Rattle.meaning.specs.NameRules.{Given, given_from}
use Rattle.meaning.specs.Syntax.{ItemTree}
use Rattle.symbols.specs.declared.names.Symbols.{Symbols}
use Rattle.symbols.specs.declared.stage.Stage.{Stage}
use Rattle.name_maps.specs.NameSets.{texts}
use Rattle.symbols.specs.SymbolsAt.{symbols_at}
use Rattle.symbols.specs.Stages.{IsBehind}
use Rattle.name_rules.specs.declared.given.Given.{Given as Found}
use Rattle.name_rules.specs.declared.givings.Names.{Names}
use Rattle.name_uses.specs.Held.{Adds, names_at}
use Rattle.name_rules.specs.HeldNames.{HoldsGiven, is_given_twice, is_two_things}

abbrev pub given_at : Found → Given
given_at g = record {
  typed = names_at g.typed.items;
  bounded = names_at g.bounded.items;
  valued = names_at g.valued.items;
  defined = names_at g.defined.items;
}

-- the rule on what names are given, by sets of those that were given something
abbrev pub are_given_twice : Names → Given → Bool
are_given_twice n g =
    is_given_twice (texts n.typed.keys) (texts n.bounded.keys) (texts n.valued.keys)
    (texts n.defined.keys) g

abbrev pub are_two_things : Names → Given → Bool
are_two_things n g =
    is_two_things (texts n.bounded.keys) (texts n.valued.keys) (texts n.defined.keys) g

abbrev pub are_too_much : Names → Given → Bool
are_too_much n g = are_given_twice n g || are_two_things n g

-- what a statement gives
abbrev pub IsGiven : Given → Found → Type 0
IsGiven g found = given_at found ≡ g

-- a set's names with others behind them
abbrev pub Gains : {S T : Type 0} → IndexSet (Vec ℕ) S → IndexSet (Vec ℕ) T → Vec (Bor (List ℕ)) →
    Type 0
Gains old new names = Adds old new names.items

-- what is known behind statements
abbrev pub KnowsGiven : Symbols → Stage → Names → List ItemTree → Type 0
KnowsGiven r s n before =
    HoldsGiven (IsBehind r s before) n.typed.keys n.bounded.keys n.valued.keys n.defined.keys
    (given_from (symbols_at r) [] before)

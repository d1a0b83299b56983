-- What is added to what was found before.
use Rattle.std.specs.Prelude.{◌≡◌, ◌++◌, List, map, Result}
use Rattle.std.specs.Option.{option_to_list}
use Rattle.meaning.specs.declared.refusal.Broken.{Broken}
use Rattle.meaning.specs.declared.refusal.Refusal.{Refusal}
use Rattle.meaning.specs.declared.syntax.Item.{Item}
use Rattle.meaning.specs.Reports.{Gives}
use Rattle.meaning.specs.Syntax.{ItemTree}
use Rattle.meaning.specs.declared.syntax.Member.{Member}
use Rattle.meaning.specs.Trees.{item_tree, members_tree}
use Rattle.meaning.specs.Uses.{Symbols}
use Rattle.symbols.specs.declared.names.Symbols.{Symbols as Known}
use Rattle.symbols.specs.SymbolsAt.{symbols_at}
use Rattle.rule_passes.specs.Listed.{tree_at}
use Rattle.all_breaches.specs.Parts.{bad_data_pairs, pairs_found}
use Rattle.all_breaches.specs.Phases.{refused_by}
use Rattle.all_breaches.specs.Texts.{read_by}

-- what one statement says, or what its text breaks, comes behind what was there before
abbrev pub AddsMember : Result Item Refusal → List Item → List Item → Type 0
AddsMember said old new =
    (r : Result ItemTree Broken) → Gives item_tree said r → map item_tree new ≡ map item_tree old
    ++ option_to_list (read_by r)

abbrev pub AddsBroken : Result Item Refusal → List Broken → List Broken → Type 0
AddsBroken said old new =
    (r : Result ItemTree Broken) → Gives item_tree said r → new ≡ old
    ++ option_to_list (refused_by r)

-- the statements of a program unit, and what its names are, as they are known
abbrev pub by_symbols : {A : Type 0} → (Symbols → List ItemTree → A) → Known → A
by_symbols f r = f (symbols_at r) (map tree_at r.items.now)

-- the pairs of the rule on DATA statements come behind those before
abbrev pub AddsData : Known → List Broken → List Broken → Type 0
AddsData r old new = new ≡ old ++ by_symbols bad_data_pairs r

-- the pairs of a program unit with these lists
abbrev pub units_of : List Member → Symbols → List ItemTree → List Broken
units_of members r all = pairs_found r all (members_tree members)

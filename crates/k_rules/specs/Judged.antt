-- What is known of a program unit, and the rules around that on DATA statements.
use Rattle.std.specs.Prelude.{◌≡◌, ℕ, List, [], ◌++◌, map, Option, Result}
use Rattle.meaning.specs.declared.ending.Value.{Value}
use Rattle.meaning.specs.declared.refusal.Broken.{Broken}
use Rattle.meaning.specs.declared.refusal.Refusal.{Refusal}
use Rattle.meaning.specs.declared.refusal.Rule.TheVariants.{K1, K2, K6, K7, K9, K10, K11}
use Rattle.meaning.specs.declared.syntax.Member.{Member}
use Rattle.meaning.specs.Arrays.{Dimension}
use Rattle.meaning.specs.Initial.{has_bad_data, starts_from}
use Rattle.meaning.specs.LabelRules.{has_repeated_label, breaks_transfers, has_bad_output}
use Rattle.meaning.specs.LoopRules.{breaks_loops}
use Rattle.meaning.specs.NameRules.{told, broken_names}
use Rattle.meaning.specs.NumberRules.{has_bad_number, has_large_array}
use Rattle.meaning.specs.Refusals.{least, merge, unless}
use Rattle.meaning.specs.Reports.{Gives}
use Rattle.meaning.specs.Scopes.{arrays_of, known_of}
use Rattle.meaning.specs.Surroundings.{in_body, told_in}
use Rattle.meaning.specs.Syntax.{ItemTree}
use Rattle.meaning.specs.Trees.{Members, members_tree}
use Rattle.meaning.specs.Types.{types_of}
use Rattle.meaning.specs.Uses.{Symbols, symbols_of}
use Rattle.symbols.specs.declared.names.Symbols.{Symbols as Kept}
use Rattle.symbols.specs.SymbolsAt.{symbols_at}
use Rattle.rule_passes.specs.Listed.{tree_at}
use Rattle.k_rules.specs.declared.verdict.Facts.{Facts}
use Rattle.statement_rules.specs.FormatsFound.{HoldsFormats}
use Rattle.declarations.specs.ArraysKept.{arrays_kept}
use Rattle.data_rules.specs.DataSets.{given_by}
use Rattle.data_rules.specs.DataStages.{Found}
use Rattle.declarations.specs.KnownNames.{known_in}
use Rattle.data_rules.specs.Slots.{given_in}

abbrev pub constant_in : Facts → List ℕ → Option Value
constant_in f = known_in f.constants

abbrev pub arrays_in : Facts → List ℕ → Option (List Dimension)
arrays_in f n = arrays_kept f.arrays n

abbrev pub starts_in : Facts → Found
starts_in f = given_in f.starts

-- the rules in front of that on DATA statements
abbrev pub rules_first : Symbols → List ItemTree → List Broken
rules_first r all =
    told has_repeated_label K1 [] all
    ++ (broken_names r all
    ++ (told (has_bad_number r) K6 [] all ++ told (has_large_array r) K7 [] all))

-- those on lists of statements, and with these those behind that on DATA statements
abbrev pub rules_in_lists : Symbols → List ItemTree → Members → List Broken
rules_in_lists r all ms =
    told_in (breaks_transfers r all) K2 (in_body ms) ms
    ++ told_in (breaks_loops r) K9 (in_body ms) ms

abbrev pub rules_last : Symbols → List ItemTree → Members → List Broken
rules_last r all ms = told (has_bad_output r all) K11 [] all ++ rules_in_lists r all ms

-- all but that on DATA statements
abbrev pub rules_but_data : Symbols → List ItemTree → Members → List Broken
rules_but_data r all ms = rules_first r all ++ rules_last r all ms

-- the pairs of the rules on names, of those in front, of those behind, of those on lists, of all of
-- these, behind others
abbrev pub AddsNames : Kept → List Broken → List Broken → Type 0
AddsNames r old new = new ≡ old ++ broken_names (symbols_at r) (map tree_at r.items.now)

abbrev pub AddsFirst : Kept → List Broken → List Broken → Type 0
AddsFirst r old new = new ≡ old ++ rules_first (symbols_at r) (map tree_at r.items.now)

abbrev pub AddsLast : Kept → List Member → List Broken → List Broken → Type 0
AddsLast r members old new =
    new ≡ old ++ rules_last (symbols_at r) (map tree_at r.items.now) (members_tree members)

abbrev pub AddsInLists : Kept → List Member → List Broken → List Broken → Type 0
AddsInLists r members old new =
    new ≡ old ++ rules_in_lists (symbols_at r) (map tree_at r.items.now) (members_tree members)

abbrev pub AddsOthers : Kept → List Member → List Broken → List Broken → Type 0
AddsOthers r members old new =
    new ≡ old ++ rules_but_data (symbols_at r) (map tree_at r.items.now) (members_tree members)

-- the least pair of others and of the rule on DATA statements
abbrev pub with_data : List ItemTree → Option Broken → Option Broken
with_data all others = merge others (least (told (has_bad_data (symbols_of all)) K10 [] all))

-- facts where there is no pair, otherwise that pair, unless memory was refused
abbrev pub IsDecided : Option Broken → Result Facts Refusal → Type 0
IsDecided o result = Gives {A = Unit {0}} (λ f. tt) result (unless o tt)

-- what the statements of a program unit say of its names
abbrev pub HasConstants : List ItemTree → Facts → Type 0
HasConstants all f = (n : List ℕ) → constant_in f n ≡ known_of (types_of all) all n

abbrev pub HasArrays : List ItemTree → Facts → Type 0
HasArrays all f = (n : List ℕ) → arrays_in f n ≡ arrays_of all n

abbrev pub HasStarts : List ItemTree → Facts → Type 0
HasStarts all f =
    starts_in f ≡ given_by (symbols_of all).names (starts_from (symbols_of all) [] all)

-- and of its formats
abbrev pub HasFormats : List ItemTree → Facts → Type 0
HasFormats all f = HoldsFormats all f.formats

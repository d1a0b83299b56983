-- What is told of arrays, one declarator or one statement more.
use Rattle.std.proofs.Common.{◌≡◌, ℕ, ◌+◌, ◌<◌, ◌≤◌, Bool, List, [], ◌∷◌, length, get_or, drop, map, sym, ap, ◌∙◌, Option, Some, None}
use Rattle.std.specs.Option.{option_or}
use Rattle.std.proofs.lemmas.List.{drop_all}
use Rattle.meaning.specs.declared.syntax.Declarator.{Declarator}
use Rattle.meaning.specs.NumberRules.{elements_in, elements_of, known_behind_all}
use Rattle.meaning.specs.Scopes.{declarators_in}
use Rattle.meaning.specs.Syntax.{ItemTree, declarator_tree}
use Rattle.meaning.specs.Types.{Types}
use Rattle.meaning.specs.Values.{Known}
use Rattle.symbols.specs.declared.names.Symbols.{Symbols as Kept}
use Rattle.symbols.specs.SymbolsAt.{symbols_at}
use Rattle.symbols.proofs.Passes.{map_left}
use Rattle.declarations.specs.declared.known.Table.{Table}
use Rattle.declarations.specs.Tables.{types_in}
use Rattle.number_rules.specs.CappedSizes.{IsCapped}
use Rattle.number_rules.specs.Sized.{AreBehind}
use Rattle.number_rules.proofs.Sizing.{behind, behind_more}
use Rattle.rule_passes.specs.Telling.{Finds}
use Rattle.size_culprits.specs.Sized.{first_large_at}
use Rattle.size_culprits.specs.Sizes.{first_large, large_in, large_of}
use Rattle.size_culprits.specs.Told.{Told}

module _ (types : Types) (known : Known) where
  abbrev pub left_told : ℕ → List Declarator → ℕ → Option Told
  left_told k ds i = first_large types known k (map declarator_tree (drop i ds))

  told_left : (k : ℕ) (ds : List Declarator) (i : ℕ) (d : Declarator) → i < length ds → d ≡ get_or ds i d → left_told k ds i ≡ option_or (large_of types known k (declarator_tree d)) (left_told (k + elements_of types known (declarator_tree d)) ds (i + 1))
  told_left k ds i d lt is = ap (first_large types known k) (map_left declarator_tree ds i d lt is)

  pub told_here : (k : ℕ) (ds : List Declarator) (i : ℕ) (d : Declarator) (t : Told) (all : Option Told) → i < length ds → d ≡ get_or ds i d → Some t ≡ large_of types known k (declarator_tree d) → left_told k ds i ≡ all → Some t ≡ all
  told_here k ds i d t all lt is here so_far =
      ap (λ o. option_or o (left_told (k + elements_of types known (declarator_tree d)) ds (i + 1))) here ∙ sym (told_left k ds i d lt is) ∙ so_far

  pub told_later : (n : ℕ) (ds : List Declarator) (i : ℕ) (d : Declarator) (all : Option Told) → i < length ds → d ≡ get_or ds i d → None ≡ large_of types known (n + behind types known ds i) (declarator_tree d) → left_told (n + behind types known ds i) ds i ≡ all → left_told (n + behind types known ds (i + 1)) ds (i + 1) ≡ all
  told_later n ds i d all lt is here so_far =
      let k = n + behind types known ds i in
      ap (λ j. left_told j ds (i + 1)) (behind_more types known n ds i d lt is)
      ∙ ap (λ o. option_or o (left_told (k + elements_of types known (declarator_tree d)) ds (i + 1))) here
      ∙ sym (told_left k ds i d lt is) ∙ so_far

  pub told_nowhere : (k : ℕ) (ds : List Declarator) (i : ℕ) (all : Option Told) → length ds ≤ i → left_told k ds i ≡ all → None ≡ all
  told_nowhere k ds i all le so_far =
      ap (λ xs. first_large types known k (map declarator_tree xs)) (sym (drop_all i ds le)) ∙ so_far

-- by what is known behind statements
pub told_behind : (r : Kept) (t : Table) (count : ℕ) (before : List ItemTree) (ds : List Declarator) (x : ItemTree) (o : Option Told) → AreBehind t count before → t.symbols.now ≡ r → map declarator_tree ds ≡ declarators_in x.shape → Finds (IsCapped count) (first_large_at t ds) o → o ≡ large_in (symbols_at r) before x
told_behind r t count before ds x o known same declared finds =
    let q = symbols_at t.symbols.now in
    let n = elements_in q [] before in
    finds n known.elements
    ∙ ap (λ k. first_large (types_in t) k n (map declarator_tree ds)) known.table
    ∙ ap (first_large (types_in t) (known_behind_all q before) n) declared
    ∙ ap (λ p. large_in (symbols_at p) before x) same

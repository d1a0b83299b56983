-- Elements and cells that can be counted.
use Rattle.std.proofs.Common.{◌≡◌, ◌<◌, ◌≤◌, ◌^◌, ℕ, zero, suc, ◌+◌, ◌*◌, List, [], ◌∷◌, length, take, Option, Some, None, Ok, refl, sym, ap, subst, ◌∙◌, arith}
use Rattle.std.specs.List.{AllByRecursion}
use Rattle.std.specs.Global.{Vec}
use Rattle.std.proofs.Math.Path.{fun_ext}
use Rattle.meaning.specs.declared.syntax.Tree.{Tree}
use Rattle.meaning.specs.Arrays.{Dimension, cells_of, extent, size}
use Rattle.meaning.specs.Rules.{checked}
use Rattle.meaning.specs.Scopes.{arrays_of}
use Rattle.meaning.specs.Trees.{nested, flatten}
use Rattle.meaning.specs.Values.{Arrays, dimensions_in}
use Rattle.name_maps.specs.NameSets.{texts}
use Rattle.symbols.specs.declared.names.Symbols.{Symbols}
use Rattle.symbols.specs.Listed.{trees_at}
use Rattle.k_rules.specs.declared.verdict.Facts.{Facts}
use Rattle.k_rules.specs.Judged.{arrays_in}
use Rattle.appearances.specs.Appearing.{variables_at}
use Rattle.storage.specs.Checked.{items_in, names_in, tree_of}
use Rattle.storage.specs.Numbered.{named, variables_of}
use Rattle.rule_laws.specs.Units.{unit_of}
use Rattle.rule_laws.proofs.Count.{few_cells}
use Rattle.rule_laws.proofs.Sizes.{arrays_sized}
use Rattle.rule_laws.proofs.Unbroken.{all_lawful}
use Rattle.checker.specs.Entries.{AreCountable, HaveRoom, dimensions_at}

-- ---- elements

abbrev AreFilled : List Dimension → Type 0
AreFilled ds = AllByRecursion (λ d. 1 ≤ extent d) ds

scaled : (n a b : ℕ) → a ≤ b → n * a ≤ n * b
scaled zero a b le = omega arith
scaled (suc n) a b le = let rest = scaled n a b le in omega (arith, le, rest)

some : (ds : List Dimension) → AreFilled ds → 1 ≤ size ds
some [] h = omega arith
some (d ∷ ds) h = product (extent d) (size ds) h.0 (some ds h.1)
  where
    product : (a b : ℕ) → 1 ≤ a → 1 ≤ b → 1 ≤ a * b
    product zero b x y = absurd (omega (arith, x))
    product (suc a) b x y = omega (arith, y)

-- of the first so many dimensions there are no more
fewer : (ds : List Dimension) (i : ℕ) → AreFilled ds → size (take i ds) ≤ size ds
fewer ds zero h = some ds h
fewer [] (suc i) h = omega arith
fewer (d ∷ ds) (suc i) h = scaled (extent d) (size (take i ds)) (size ds) (fewer ds i h.1)

pub counts : (ds : List Dimension) (i n : ℕ) → AreCountable ds → n ≡ size (take i ds) → n < 2 ^ 64
counts ds i n h is = let few = h.few in let le = fewer ds i h.filled in omega (arith, few, le, is)

-- ---- cells

pub fewer_cells : (arrays : Arrays) (names : List (List ℕ)) (i : ℕ) → cells_of (named arrays (take i names)) ≤ cells_of (named arrays names)
fewer_cells arrays names zero = omega arith
fewer_cells arrays [] (suc i) = omega arith
fewer_cells arrays (x ∷ names) (suc i) = let rest = fewer_cells arrays names i in omega (arith, rest)

texts_take : (names : List (Vec ℕ)) (i : ℕ) → texts (take i names) ≡ take i (texts names)
texts_take names zero = refl
texts_take [] (suc i) = refl
texts_take (x ∷ names) (suc i) = ap (λ ns. x.items ∷ ns) (texts_take names i)

-- the cells of the first so many names
pub cells_count : (f : Facts) (names : List (Vec ℕ)) (i n : ℕ) → HaveRoom f (texts names) → n ≡ cells_of (named (arrays_in f) (texts (take i names))) → n < 2 ^ 64
cells_count f names i n h is =
    let few = h.few in
    let le = fewer_cells (arrays_in f) (texts names) i in
    let all = is ∙ ap (λ ns. cells_of (named (arrays_in f) ns)) (texts_take names i) in
    omega (arith, few, le, all)

-- ---- in a program unit that keeps the rules

module _ (t : Tree) (f : Facts) (r : Symbols) (items : trees_at r.items.now ≡ items_in t) (arrays : (n : List ℕ) → arrays_in f n ≡ (names_in t).arrays n) (accepted : checked (tree_of t) ≡ Ok (tree_of t)) where
  countable : (n : List ℕ) (o : Option (List Dimension)) → arrays_of (items_in t) n ≡ o → AreCountable (dimensions_in o)
  countable n None is = record { filled = tt; few = omega arith }
  countable n (Some ds) is =
      let sized = (arrays_sized (items_in t) (all_lawful (tree_of t) accepted) n ds is).dimensions in
      record { filled = sized.values; few = let most = sized.elements in omega (arith, most) }

  pub has_room : (source : List ℕ) → unit_of source ≡ Ok (tree_of t) → HaveRoom f (variables_at r)
  has_room source spelled =
      record {
        arrays = λ n. subst (λ o. AreCountable (dimensions_in o)) (sym (arrays n)) (countable n (arrays_of (items_in t) n) refl);
        few =
            let least = few_cells source (tree_of t) spelled accepted in
            let same = ap (λ a. cells_of (named a (variables_at r))) (fun_ext arrays) ∙ ap (λ xs. cells_of (named (arrays_of (items_in t)) (variables_of xs))) items in
            omega (arith, least, same);
      }

-- The sizes of arrays, one declarator or one statement more.
use Rattle.std.proofs.Common.{◌≡◌, ℕ, ◌+◌, ◌<◌, ◌≤◌, Bool, true, false, ◌||◌, List, [], ◌∷◌, ◌++◌, length, get_or, take, drop, map, append_assoc, refl, sym, ap, ap₂, ◌∙◌, arith}
use Rattle.std.specs.Prelude.{sum_by}
use Rattle.std.proofs.lemmas.List.{append-nil, drop_all}
use Rattle.std.proofs.lemmas.List.Sums.{sum_by-append}
use Rattle.meaning.specs.declared.syntax.Declarator.{Declarator}
use Rattle.meaning.specs.Syntax.{ItemTree, declarator_tree}
use Rattle.meaning.specs.NumberRules.{elements_in, elements_of, have_too_large, is_too_large, known_behind_all}
use Rattle.meaning.specs.Scopes.{declarators_in}
use Rattle.meaning.specs.Types.{Types}
use Rattle.meaning.specs.Uses.{Symbols}
use Rattle.meaning.specs.Values.{Known}
use Rattle.symbols.proofs.Passes.{map_more, map_left}
use Rattle.expressions.specs.Places.{capped}
use Rattle.number_rules.proofs.CappedBy.{capped_add}

last_sum : (a b c : ℕ) → a + (b + (0 + c)) ≡ (a + b) + c
last_sum a b c = omega arith

both_capped : (a b : ℕ) → capped (capped a + capped b) ≡ capped (a + b)
both_capped a b = capped_add a b

-- ---- declarators

module _ (types : Types) (known : Known) where
  -- the elements of the declarators that are passed over
  abbrev pub behind : List Declarator → ℕ → ℕ
  behind ds i = sum_by (elements_of types known) (map declarator_tree (take i ds))

  pub behind_more : (n : ℕ) (ds : List Declarator) (i : ℕ) (d : Declarator) → i < length ds → d ≡ get_or ds i d → n + behind ds (i + 1) ≡ (n + behind ds i) + elements_of types known (declarator_tree d)
  behind_more n ds i d lt is =
      ap (λ xs. n + sum_by (elements_of types known) xs) (map_more declarator_tree ds i d lt is)
      ∙ ap (λ k. n + k) (sum_by-append (elements_of types known) (map declarator_tree (take i ds)) (declarator_tree d ∷ []))
      ∙ last_sum n (behind ds i) (elements_of types known (declarator_tree d))

  pub elements_more : (n : ℕ) (ds : List Declarator) (i : ℕ) (d : Declarator) (now next here : ℕ) → i < length ds → d ≡ get_or ds i d → now ≡ capped (n + behind ds i) → here ≡ capped (elements_of types known (declarator_tree d)) → next ≡ capped (now + here) → next ≡ capped (n + behind ds (i + 1))
  elements_more n ds i d now next here lt is so_far at added =
      added ∙ ap₂ (λ a b. capped (a + b)) so_far at ∙ both_capped (n + behind ds i) (elements_of types known (declarator_tree d))
      ∙ ap capped (sym (behind_more n ds i d lt is))

  abbrev pub left_large : ℕ → List Declarator → ℕ → Bool
  left_large k ds i = have_too_large types known k (map declarator_tree (drop i ds))

  large_left : (k : ℕ) (ds : List Declarator) (i : ℕ) (d : Declarator) → i < length ds → d ≡ get_or ds i d → left_large k ds i ≡ (is_too_large types known k (declarator_tree d) || left_large (k + elements_of types known (declarator_tree d)) ds (i + 1))
  large_left k ds i d lt is = ap (have_too_large types known k) (map_left declarator_tree ds i d lt is)

  pub large_here : (ds : List Declarator) (i : ℕ) (d : Declarator) (k : ℕ) (told all : Bool) → i < length ds → d ≡ get_or ds i d → told ≡ is_too_large types known k (declarator_tree d) → told ≡ true → left_large k ds i ≡ all → true ≡ all
  large_here ds i d k told all lt is here holds so_far =
      ap (λ b. b || left_large (k + elements_of types known (declarator_tree d)) ds (i + 1)) (sym holds ∙ here) ∙ sym (large_left k ds i d lt is) ∙ so_far

  pub large_later : (n : ℕ) (ds : List Declarator) (i : ℕ) (d : Declarator) (told all : Bool) → i < length ds → d ≡ get_or ds i d → told ≡ is_too_large types known (n + behind ds i) (declarator_tree d) → told ≡ false → left_large (n + behind ds i) ds i ≡ all → left_large (n + behind ds (i + 1)) ds (i + 1) ≡ all
  large_later n ds i d told all lt is here fails so_far =
      let k = n + behind ds i in
      ap (λ j. left_large j ds (i + 1)) (behind_more n ds i d lt is)
      ∙ ap (λ b. b || left_large (k + elements_of types known (declarator_tree d)) ds (i + 1)) (sym fails ∙ here)
      ∙ sym (large_left k ds i d lt is) ∙ so_far

  pub large_nowhere : (ds : List Declarator) (i : ℕ) (k : ℕ) (all : Bool) → length ds ≤ i → left_large k ds i ≡ all → false ≡ all
  large_nowhere ds i k all le so_far = ap (λ xs. have_too_large types known k (map declarator_tree xs)) (sym (drop_all i ds le)) ∙ so_far

-- ---- statements

module _ (r : Symbols) where
  -- the elements of the arrays that a statement declares behind others
  abbrev pub elements_at : List ItemTree → ItemTree → ℕ
  elements_at before x = sum_by (elements_of r.names.types (known_behind_all r before)) (declarators_in x.shape)

  sum_assoc : (a b c : ℕ) → a + (b + c) ≡ (a + b) + c
  sum_assoc a b c = omega arith

  zero_sum : (a : ℕ) → a + 0 ≡ 0 + a
  zero_sum a = omega arith

  elements_append : (before xs : List ItemTree) (x : ItemTree) → elements_in r before (xs ++ x ∷ []) ≡ elements_in r before xs + elements_at (before ++ xs) x
  unfolding elements_in
  elements_append before [] x = zero_sum (elements_at before x) ∙ ap (λ b. 0 + elements_at b x) (sym (append-nil before))
  elements_append before (y ∷ ys) x =
      ap (λ n. elements_at before y + n) (elements_append (before ++ y ∷ []) ys x)
      ∙ sum_assoc (elements_at before y) (elements_in r (before ++ y ∷ []) ys) (elements_at ((before ++ y ∷ []) ++ ys) x)
      ∙ ap (λ b. (elements_at before y + elements_in r (before ++ y ∷ []) ys) + elements_at b x) (append_assoc before (y ∷ []) ys)

  pub elements_push : (before : List ItemTree) (x : ItemTree) → elements_in r [] (before ++ x ∷ []) ≡ elements_in r [] before + elements_at before x
  elements_push before x = elements_append [] before x

  pub elements_none : elements_in r [] [] ≡ 0
  unfolding elements_in
  elements_none = refl

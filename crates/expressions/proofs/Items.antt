-- The items of an output list, one behind another.
use Rattle.std.proofs.Common.{◌≡◌, ℕ, zero, suc, ◌+◌, ◌-◌, ◌<◌, ◌≤◌, nat_lt, ℤ, true, false, List, [], ◌∷◌, ◌++◌, append_assoc, length, Option, Some, None, Result, Ok, Err, refl, sym, ap, subst, ◌∙◌, arith}
use Rattle.std.proofs.lemmas.Bool.{lt-ltb, le-ltb}
use Rattle.meaning.specs.declared.ending.FaultKind.{FaultKind}
use Rattle.meaning.specs.declared.ending.FaultKind.TheVariants.{F8}
use Rattle.meaning.specs.declared.ending.Value.{Value}
use Rattle.meaning.specs.Syntax.{ExprTree, name, number, truth, signed, negated, binary, paren, element, call}
use Rattle.meaning.specs.Arrays.{size, place, elements}
use Rattle.meaning.specs.Lists.{faulted, with_value, element_values, one_value, named_value, item_value}
use Rattle.meaning.specs.Maps.{Map, CellNumbers, value_at, map_by}
use Rattle.meaning.specs.Values.{Scope, Valued, value, typed, and_then}
use Rattle.meaning.specs.Stores.{Cells, World, LeavesRead, known, Reads}
use Rattle.meaning.proofs.Stores.{reads_nothing, reads_cell, reads_so, reads_then}
use Rattle.expressions.specs.declared.numbering.Cells.{Cells as Variable}
use Rattle.expressions.specs.Glossaries.{Glossary, scope_by}
use Rattle.expressions.specs.Names.{AreCells}
use Rattle.expressions.specs.Places.{left, from_cell}
use Rattle.expressions.specs.Listed.{AreValues, element_at, cell_at, Partly, AddingElements, AddsElements, AddsItem, Adding, IsArrayIn}
use Rattle.expressions.proofs.Ordered.{AreNumbered, elements-numbered, elements-length, length-both}

some_none : {A : Type 0} {x : A} → Some x ≡ None → ⊥
some_none h = cc

-- ---- values

pub values-append : (f : ℕ → Valued) (i : ℕ) (vs : List Value) (x : Value) → AreValues f i vs → f (i + length vs) ≡ Ok x → AreValues f i (vs ++ x ∷ [])
values-append f i [] x h is = (ap f (none_more i) ∙ is, tt)
  where
    none_more : (i : ℕ) → i ≡ i + 0
    none_more i = omega arith
values-append f i (v ∷ vs) x h is =
    (h.0, values-append f (suc i) vs x h.1 (ap f (one_less i (length vs)) ∙ is))
  where
    one_less : (i n : ℕ) → suc i + n ≡ i + suc n
    one_less i n = omega arith

-- ---- a whole array

elements_are : (s : Scope) (n : List ℕ) (m : Map) (p : List ℤ → Option ℕ) (f : ℕ → Valued) → ((ss : List ℤ) (k : ℕ) → p ss ≡ Some k → typed (s.types n) (m n ss) ≡ f k) → (i : ℕ) (sss : List (List ℤ)) (vs : List Value) → AreNumbered p i sss → length vs ≡ length sss → AreValues f i vs → element_values s n sss m ≡ Ok vs
unfolding element_values and_then
elements_are s n m p f same i [] [] h many are = refl
elements_are s n m p f same i [] (v ∷ vs) h many are = absurd (omega (arith, many))
elements_are s n m p f same i (ss ∷ sss) [] h many are = absurd (omega (arith, many))
elements_are s n m p f same i (ss ∷ sss) (v ∷ vs) h many are =
    let first : typed (s.types n) (m n ss) ≡ Ok v = same ss i h.0 ∙ are.0 in
    let rest : element_values s n sss m ≡ Ok vs = elements_are s n m p f same (suc i) sss vs h.1 (omega (arith, many)) are.1 in
    rw first (rw rest refl)

module _ (g : Glossary) (numbers : CellNumbers) (count : ℕ) (n : List ℕ) (c : Variable) (array : g.arrays n ≡ Some (left c.place)) (cells : AreCells g numbers count n c) where
  alike : (m : Cells) (ss : List ℤ) (k : ℕ) → place (left c.place) ss ≡ Some k → typed (g.types n) (map_by numbers m n ss) ≡ element_at c m k
  unfolding map_by
  alike m ss k is =
      ap (λ t. typed t (value_at m (numbers n ss))) (sym cells.typed)
      ∙ ap (λ o. typed c.data_type (value_at m o)) (sym (cells.cells ss) ∙ ap (from_cell c.place.cell c.place.stride) is)

  array_values : (m : Cells) (given rest : ℕ) (vs : List Value) → length vs ≡ size (left c.place) → rest + size (left c.place) ≡ given → AreValues (element_at c m) 0 vs → item_value (scope_by g) (name n) (map_by numbers m) given ≡ Ok (record { values = vs; map = map_by numbers m; left = rest })
  unfolding with_value
  array_values m given rest vs many fits are =
      let found : element_values (scope_by g) n (elements (left c.place)) (map_by numbers m) ≡ Ok vs = elements_are (scope_by g) n (map_by numbers m) (place (left c.place)) (element_at c m) (alike m) 0 (elements (left c.place)) vs (elements-numbered (left c.place)) (many ∙ sym (elements-length (left c.place))) are in
      let small : nat_lt given (length (elements (left c.place))) ≡ false = ap (nat_lt given) (elements-length (left c.place)) ∙ le-ltb given (size (left c.place)) (room rest (size (left c.place)) given fits) in
      let last : given - length (elements (left c.place)) ≡ rest = ap (λ k. given - k) (elements-length (left c.place)) ∙ less rest (size (left c.place)) given fits in
      rw array (rw small (rw found (rw last refl)))
    where
      room : (a b c : ℕ) → a + b ≡ c → b ≤ c
      room a b c e = omega (arith, e)

      less : (a b c : ℕ) → a + b ≡ c → c - b ≡ a
      less a b c e = omega (arith, e)

  array_too_long : (m : Cells) (given : ℕ) → given < size (left c.place) → item_value (scope_by g) (name n) (map_by numbers m) given ≡ faulted F8 (map_by numbers m)
  array_too_long m given lt =
      let large : nat_lt given (length (elements (left c.place))) ≡ true = ap (nat_lt given) (elements-length (left c.place)) ∙ lt-ltb given (size (left c.place)) lt in
      rw array (rw large refl)

-- ---- read from a store

pub place_reads : (u v : World) (c : ℕ) (o : Option ℕ) (z : ℤ) → o ≡ Some c → LeavesRead c u v → z ≡ known u c → Reads u v (λ m. value_at m o ≡ z)
place_reads u v c o z is read value =
    reads_so u v (λ m. m c ≡ known u c) (λ m. value_at m o ≡ z) (reads_cell c u v read) (λ m h. ap (value_at m) is ∙ h ∙ sym value)

abbrev Values : Scope → CellNumbers → ExprTree → Valued → Cells → Type 0
Values s numbers e r m = value s e (map_by numbers m) ≡ r

module _ (g : Glossary) (numbers : CellNumbers) where
  module _ (count : ℕ) (n : List ℕ) (c : Variable) (array : g.arrays n ≡ Some (left c.place)) (cells : AreCells g numbers count n c) (u v : World) where
    pub array_adds : (before after : List Value) (given rest : ℕ) → AddingElements u v c before after given rest → Adding u v (λ m. item_value (scope_by g) (name n) (map_by numbers m) given) (map_by numbers) before after rest
    array_adds before after given rest added =
        record {
          values = added.values;
          behind = added.behind;
          reads = reads_so u v (λ m. AreValues (element_at c m) 0 added.values) (λ m. item_value (scope_by g) (name n) (map_by numbers m) given ≡ Ok (record { values = added.values; map = map_by numbers m; left = rest })) added.reads (λ m are. array_values g numbers count n c array cells m given rest added.values added.many added.fits are);
        }

    pub array_fails : (given : ℕ) (k : FaultKind) → (k ≡ F8) × (given < size (left c.place)) × (v ≡ u) → Reads u v (λ m. item_value (scope_by g) (name n) (map_by numbers m) given ≡ faulted k (map_by numbers m))
    array_fails given k f =
        subst (λ w. Reads u w (λ m. item_value (scope_by g) (name n) (map_by numbers m) given ≡ faulted k (map_by numbers m))) (sym f.2) (reads_nothing u (λ m. item_value (scope_by g) (name n) (map_by numbers m) given ≡ faulted k (map_by numbers m)) (λ m. array_too_long g numbers count n c array cells m given f.1 ∙ ap (λ j. faulted j (map_by numbers m)) (sym f.0)))

-- ---- one value

one_more : (s : Scope) (e : ExprTree) (m : Map) (given rest : ℕ) (v : Value) → given ≡ suc rest → value s e m ≡ Ok v → one_value s e m given ≡ Ok (record { values = v ∷ []; map = m; left = rest })
unfolding with_value
one_more s e m zero rest v same is = absurd (omega (arith, same))
one_more s e m (suc n) rest v same is = let one : n ≡ rest = omega (arith, same) in rw is (ap (λ k. Ok (record { values = v ∷ []; map = m; left = k })) one)

one_fault : (s : Scope) (e : ExprTree) (m : Map) (given : ℕ) (k : FaultKind) → 0 < given → value s e m ≡ Err k → one_value s e m given ≡ faulted k m
unfolding with_value
one_fault s e m zero k lt is = absurd (omega (arith, lt))
one_fault s e m (suc n) k lt is = rw is refl

-- an item that is no whole array is one value
plain_item : (g : Glossary) (numbers : CellNumbers) (count : ℕ) (e : ExprTree) (m : Map) (given : ℕ) → IsArrayIn g numbers count e None → item_value (scope_by g) e m given ≡ one_value (scope_by g) e m given
plain_item g numbers count (name n) m given none = ap (λ o. named_value (scope_by g) n o m given) none
plain_item g numbers count (number digits) m given none = refl
plain_item g numbers count (truth b) m given none = refl
plain_item g numbers count (signed sign e) m given none = refl
plain_item g numbers count (negated e) m given none = refl
plain_item g numbers count (binary operator a b) m given none = refl
plain_item g numbers count (paren e) m given none = refl
plain_item g numbers count (element letters es) m given none = refl
plain_item g numbers count (call letters) m given none = refl

module _ (g : Glossary) (numbers : CellNumbers) (count : ℕ) (e : ExprTree) (plain : IsArrayIn g numbers count e None) (u v : World) where
  pub value_adds : (before after : List Value) (x : Value) (given rest : ℕ) → given ≡ suc rest → after ≡ before ++ x ∷ [] → Reads u v (Values (scope_by g) numbers e (Ok x)) → Adding u v (λ m. item_value (scope_by g) e (map_by numbers m) given) (map_by numbers) before after rest
  value_adds before after x given rest same is reads =
      record {
        values = x ∷ [];
        behind = is;
        reads = reads_so u v (Values (scope_by g) numbers e (Ok x)) (λ m. item_value (scope_by g) e (map_by numbers m) given ≡ Ok (record { values = x ∷ []; map = map_by numbers m; left = rest })) reads (λ m h. plain_item g numbers count e (map_by numbers m) given plain ∙ one_more (scope_by g) e (map_by numbers m) given rest x same h);
      }

  pub value_fails : (given : ℕ) (k : FaultKind) → 0 < given → Reads u v (Values (scope_by g) numbers e (Err k)) → Reads u v (λ m. item_value (scope_by g) e (map_by numbers m) given ≡ faulted k (map_by numbers m))
  value_fails given k lt reads =
      reads_so u v (Values (scope_by g) numbers e (Err k)) (λ m. item_value (scope_by g) e (map_by numbers m) given ≡ faulted k (map_by numbers m)) reads (λ m h. plain_item g numbers count e (map_by numbers m) given plain ∙ one_fault (scope_by g) e (map_by numbers m) given k lt h)

-- ---- one element more

pub partly_more : (u v w : World) (c : Variable) (before now next : List Value) (at : ℕ) (z : ℤ) (x : Value) → Partly u v c before now at → next ≡ now ++ x ∷ [] → Reads v w (λ m. value_at m (cell_at c.place at) ≡ z) → typed c.data_type z ≡ Ok x → Partly u w c before next (at + 1)
partly_more u v w c before now next at z x so_far is reads typed_is = record {
  values = so_far.values ++ x ∷ [];
  behind = is ∙ ap (λ vs. vs ++ x ∷ []) so_far.behind ∙ append_assoc before so_far.values (x ∷ []);
  many = length-both so_far.values (x ∷ []) ∙ ap (λ n. n + 1) so_far.many;
  reads = reads_then u v w (λ m. AreValues (element_at c m) 0 so_far.values) (λ m. value_at m (cell_at c.place at) ≡ z) (λ m. AreValues (element_at c m) 0 (so_far.values ++ x ∷ [])) so_far.reads reads (λ m are h. values-append (element_at c m) 0 so_far.values x are (ap (element_at c m) (none_before (length so_far.values) ∙ so_far.many) ∙ ap (typed c.data_type) h ∙ typed_is));
}
  where
    none_before : (n : ℕ) → 0 + n ≡ n
    none_before n = omega arith

-- a whole array behind those before, as an item
pub array_item : (g : Glossary) (numbers : CellNumbers) (count : ℕ) (e : ExprTree) (c : Variable) → IsArrayIn g numbers count e (Some c) → (u v : World) (before after : List Value) (given rest : ℕ) (r : Result (Unit {0}) FaultKind) → AddsElements u v c before after given rest r → AddsItem u v (λ m. item_value (scope_by g) e (map_by numbers m) given) (map_by numbers) before after rest r
array_item g numbers count (name n) c array u v before after given rest (Ok t) added =
    array_adds g numbers count n c array.0 array.1 u v before after given rest added
array_item g numbers count (name n) c array u v before after given rest (Err k) added =
    array_fails g numbers count n c array.0 array.1 u v given k added
array_item g numbers count (number digits) c array u v before after given rest r added = absurd (some_none array)
array_item g numbers count (truth b) c array u v before after given rest r added = absurd (some_none array)
array_item g numbers count (signed sign e) c array u v before after given rest r added = absurd (some_none array)
array_item g numbers count (negated e) c array u v before after given rest r added = absurd (some_none array)
array_item g numbers count (binary operator a b) c array u v before after given rest r added = absurd (some_none array)
array_item g numbers count (paren e) c array u v before after given rest r added = absurd (some_none array)
array_item g numbers count (element letters es) c array u v before after given rest r added = absurd (some_none array)
array_item g numbers count (call letters) c array u v before after given rest r added = absurd (some_none array)

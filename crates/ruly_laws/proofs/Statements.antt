-- Codes can be made of the statements and the statement functions of a program unit that keeps the rules.
use Rattle.std.proofs.Common.{◌≡◌, ◌<◌, ◌≤◌, ◌^◌, ℕ, zero, suc, Bool, true, false, List, [], ◌∷◌, ◌++◌, length, map, Option, Some, None, Ok, refl, sym, ap, subst, arith}
use Rattle.std.specs.Prelude.{if◌then◌else◌, is_some, slice_get}
use Rattle.std.specs.List.{AllByRecursion}
use Rattle.meaning.specs.Arrays.{Dimension, cells_of}
use Rattle.meaning.specs.Characters.{number_of}
use Rattle.meaning.specs.LabelRules.{transfers_of}
use Rattle.meaning.specs.Rules.{checked}
use Rattle.meaning.specs.Scopes.{Definition, arrays_of, listed}
use Rattle.meaning.specs.Spelling.{IsWell}
use Rattle.meaning.specs.Surroundings.{controlled_by, loop_variables}
use Rattle.meaning.specs.Syntax.{ExprTree, number, truth, name, signed, negated, binary, paren, element, call, ExprsTree, no_exprs, exprs, ItemTree, ListItemsTree, no_items, more_items, value_item, loop_item, ShapeTree, arithmetic_if, assignment, block_if, computed_going, doing, doing_while, else_if, going, logical_if, printing, writing}
use Rattle.meaning.specs.Trees.{Nested, flatten}
use Rattle.meaning.specs.Uses.{count}
use Rattle.meaning.specs.Values.{dimensions_in}
use Rattle.storage.specs.Checked.{glossary_of}
use Rattle.storage.specs.Numbered.{named_of}
use Rattle.code_laws.specs.Meant.{Setting}
use Rattle.compiler.specs.Ruly.{AllKeep, IsElement, IsRuly, IsRulyPlace}
use Rattle.rule_laws.specs.Evaluated.{IsFit, IsReady, IsTarget, IsTargetAs, evaluated, in_item, in_items, in_limits, names_of, numbers_of, targets_of}
use Rattle.rule_laws.specs.Read.{IsRead, IsShort, elements_set}
use Rattle.rule_laws.specs.References.{HasCell, HasElement}
use Rattle.rule_laws.specs.Units.{unit_of}
use Rattle.rule_laws.proofs.Cells.{array_cell}
use Rattle.rule_laws.proofs.Count.{few_cells}
use Rattle.rule_laws.proofs.Read.{unit_read}
use Rattle.rule_laws.proofs.Ready.{functions_ready, statements_ready}
use Rattle.rule_laws.proofs.Short.{bodies_short, evaluated_short, set_short, transfers_small}
use Rattle.rule_laws.proofs.Tests.{all_mapped, all_parts}
use Rattle.rule_laws.proofs.Unbroken.{all_lawful}
use Rattle.ruly_laws.specs.Statements.{AreItemsCodable, IsCodable, IsElementCodable, IsNameCodable, IsSmallLabel, IsValueCodable, setting_of, setting_within}
use Rattle.ruly_laws.proofs.Expressions.{all_ruly, element_is, listed_keep, ruly, small_parts}

module _ (s : Setting) (dummies : length s.dummies < 2 ^ 32) (cells : s.cells < 2 ^ 31) (all : s.callable ≡ length s.names.definitions) (stored : (n : List ℕ) (dims : List Dimension) → s.names.arrays n ≡ Some dims → HasElement s.numbers n) where
  abbrev Codes : List ExprTree → Type 0
  Codes es = AllByRecursion (IsRuly s) es

  abbrev HasVariable : List ℕ → Type 0
  HasVariable n = HasCell s.numbers n []

  -- ---- output lists

  name_codable : (n : List ℕ) (o : Option (List Dimension)) → s.names.arrays n ≡ o → Codes (if is_some o then [] else name n ∷ []) → IsNameCodable s n o
  name_codable n (Some dims) is codes = stored n dims is
  name_codable n None is codes = codes.0

  value_codable : (e : ExprTree) → Codes (in_item s.names.arrays e) → IsValueCodable s e
  value_codable (name n) codes = name_codable n (s.names.arrays n) refl codes
  value_codable (number digits) codes = codes.0
  value_codable (truth b) codes = codes.0
  value_codable (signed sign e) codes = codes.0
  value_codable (negated e) codes = codes.0
  value_codable (binary operator a b) codes = codes.0
  value_codable (paren e) codes = codes.0
  value_codable (element n es) codes = codes.0
  value_codable (call n) codes = codes.0

  items_codable : (list : ListItemsTree) → Codes (in_items s.names.arrays list) → AllByRecursion HasVariable (loop_variables list) → AreItemsCodable s list
  items_codable no_items codes counters = tt
  items_codable (more_items (value_item e) xs) codes counters =
      let p = all_parts (IsRuly s) (in_item s.names.arrays e) (in_items s.names.arrays xs) codes in
      (value_codable e p.0, items_codable xs p.1 counters)
  items_codable (more_items (loop_item ys variable limits) xs) codes counters =
      let p = all_parts (IsRuly s) (in_items s.names.arrays ys) (in_limits limits ++ in_items s.names.arrays xs) codes in
      let q = all_parts (IsRuly s) (in_limits limits) (in_items s.names.arrays xs) p.1 in
      let v = all_parts HasVariable (loop_variables ys) (loop_variables xs) counters.1 in
      ((record { counter = counters.0; are = q.0 }, items_codable ys p.0 v.0), items_codable xs q.1 v.1)

  -- ---- assignments

  place_ruly : (n : List ℕ) (d : ExprTree) (ds : ExprsTree) (dims : List Dimension) → s.names.arrays n ≡ Some dims → IsTargetAs s.numbers n (suc (count ds)) (Some dims) → AllKeep s (exprs d ds) → IsShort (element n (exprs d ds)) → IsRulyPlace s n (exprs d ds)
  place_ruly n d ds dims is target keep short =
      record {
        element = subst (λ o. IsElement s n (exprs d ds) (dimensions_in o)) (sym is) (element_is s n (exprs d ds) dims target.0 target.1);
        keep = keep;
        small = small_parts s dummies cells (element n (exprs d ds)) short;
      }

  element_codable : (n : List ℕ) (d e : ExprTree) (ds : ExprsTree) (o : Option (List Dimension)) → s.names.arrays n ≡ o → IsTargetAs s.numbers n (suc (count ds)) o → Codes (if is_some o then d ∷ (listed ds ++ e ∷ []) else []) → IsShort (element n (exprs d ds)) → IsElementCodable s n (exprs d ds) e o
  element_codable n d e ds (Some dims) is target codes short =
      let p = all_parts (IsRuly s) (d ∷ listed ds) (e ∷ []) codes in
      (place_ruly n d ds dims is target (listed_keep s (exprs d ds) p.0) short, p.1.0)
  element_codable n d e ds None is target codes short = tt

  -- ---- statements

  codable : (x : ShapeTree) → IsWell x → Codes (evaluated s.names.arrays x) → AllByRecursion (IsTarget s.names.arrays s.numbers) (targets_of x) → AllByRecursion HasVariable (controlled_by x) → AllByRecursion (λ n. n ≤ 99999) (transfers_of x) → AllByRecursion IsShort (elements_set x) → IsCodable s x
  codable (assignment n no_exprs e) well codes targets counters labels short = (targets.0, codes.0)
  codable (assignment n (exprs d ds) e) well codes targets counters labels short =
      element_codable n d e ds (s.names.arrays n) refl targets.0 codes short.0
  codable (writing control list) well codes targets counters labels short = items_codable list codes counters
  codable (printing source list) well codes targets counters labels short = items_codable list codes counters
  codable (doing label comma variable limits) well codes targets counters labels short = record { counter = counters.0; are = codes }
  codable (doing_while label comma e) well codes targets counters labels short = codes.0
  codable (going label) well codes targets counters labels short = labels.0
  codable (computed_going digits comma e) well codes targets counters labels short =
      (all_mapped (λ n. n ≤ 99999) number_of digits labels, codes.0)
  codable (arithmetic_if e negative zeroed positive) well codes targets counters labels short =
      (codes.0, labels.0, labels.1.0, labels.1.1.0)
  codable (logical_if e x) well codes targets counters labels short =
      (codes.0, well.1.0, codable x well.1.1 codes.1 targets counters labels short)
  codable (block_if e) well codes targets counters labels short = codes.0
  codable (else_if e) well codes targets counters labels short = codes.0
  codable x well codes targets counters labels short = tt

  statement_codable : (x : ShapeTree) → IsReady s.names s.numbers x → IsRead x → IsCodable s x
  statement_codable x ready read =
      let fit = subst (λ n. AllByRecursion (IsFit s.names s.numbers n) (evaluated s.names.arrays x)) (sym all) ready.expressions in
      codable x read.well (all_ruly s dummies cells (evaluated s.names.arrays x) fit (evaluated_short s.names.arrays x read)) ready.targets ready.counters (transfers_small x read.well) (set_short x read)

  each_codable : (xs : List ItemTree) → AllByRecursion (λ x. IsReady s.names s.numbers x.shape) xs → AllByRecursion (λ x. IsRead x.shape) xs → AllByRecursion (λ x. IsCodable s x.shape) xs
  each_codable [] ready read = tt
  each_codable (x ∷ xs) ready read = (statement_codable x.shape ready.0 read.0, each_codable xs ready.1 read.1)

-- ---- whole program units

pub statements_codable : (source : List ℕ) (t : Nested) → unit_of source ≡ Ok t → checked t ≡ Ok t → AllByRecursion (λ x. IsCodable (setting_of t) x.shape) (flatten t)
statements_codable source t spelled accepted =
    each_codable (setting_of t) (omega arith) (few_cells source t spelled accepted) refl (λ n dims is. array_cell (flatten t) (all_lawful t accepted) n dims is) (flatten t) (statements_ready t accepted) (unit_read source t spelled)

at_place : {A : Type 0} (P : A → Type 0) (xs : List A) (i : ℕ) (x : A) → AllByRecursion P xs → slice_get xs i ≡ Some x → P x
at_place P [] i x h is = absurd cc
at_place P (y ∷ ys) zero x h is = let same : y ≡ x = cc in subst P same h.0
at_place P (y ∷ ys) (suc i) x h is = at_place P ys i x h.1 is

pub functions_codable : (source : List ℕ) (t : Nested) → unit_of source ≡ Ok t → checked t ≡ Ok t → (at : ℕ) (d : Definition) → slice_get (names_of t).definitions at ≡ Some d → IsRuly (setting_within t at d) d.body
functions_codable source t spelled accepted at d is =
    let ready = functions_ready t accepted at d is in
    let short = at_place (λ (e : Definition). IsShort e.body) (names_of t).definitions at d (bodies_short (names_of t).arrays (flatten t) (unit_read source t spelled)) is in
    let few = ready.dummies in
    ruly (setting_within t at d) (omega (arith, few)) (few_cells source t spelled accepted) d.body ready.body short

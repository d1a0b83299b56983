-- DO statements and block IFs are executable: no statement function stands in them or behind them.
use Rattle.std.proofs.Common.{◌≡◌, ℕ, Bool, false, List, [], ◌∷◌, Option, None, Ok, refl, sym, ap₂, subst}
use Rattle.meaning.specs.Nesting.{AreArms, IsWell, effect_of, joined, opens_block, opens_range}
use Rattle.meaning.specs.Scopes.{defined_before, defined_by, definitions_of, is_specification}
use Rattle.meaning.specs.Syntax.{ItemTree, ShapeTree, block_if, doing, doing_while}
use Rattle.meaning.specs.Trees.{Arms, Members, Nested, arm, block, flat, loop, no_arms, none, plain}
use Rattle.meaning.specs.Values.{Arrays}
use Rattle.rule_laws.specs.Read.{HeadsExecute}
use Rattle.rule_laws.specs.Units.{unit_of}
use Rattle.rule_laws.proofs.Lines.{is_unit}

module _ (arrays : Arrays) where
  -- it is executable, and defines none
  abbrev Executes : ShapeTree → Type 0
  Executes s = (defined_by arrays s ≡ None) × (is_specification s ≡ false)

  range_executes : (s : ShapeTree) (label : Option ℕ) → effect_of s ≡ opens_range label → Executes s
  range_executes (doing named comma variable limits) label h = (refl, refl)
  range_executes (doing_while named comma e) label h = (refl, refl)
  range_executes s label h = absurd cc

  block_executes : (s : ShapeTree) → effect_of s ≡ opens_block → Executes s
  block_executes (block_if e) h = (refl, refl)
  block_executes s h = absurd cc

  none_behind : (x : ItemTree) (xs : List ItemTree) → Executes x.shape → definitions_of arrays (x ∷ xs) ≡ []
  unfolding definitions_of
  none_behind x xs h = ap₂ (λ o b. defined_before o b (definitions_of arrays xs)) h.0 h.1

  block_none : (around : ℕ) (arms : Arms) (x : ItemTree) (ms : Members) → AreArms around arms → definitions_of arrays (flat (block arms x ms)) ≡ []
  block_none around no_arms x ms h = absurd h
  block_none around (arm y range arms) x ms h = none_behind y _ (block_executes y.shape h.0)

  heads : (in_range : Bool) (around : ℕ) (ms others : Members) → IsWell in_range around ms → HeadsExecute arrays others → HeadsExecute arrays (joined ms others)
  heads in_range around none others h k = k
  heads in_range around (plain x ms) others h k = heads in_range around ms others h.1 k
  heads in_range around (loop x range ms) others h k =
      (none_behind x _ (range_executes x.shape h.1.label h.1.names), heads in_range around ms others h.3 k)
  heads in_range around (block arms x ms) others h k =
      (block_none around arms x (joined ms others) h.1, heads in_range around ms others h.3 k)

  pub heads_execute : (source : List ℕ) (t : Nested) → unit_of source ≡ Ok t → HeadsExecute arrays t.body
  heads_execute source t is =
      let well = (is_unit source t is).well in
      subst (HeadsExecute arrays) (sym well.parts) (heads false 0 well.front (plain well.last none) well.well tt)

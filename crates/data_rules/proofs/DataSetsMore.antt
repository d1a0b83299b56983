-- One set, and one set more.
use Rattle.std.proofs.Common.{◌≡◌, ℕ, ◌+◌, ◌<◌, ◌≤◌, Bool, List, [], length, get_or, drop, map, Option, Some, None, sym, ap, ◌∙◌}
use Rattle.std.specs.Prelude.{if◌then◌else◌}
use Rattle.std.proofs.lemmas.List.{drop_all, drop_more}
use Rattle.meaning.specs.declared.syntax.DataSet.{DataSet}
use Rattle.meaning.specs.declared.syntax.DataValue.{DataValue}
use Rattle.meaning.specs.Initial.{and_also}
use Rattle.meaning.specs.Syntax.{data_set_tree, data_value_tree, list_items_tree}
use Rattle.meaning.specs.Uses.{Symbols}
use Rattle.meaning.specs.Values.{Known}
use Rattle.symbols.specs.SymbolsAt.{symbols_at}
use Rattle.data_rules.specs.declared.data_values.Values.{Values}
use Rattle.data_rules.specs.declared.filling.Filling.{Filling}
use Rattle.declarations.specs.declared.known.Scope.{Scope}
use Rattle.declarations.specs.declared.known.Table.{Table}
use Rattle.data_rules.specs.DataRuns.{values_left, values_of}
use Rattle.data_rules.specs.DataStages.{Stage, is_empty_list}
use Rattle.data_rules.specs.DataSets.{fill_list, fill_set, fill_sets, if_used_up, stage_by, with_values}
use Rattle.data_rules.specs.Filled.{stage_at}
use Rattle.declarations.specs.Tables.{known_at, scope_known, with_own}

-- a list that was given its values, of which some may be left over
pub used_up_given : (b : Bool) (o : Option Stage) (s : Stage) → o ≡ Some s → b ≡ is_empty_list s.values → and_also o if_used_up ≡ (if b then Some (with_values [] s) else None)
used_up_given b o s is h =
    ap (λ p. and_also p if_used_up) is ∙ ap (λ d. if d then Some (with_values [] s) else None) (sym h)

-- what the list of a set is given, in a scope with no names of its own
pub set_given : (t : Table) (s : Scope) (v : Values) (f : Filling) (x : DataSet) (xs : List DataValue) → s.table.now ≡ t → s.own.items ≡ [] → values_left v ≡ values_of (known_at t) (map data_value_tree xs) → xs ≡ x.values.items → fill_list (symbols_at s.table.now.symbols.now) (scope_known s) (list_items_tree x.list) (stage_at f v) ≡ fill_set (symbols_at t.symbols.now) (known_at t) (data_set_tree x) (stage_by f)
set_given t s v f x xs table own left are =
    ap (λ os. fill_list (symbols_at s.table.now.symbols.now) (with_own (known_at s.table.now) os) (list_items_tree x.list) (stage_at f v)) own
    ∙ ap (λ u. fill_list (symbols_at u.symbols.now) (known_at u) (list_items_tree x.list) (stage_at f v)) table
    ∙ ap (λ os. fill_list (symbols_at t.symbols.now) (known_at t) (list_items_tree x.list) (with_values os (stage_by f))) (left ∙ ap (λ ys. values_of (known_at t) (map data_value_tree ys)) are)

module _ (r : Symbols) (known : Known) (sets : List DataSet) (i : ℕ) where
  abbrev left : ℕ → Stage → Option Stage
  left k s = fill_sets r known (map data_set_tree (drop k sets)) s

  set_first : (x : DataSet) (s : Stage) (o : Option Stage) → i < length sets → x ≡ get_or sets i x → o ≡ fill_set r known (data_set_tree x) s → left i s ≡ and_also o (left (i + 1))
  set_first x s o lt is given =
      ap (λ xs. fill_sets r known (map data_set_tree xs) s) (drop_more sets i x lt)
      ∙ ap (λ y. and_also (fill_set r known (data_set_tree y) s) (left (i + 1))) (sym is)
      ∙ ap (λ p. and_also p (left (i + 1))) (sym given)

  pub set_more : (x : DataSet) (s next : Stage) (all : Option Stage) → i < length sets → x ≡ get_or sets i x → Some next ≡ fill_set r known (data_set_tree x) s → left i s ≡ all → left (i + 1) next ≡ all
  set_more x s next all lt is given so_far = sym (set_first x s (Some next) lt is given) ∙ so_far

  pub set_misfit : (x : DataSet) (s : Stage) (all : Option Stage) → i < length sets → x ≡ get_or sets i x → None ≡ fill_set r known (data_set_tree x) s → left i s ≡ all → None ≡ all
  set_misfit x s all lt is given so_far = sym (set_first x s None lt is given) ∙ so_far

  pub sets_end : (s : Stage) (all : Option Stage) → length sets ≤ i → left i s ≡ all → Some s ≡ all
  sets_end s all le so_far = sym (ap (λ xs. fill_sets r known (map data_set_tree xs) s) (drop_all i sets le)) ∙ so_far

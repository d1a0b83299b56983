use Rattle.std.proofs.Common.{◌≡◌, [], map, drop}
use Rattle.std.specs.List.{list_any}
use Rattle.meaning.specs.LoopRules.{resets_in}
use Rattle.meaning.specs.Syntax.{DataSetTree, data_set_tree}
use Rattle.statement_rules.proofs.control.has_resetting.Given as goal

abbrev pub invariant-loop-set : goal.invariant-loop-set
invariant-loop-set l =
    list_any (λ (s : DataSetTree). resets_in [] s.list) (map data_set_tree (drop l.set-index l.sets)) ≡ list_any (λ (s : DataSetTree). resets_in [] s.list) (map data_set_tree l.sets)

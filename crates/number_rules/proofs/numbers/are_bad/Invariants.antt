use Rattle.std.proofs.Common.{◌≡◌, map, drop}
use Rattle.meaning.specs.NumberRules.{is_bad_constant}
use Rattle.meaning.specs.Syntax.{constant_tree}
use Rattle.declarations.specs.Tables.{scope_known, scope_types}
use Rattle.number_rules.proofs.numbers.are_bad.Given as goal

abbrev pub invariant-loop-constant : goal.invariant-loop-constant
invariant-loop-constant l = record {
  left : is_bad_constant (scope_types l.initial.scope) (scope_known l.scope) (map constant_tree (drop l.constant-index l.constants)) ≡ is_bad_constant (scope_types l.initial.scope) (scope_known l.initial.scope) (map constant_tree l.constants);
  table : l.scope.table ≡ l.initial.scope.table;
}

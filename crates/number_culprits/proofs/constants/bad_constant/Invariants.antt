use Rattle.std.proofs.Common.{◌≡◌, map, drop}
use Rattle.meaning.specs.Syntax.{constant_tree}
use Rattle.declarations.specs.Tables.{scope_known, scope_types}
use Rattle.number_culprits.specs.Known.{bad_constant_at}
use Rattle.number_culprits.specs.Numbers.{bad_constant}
use Rattle.number_culprits.proofs.constants.bad_constant.Given as goal

abbrev pub invariant-loop-constant : goal.invariant-loop-constant
invariant-loop-constant l = record {
  left : bad_constant (scope_types l.initial.scope) (scope_known l.scope) (map constant_tree (drop l.constant-index l.constants)) ≡ bad_constant_at l.initial.scope l.constants;
  table : l.scope.table ≡ l.initial.scope.table;
}

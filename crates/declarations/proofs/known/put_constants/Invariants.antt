use Rattle.std.proofs.Common.{◌≡◌, map, take}
use Rattle.std.specs.List.{fold}
use Rattle.meaning.specs.Syntax.{constant_tree}
use Rattle.meaning.specs.Scopes.{with_constant}
use Rattle.declarations.specs.Tables.{known_at, types_in}
use Rattle.declarations.proofs.known.put_constants.Given as goal

abbrev pub invariant-loop-constant : goal.invariant-loop-constant
invariant-loop-constant l = record {
  known : known_at l.table ≡ fold (with_constant (types_in l.initial.table)) (known_at l.initial.table) (map constant_tree (take l.constant-index l.constants));
  symbols : l.table.symbols ≡ l.initial.table.symbols;
}

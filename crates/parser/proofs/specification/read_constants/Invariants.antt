use Rattle.std.proofs.Common.{◌≡◌, ◌+◌, ◌-◌, length}
use Rattle.std.specs.Prelude.{map}
use Rattle.meaning.specs.Syntax.{constant_tree}
use Rattle.meaning.specs.Reading.{constant_at, separated_at}
use Rattle.parser.proofs.Separated.{others_at}
use Rattle.parser.proofs.specification.read_constants.Given as goal

abbrev pub invariant-loop : goal.invariant-loop
invariant-loop l = others_at constant_at (map constant_tree l.list.items) (l.end - l.counter) l.rest ≡ separated_at constant_at (length l.text + 1) l.text

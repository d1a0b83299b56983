use Rattle.std.proofs.Common.{◌≡◌, ◌+◌, ◌-◌, length}
use Rattle.std.specs.Prelude.{map}
use Rattle.meaning.specs.Syntax.{bounds_tree}
use Rattle.meaning.specs.Reading.{bounds_at, separated_at}
use Rattle.parser.proofs.Separated.{others_at}
use Rattle.parser.proofs.declarators.read_bounds_list.Given as goal

abbrev pub invariant-loop : goal.invariant-loop
invariant-loop l = others_at bounds_at (map bounds_tree l.list.items) (l.end - l.counter) l.rest ≡ separated_at bounds_at (length l.text + 1) l.text

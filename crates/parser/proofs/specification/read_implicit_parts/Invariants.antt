use Rattle.std.proofs.Common.{◌≡◌, ◌+◌, ◌-◌, length}
use Rattle.std.specs.Prelude.{map}
use Rattle.meaning.specs.Syntax.{implicit_tree}
use Rattle.meaning.specs.Reading.{implicit_at, separated_at}
use Rattle.parser.proofs.Separated.{others_at}
use Rattle.parser.proofs.specification.read_implicit_parts.Given as goal

abbrev pub invariant-loop : goal.invariant-loop
invariant-loop l = others_at implicit_at (map implicit_tree l.list.items) (l.end - l.counter) l.rest ≡ separated_at implicit_at (length l.text + 1) l.text

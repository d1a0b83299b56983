use Rattle.std.proofs.Common.{◌≡◌, ◌+◌, ◌-◌, length}
use Rattle.std.specs.Prelude.{map}
use Rattle.meaning.specs.Syntax.{declarator_tree}
use Rattle.meaning.specs.Reading.{declarator_at, separated_at}
use Rattle.parser.proofs.Separated.{others_at}
use Rattle.parser.proofs.declarators.read_declarators.Given as goal

abbrev pub invariant-loop : goal.invariant-loop
invariant-loop l = others_at declarator_at (map declarator_tree l.list.items) (l.end - l.counter) l.rest ≡ separated_at declarator_at (length l.text + 1) l.text

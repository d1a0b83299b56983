use Rattle.std.proofs.Common.{◌≡◌, ◌+◌, ◌-◌, length}
use Rattle.std.specs.Prelude.{map}
use Rattle.meaning.specs.Syntax.{letters_tree}
use Rattle.meaning.specs.Reading.{letters_at, separated_at}
use Rattle.parser.proofs.Separated.{others_at}
use Rattle.parser.proofs.specification.read_letters_list.Given as goal

abbrev pub invariant-loop : goal.invariant-loop
invariant-loop l = others_at letters_at (map letters_tree l.list.items) (l.end - l.counter) l.rest ≡ separated_at letters_at (length l.text + 1) l.text

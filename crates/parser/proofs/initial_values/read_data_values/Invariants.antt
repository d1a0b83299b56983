use Rattle.std.proofs.Common.{◌≡◌, ◌+◌, ◌-◌, length}
use Rattle.std.specs.Prelude.{map}
use Rattle.meaning.specs.Syntax.{data_value_tree}
use Rattle.meaning.specs.Reading.{data_value_at, separated_at}
use Rattle.parser.proofs.Separated.{others_at}
use Rattle.parser.proofs.initial_values.read_data_values.Given as goal

abbrev pub invariant-loop : goal.invariant-loop
invariant-loop l = others_at data_value_at (map data_value_tree l.list.items) (l.end - l.counter) l.rest ≡ separated_at data_value_at (length l.text + 1) l.text

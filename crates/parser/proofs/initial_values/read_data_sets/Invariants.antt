use Rattle.std.proofs.Common.{◌≡◌, ◌+◌, ◌-◌, length, map}
use Rattle.meaning.specs.Syntax.{data_set_tree}
use Rattle.meaning.specs.Reading.{data_sets_of}
use Rattle.parser.proofs.Sets.{others_of}
use Rattle.parser.proofs.initial_values.read_data_sets.Given as goal

abbrev pub invariant-loop : goal.invariant-loop
invariant-loop l = others_of (map data_set_tree l.sets.items) (l.end - l.counter) l.rest ≡ data_sets_of (length l.text + 1) l.text

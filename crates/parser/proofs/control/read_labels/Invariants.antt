use Rattle.std.proofs.Common.{◌≡◌, ◌+◌, ◌-◌, length}
use Rattle.std.specs.Prelude.{map}
use Rattle.meaning.specs.Reading.{label_at, separated_at}
use Rattle.parser.proofs.Separated.{others_at}
use Rattle.parser.proofs.control.read_labels.Given as goal

abbrev pub invariant-loop : goal.invariant-loop
invariant-loop l = others_at label_at (map (λ l. l.items) l.list.items) (l.end - l.counter) l.rest ≡ separated_at label_at (length l.text + 1) l.text
